-- The models that aren't lawful compute, and are refused.
use Rattle.std.proofs.Common.{◌≡◌, length, refl, ap, arith}
use Rattle.pt_meaning.specs.Flow.{flow}
use Rattle.pt_meaning.specs.Rounds.{round}
use Rattle.pt_meaning.specs.Kahn.{kahn}
use Rattle.pt_meaning.specs.Valuation.{valuation, tick}
use Rattle.pt_meaning.specs.Step.{step_at}
use Rattle.pt_meaning.specs.Start.{IsAtStart}
use Rattle.pt_meaning.specs.Job.{after}
use Rattle.pt_laws.specs.Heights.{IsFitting}
use Rattle.pt_laws.specs.StartedRuns.{ArePlans}
use Rattle.pt_examples.specs.Small.{rows}
use Rattle.pt_examples.specs.Unlawful.{untimed, elsewhere, without_port, without_refinement, without_channel, without_event, without_input, without_source, without_trigger, UnlawfulExamples}

-- one time is to be listed, and none is
untimed-no-start : IsAtStart rows untimed → ⊥
untimed-no-start s = let e : 0 ≡ 1 = ap (λ m. length m.stays) s.3.1.0.2 in omega (arith, e)

-- mode 1 isn't mode 0
elsewhere-no-start : IsAtStart rows elsewhere → ⊥
elsewhere-no-start s = let e : 1 ≡ 0 = ap (λ m. m.mode) s.3.1.0.2 in omega (arith, e)

without-port-unfit : IsFitting without_port → ⊥
without-port-unfit f = let e : 0 ≡ 1 = f.2.1.0.0.1.outputs 0 (omega arith) in omega (arith, e)

without-refinement-unfit : IsFitting without_refinement → ⊥
without-refinement-unfit f = omega (arith, f.2.1.0.0.1.named 0 1 refl)

without-channel-unplanned : ArePlans without_channel → ⊥
without-channel-unplanned p = omega (arith, p.0.channels)

without-event-unplanned : ArePlans without_event → ⊥
without-event-unplanned p = omega (arith, p.0.channels)

without-input-unplanned : ArePlans without_input → ⊥
without-input-unplanned p = omega (arith, p.0.there.0)

without-source-unplanned : ArePlans without_source → ⊥
without-source-unplanned p = omega (arith, p.0.there.0)

without-trigger-unplanned : ArePlans without_trigger → ⊥
without-trigger-unplanned p = omega (arith, (p.1.1.0.0 0).0)

pub unlawful_examples : UnlawfulExamples
unfolding after step_at kahn round flow valuation tick
unlawful_examples = record {
  local_times_are_lost = refl;
  untimed_is_no_start = untimed-no-start;
  begins_late = refl;
  elsewhere_is_no_start = elsewhere-no-start;
  gives_seven = refl;
  action_is_dropped = refl;
  without_port_is_unfit = without-port-unfit;
  stands_still = refl;
  without_refinement_is_unfit = without-refinement-unfit;
  gives_nothing = refl;
  without_channel_is_unplanned = without-channel-unplanned;
  gives_nothing_at_events = refl;
  without_event_is_unplanned = without-event-unplanned;
  sums_nothing = refl;
  without_input_is_unplanned = without-input-unplanned;
  stays_unknown = refl;
  without_source_is_unplanned = without-source-unplanned;
  counts_nothing = refl;
  without_trigger_is_unplanned = without-trigger-unplanned;
}
