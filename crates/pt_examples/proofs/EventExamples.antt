-- The examples of DE compute.
use Rattle.std.proofs.Common.{refl}
use Rattle.pt_meaning.specs.Flow.{flow}
use Rattle.pt_meaning.specs.Rounds.{round}
use Rattle.pt_meaning.specs.Kahn.{kahn}
use Rattle.pt_meaning.specs.Valuation.{valuation, tick}
use Rattle.pt_meaning.specs.Process.{advanced}
use Rattle.pt_meaning.specs.Rendezvous.{under_meetings}
use Rattle.pt_meaning.specs.Step.{step_at}
use Rattle.pt_meaning.specs.Job.{after}
use Rattle.pt_examples.specs.Events.{EventExamples}

pub event_examples : EventExamples
unfolding after step_at kahn round flow valuation tick under_meetings advanced
event_examples = record {
  delays_by_microstep = refl;
  clocks_meet = refl;
  serves = refl;
  is_idle = refl;
  sums_in_order = refl;
  passes_both = refl;
  delays_both = refl;
  passes_the_end = refl;
  reaches_the_end = refl;
  gives_once = refl;
  sums_events = refl;
  one_microstep = refl;
  no_microstep = refl;
}
