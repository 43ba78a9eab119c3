-- The logs of these models are closed, since each stands at its start, and its plans have a channel for each place.
use Rattle.std.proofs.Common.{◌≡◌, ℕ, zero, suc, ◌<◌, Some, refl, arith}
use Rattle.pt_meaning.specs.Tree.{Node}
use Rattle.pt_laws.specs.Heights.{FitsRefinements, IsFitting}
use Rattle.pt_meaning.specs.Start.{IsAtStart}
use Rattle.pt_laws.specs.StartedRuns.{ArePlans}
use Rattle.pt_laws.proofs.StartLaws.{started-logs-are-closed}
use Rattle.pt_examples.specs.Small.{Token, Act, rows}
use Rattle.pt_examples.specs.Dataflow.{doubled}
use Rattle.pt_examples.specs.Ticks.{counting}
use Rattle.pt_examples.specs.Events.{clocks}
use Rattle.pt_examples.specs.Rendezvous.{joining}
use Rattle.pt_examples.specs.Nesting.{by_turns, taking_turns, modal_in_pn_in_sdf}
use Rattle.pt_examples.specs.ClosedLogs.{HasClosedLogs, ClosedLogsExamples}
use Rattle.pt_examples.proofs.SmallLaws.{small_is_lawful}

closes : (top : Node Token Act) → IsFitting top → ArePlans top → IsAtStart rows top → HasClosedLogs top
closes top fitting plans start m plan k = started-logs-are-closed rows small_is_lawful m plan top fitting plans start k

-- a Modal with two refinements: its chart has an entry of each for its one output, and names these two
two-refined : FitsRefinements 2 by_turns
two-refined = record { named = its-refinement; outputs = λ i few. refl }
  where
    its-refinement : (mode i : ℕ) → by_turns.refinement mode ≡ Some i → i < 2
    its-refinement zero i e = let same : 0 ≡ i = cc in omega (arith, same)
    its-refinement (suc zero) i e = let same : 1 ≡ i = cc in omega (arith, same)
    its-refinement (suc (suc mode)) i e = absurd (cc)

turns-fit : IsFitting taking_turns
turns-fit = ((refl, two-refined), (refl, two-refined), (((refl, refl, refl), (refl, refl, refl), (tt, tt)), (((refl, refl, refl), (refl, refl, refl), (tt, tt)), tt)))

turns-planned : ArePlans taking_turns
turns-planned = (λ i. (omega arith, tt), ((omega arith, (tt, tt)), ((omega arith, (tt, tt)), tt)))

turns-start : IsAtStart rows taking_turns
turns-start = (refl, refl, refl, ((refl, refl, refl, ((refl, refl), tt)), ((refl, refl, refl, ((refl, refl), tt)), tt)))

pub closed_logs_examples : ClosedLogsExamples
closed_logs_examples = record {
  of_sdf = closes doubled ((refl, refl, refl), (refl, refl, refl), (tt, (tt, tt))) (omega arith, (tt, (tt, tt))) (refl, refl, refl, ((refl, refl), ((refl, refl), tt)));
  of_sr = closes counting (refl, refl, (tt, (tt, (tt, tt)))) (record { channels = omega arith; there = (omega arith, (omega arith, (omega arith, tt))) }, (tt, (tt, (tt, tt)))) (refl, refl, tt, ((refl, refl), ((refl, refl), ((refl, refl), tt))));
  of_de = closes clocks (refl, refl, (tt, (tt, (tt, tt)))) (record { channels = omega arith; there = (omega arith, (omega arith, tt)) }, (tt, (tt, (tt, tt)))) (refl, refl, tt, ((refl, refl), ((refl, refl), ((refl, refl), tt))));
  of_rendezvous = closes joining ((refl, refl, refl), (refl, refl, refl), (tt, (tt, (tt, (tt, tt))))) (record { channels = omega arith; there = (omega arith, (omega arith, (omega arith, tt))) }, (tt, (tt, (tt, (tt, tt))))) (refl, refl, refl, ((refl, refl), ((refl, refl), ((refl, refl), ((refl, refl), tt)))));
  below_a_modal = closes modal_in_pn_in_sdf ((refl, refl, refl), (refl, refl, refl), (tt, ((refl, refl, (turns-fit, tt)), (tt, tt)))) (omega arith, (tt, ((record { channels = omega arith; there = (omega arith, (omega arith, tt)) }, (turns-planned, tt)), (tt, tt)))) (refl, refl, refl, ((refl, refl), ((refl, refl, refl, (turns-start, tt)), ((refl, refl), tt))));
}
