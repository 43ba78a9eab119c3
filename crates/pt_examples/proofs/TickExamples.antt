-- The examples of SR compute.
use Rattle.std.proofs.Common.{refl}
use Rattle.pt_meaning.specs.Flow.{flow}
use Rattle.pt_meaning.specs.Rounds.{round}
use Rattle.pt_meaning.specs.Kahn.{kahn}
use Rattle.pt_meaning.specs.Valuation.{valuation, tick}
use Rattle.pt_meaning.specs.Process.{advanced}
use Rattle.pt_meaning.specs.Rendezvous.{under_meetings}
use Rattle.pt_meaning.specs.Step.{step_at}
use Rattle.pt_meaning.specs.Job.{after}
use Rattle.pt_examples.specs.Ticks.{TickExamples}

pub tick_examples : TickExamples
unfolding after step_at kahn round flow valuation tick under_meetings advanced
tick_examples = record {
  first_mux = refl;
  second_mux = refl;
  stays_unknown = refl;
  counts = refl;
  second_token = refl;
  sums_inputs = refl;
  both_present = refl;
  both_absent = refl;
  one_over = refl;
  inputs_over = refl;
  iterations_made = refl;
  without_tokens = refl;
  without_inputs = refl;
}
