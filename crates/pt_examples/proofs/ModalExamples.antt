-- The examples of Modal compute.
use Rattle.std.proofs.Common.{refl}
use Rattle.pt_meaning.specs.Flow.{flow}
use Rattle.pt_meaning.specs.Rounds.{round}
use Rattle.pt_meaning.specs.Kahn.{kahn}
use Rattle.pt_meaning.specs.Valuation.{valuation, tick}
use Rattle.pt_meaning.specs.Process.{advanced}
use Rattle.pt_meaning.specs.Rendezvous.{under_meetings}
use Rattle.pt_meaning.specs.Step.{step_at}
use Rattle.pt_meaning.specs.Job.{after}
use Rattle.pt_examples.specs.Modals.{ModalExamples}

pub modal_examples : ModalExamples
unfolding after step_at kahn round flow valuation tick under_meetings advanced
modal_examples = record {
  with_history = refl;
  without_history = refl;
  local_tags = refl;
  numbered_on = refl;
  two_enabled = refl;
  lags = refl;
  lags_and_wakes = refl;
}
