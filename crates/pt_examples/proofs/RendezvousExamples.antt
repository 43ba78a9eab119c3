-- The examples of Rendezvous compute.
use Rattle.std.proofs.Common.{refl}
use Rattle.pt_meaning.specs.Flow.{flow}
use Rattle.pt_meaning.specs.Rounds.{round}
use Rattle.pt_meaning.specs.Kahn.{kahn}
use Rattle.pt_meaning.specs.Valuation.{valuation, tick}
use Rattle.pt_meaning.specs.Process.{advanced}
use Rattle.pt_meaning.specs.Rendezvous.{under_meetings}
use Rattle.pt_meaning.specs.Step.{step_at}
use Rattle.pt_meaning.specs.Job.{after}
use Rattle.pt_examples.specs.Rendezvous.{RendezvousExamples}

pub rendezvous_examples : RendezvousExamples
unfolding after step_at kahn round flow valuation tick under_meetings advanced
rendezvous_examples = record {
  merges = refl;
  merges_told = refl;
  merges_otherwise = refl;
  otherwise_told = refl;
  joins = refl;
  joins_told = refl;
  scales_below_de = refl;
  scales_told = refl;
  not_legal = refl;
  too_short = refl;
  not_alone = refl;
}
