-- The examples of own inputs that feed nothing compute.
use Rattle.std.proofs.Common.{refl, arith}
use Rattle.pt_meaning.specs.Flow.{flow}
use Rattle.pt_meaning.specs.Rounds.{round}
use Rattle.pt_meaning.specs.Kahn.{kahn}
use Rattle.pt_meaning.specs.Valuation.{valuation, tick}
use Rattle.pt_meaning.specs.Step.{step_at}
use Rattle.pt_meaning.specs.Job.{after}
use Rattle.pt_examples.specs.Unfed.{UnfedExamples}

pub unfed_examples : UnfedExamples
unfolding after step_at kahn round flow valuation tick
unfed_examples = record {
  fits = ((refl, refl, refl), (refl, refl, refl), (tt, tt));
  planned = (omega arith, (tt, tt));
  starts = (refl, refl, refl, ((refl, refl), tt));
  fewest_bound = refl;
  keeps_fed = refl;
  takes_unfed = refl;
  keeps_unfed = refl;
  makes_none = refl;
  keeps_all = refl;
  drives_none = refl;
  drives_one = refl;
  drives_three = refl;
  takes_one_each = refl;
  gives_nested = refl;
  waits_for_both = refl;
}
