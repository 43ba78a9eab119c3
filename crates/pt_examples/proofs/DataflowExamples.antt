-- The examples of SDF compute.
use Rattle.std.proofs.Common.{refl}
use Rattle.pt_meaning.specs.Flow.{flow}
use Rattle.pt_meaning.specs.Rounds.{round}
use Rattle.pt_meaning.specs.Kahn.{kahn}
use Rattle.pt_meaning.specs.Valuation.{valuation, tick}
use Rattle.pt_meaning.specs.Step.{step_at}
use Rattle.pt_meaning.specs.Job.{after}
use Rattle.pt_examples.specs.Dataflow.{DataflowExamples}

pub dataflow_examples : DataflowExamples
unfolding after step_at kahn round flow valuation tick
dataflow_examples = record {
  doubles = refl;
  nine_firings = refl;
  doubles_once = refl;
  no_iteration = refl;
  makes_arrays = refl;
  starts = (refl, refl, refl, ((refl, refl), ((refl, refl), ((refl, refl), tt))));
  counts = refl;
  forks_left = refl;
  forks_right = refl;
  adds = refl;
  overflows = refl;
  evaluates = refl;
  divides_by_zero = refl;
  joins_texts = refl;
  one_pair = refl;
  gives_twice = refl;
  absent_is_no_rate = refl;
  one_is_not_two = refl;
}
