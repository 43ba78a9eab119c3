-- The models of nested directors compute.
use Rattle.std.proofs.Common.{refl}
use Rattle.pt_meaning.specs.Flow.{flow}
use Rattle.pt_meaning.specs.Rounds.{round}
use Rattle.pt_meaning.specs.Kahn.{kahn}
use Rattle.pt_meaning.specs.Valuation.{valuation, tick}
use Rattle.pt_meaning.specs.Process.{advanced}
use Rattle.pt_meaning.specs.Rendezvous.{under_meetings}
use Rattle.pt_meaning.specs.Step.{step_at}
use Rattle.pt_meaning.specs.Job.{after}
use Rattle.pt_examples.specs.Nesting.{NestingExamples}

pub nesting_examples : NestingExamples
unfolding after step_at kahn round flow valuation tick under_meetings advanced
nesting_examples = record {
  lags_add = refl;
  lags_outer = refl;
  lags_inner = refl;
  gathers = refl;
  first_meetings = refl;
  second_meetings = refl;
  pairs = refl;
  sums = refl;
  pairs_in_pairs = refl;
  lasts = refl;
  takes_turns = refl;
  inner_delay = refl;
  outer_delay = refl;
  scales_in_pn = refl;
  keeps_tokens = refl;
  loses_tokens = refl;
  keeps_sum = refl;
  loses_sum = refl;
  is_strict = refl;
  two_ticks = refl;
}
