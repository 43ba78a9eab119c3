-- What the planner makes of an iteration, among the definitions.
use Rattle.std.specs.Prelude.{◌≡◌, ℕ, ◌+◌, List, length, map, take, drop}
use Rattle.pt_meaning.specs.Sdf.{SdfPlan}
use Rattle.pt_core.specs.Source.{source_of}
use Rattle.pt_plan.specs.declared.inside.Inside.{Inside}
use Rattle.pt_plan.specs.declared.planning.Iteration.{Iteration}

-- the numbers of the children, the own inputs and the own outputs, cut out of the repetition vector
pub record IsCut (x : Inside) (q reps takes gives : List ℕ) : Type 0 where
  pub children : reps ≡ take (length x.places) q
  pub inputs : takes ≡ take x.inputs (drop (length x.places) q)
  pub outputs : gives ≡ drop (length x.places + x.inputs) q

-- the plan with these numbers and channels
abbrev pub planned : Inside → Iteration → SdfPlan
planned x made = record {
  net = record { sources = map source_of made.channels.sources.items; places = x.places };
  repetitions = made.counts.repetitions;
  takes = made.counts.takes;
  gives = made.counts.gives;
  rates = x.rates.items;
}
