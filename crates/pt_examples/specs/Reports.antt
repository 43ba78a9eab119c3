-- An example of a report: one iteration of a Ramp and a Scale, told in full.
use Rattle.std.specs.Prelude.{ℕ, zero, suc, [], ◌∷◌}
use Rattle.pt_meaning.specs.Tag.{origin}
use Rattle.pt_meaning.specs.Log.{Path, Log, Finished}
use Rattle.pt_meaning.specs.Closed.{UnderWay, IsClosed}
use Rattle.pt_meaning.specs.Step.{no_meetings}
use Rattle.pt_meaning.specs.Job.{Schedule, Iterations}
use Rattle.pt_meaning.specs.Schedule.{sdf_top}
use Rattle.pt_meaning.specs.Headline.{Defined, IsReportOf}
use Rattle.pt_examples.specs.Dataflow.{doubled}
use Rattle.pt_examples.specs.Models.{at_origin}
use Rattle.pt_examples.specs.Small.{Token, Act, int, rows}

abbrev pub once : Schedule Token Act
once = sdf_top 1 [] []

-- the run counts one firing of the top and one of each child
abbrev pub one_each : Path → ℕ
one_each [] = 1
one_each (zero ∷ []) = 1
one_each (suc zero ∷ []) = 1
one_each (i ∷ p) = 0

-- The trace of the Scale is 0 and the end is iterations, with a budget of 4: the run makes three firings.
abbrev pub ReportExample : Type 0
ReportExample = IsReportOf rows no_meetings once doubled (record { path = 1 ∷ []; port = 0 } ∷ []) 4 (λ p. 1) one_each (at_origin (0 ∷ []) ∷ []) (Defined Iterations)

-- the Scale's firing without the Ramp's
abbrev pub scale_alone : Log Token
scale_alone (suc zero ∷ []) = Finished (0 ∷ []) (record { number = 0; tag = origin; inputs = (int 0 ∷ []) ∷ []; outputs = (int 0 ∷ []) ∷ [] }) ∷ []
scale_alone p = []

-- It is no closed log, whatever firings are under way: the token that the Scale took has no cause.
abbrev pub UnclosedExample : Type 0
UnclosedExample = (whole : Log Token) (way : UnderWay Token) → IsClosed rows doubled whole scale_alone way → ⊥
