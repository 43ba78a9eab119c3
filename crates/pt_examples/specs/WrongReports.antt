-- Reports that are none, each for one of the things that a report promises.
use Rattle.std.specs.Prelude.{ℕ, List, [], ◌∷◌, pos}
use Rattle.pt_meaning.specs.Tag.{Tag}
use Rattle.pt_meaning.specs.Log.{Path}
use Rattle.pt_meaning.specs.Net.{Own, Output}
use Rattle.pt_meaning.specs.Tree.{Node, actor}
use Rattle.pt_meaning.specs.Step.{no_meetings}
use Rattle.pt_meaning.specs.Headline.{Port, Ending, Spent, Faulty, IsReportOf}
use Rattle.pt_examples.specs.Small as small
use Rattle.pt_examples.specs.Small.{Token, Computed, Act, Scale, rows, ramp}
use Rattle.pt_examples.specs.Dataflow.{doubled, evaluating}
use Rattle.pt_examples.specs.Models.{sdf, place, at_origin}
use Rattle.pt_examples.specs.Reports.{once, one_each}

-- no log of one iteration of this model has these traces and this end, whatever was counted and whichever firings are under way
abbrev pub IsNoReport : Node Token Act → List Port → (budget : ℕ) → List (List (Tag × Token)) → Ending → Type 0
IsNoReport top recorded budget traces ending = (maximum counts : Path → ℕ) → IsReportOf rows no_meetings once top recorded budget maximum counts traces ending → ⊥

abbrev pub port_of : Path → Port
port_of p = record { path = p; port = 0 }

-- two Ramps, A and B, into a composite S of two Scales, ka and kb
abbrev pub two_scales : Node Token Act
two_scales = sdf (Own 0 ∷ Own 1 ∷ []) (1 ∷ 1 ∷ []) (1 ∷ 1 ∷ []) (1 ∷ 1 ∷ []) [] ((1 ∷ []) ∷ (1 ∷ []) ∷ []) (actor (Scale (pos 1)) ∷ actor (Scale (pos 1)) ∷ [])

abbrev pub feeding : Node Token Act
feeding = sdf (Output 0 0 ∷ Output 1 0 ∷ []) (0 ∷ 0 ∷ 2 ∷ []) (1 ∷ 1 ∷ 1 ∷ []) [] [] ((1 ∷ []) ∷ (1 ∷ []) ∷ [] ∷ []) (actor ramp ∷ actor ramp ∷ two_scales ∷ [])

-- S.ka gave 0 and B gave nothing, and the budget of 2 is spent. But where ka has fired, S has begun, and it took a token of B too.
abbrev pub UnderstatedExample : Type 0
UnderstatedExample = IsNoReport feeding (port_of (2 ∷ 0 ∷ []) ∷ port_of (1 ∷ []) ∷ []) 2 (at_origin (0 ∷ []) ∷ [] ∷ []) (Spent 2)

-- a composite S around a Ramp k, with the output o
abbrev pub around : Node Token Act
around = sdf (Output 0 0 ∷ []) (0 ∷ []) (1 ∷ []) [] (1 ∷ []) ((1 ∷ []) ∷ []) (actor ramp ∷ [])

abbrev pub enclosing : Node Token Act
enclosing = sdf [] (0 ∷ []) (1 ∷ []) [] [] ((1 ∷ []) ∷ []) (around ∷ [])

-- S.k gave nothing and S.o gave 0, and the budget of 1 is spent. But where S has fired, all that came within its firing stands there.
abbrev pub HollowExample : Type 0
HollowExample = IsNoReport enclosing (port_of (0 ∷ 0 ∷ []) ∷ port_of (0 ∷ []) ∷ []) 1 ([] ∷ at_origin (0 ∷ []) ∷ []) (Spent 1)

-- a Ramp into an expression that is faulty on each number
abbrev pub never : List Token → Computed
never xs = small.Faulty 30

abbrev pub failing : Node Token Act
failing = evaluating never

-- The Ramp gave nothing, and the expression is stuck in its first firing. But that firing is under way, and it took a token of the Ramp.
abbrev pub CauselessExample : Type 0
CauselessExample = IsNoReport failing (port_of (0 ∷ []) ∷ []) 10 ([] ∷ []) (Faulty (place (1 ∷ []) 0 30))

-- The Ramp gave 0, and the expression is stuck, as in its firing of number 1. But no firing of it is finished before.
abbrev pub MisnumberedExample : Type 0
MisnumberedExample = IsNoReport failing (port_of (0 ∷ []) ∷ []) 10 (at_origin (0 ∷ []) ∷ []) (Faulty (place (1 ∷ []) 1 30))

-- The Scale has fired once in this run, and its trace is empty: the log of such a report is another run's.
abbrev pub OfAnotherRunExample : Type 0
OfAnotherRunExample = (maximum : Path → ℕ) → IsReportOf rows no_meetings once doubled (port_of (1 ∷ []) ∷ []) 2 maximum one_each ([] ∷ []) (Spent 2) → ⊥
