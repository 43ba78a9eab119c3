-- Composites of the small library at their start, and how a run of one is told.
use Rattle.std.specs.Prelude.{ℕ, List, [], ◌∷◌, length, Bool}
use Rattle.pt_meaning.specs.Tag.{Tag}
use Rattle.pt_meaning.specs.Log.{Path, trace}
use Rattle.pt_meaning.specs.Machine.{Fault}
use Rattle.pt_meaning.specs.Net.{Source}
use Rattle.pt_meaning.specs.Modal.{Chart, first_modes}
use Rattle.pt_meaning.specs.Meetings.{Meets}
use Rattle.pt_meaning.specs.Rendezvous.{RvPlan, first_places}
use Rattle.pt_meaning.specs.Tree.{Sdf, Pn, Sr, De, Rv, Modal, Node, composite}
use Rattle.pt_meaning.specs.Step.{no_meetings}
use Rattle.pt_meaning.specs.Start.{first_held}
use Rattle.pt_meaning.specs.Job.{End, Schedule, Standing, Goes, Ended, Halted, after, begin}
use Rattle.pt_examples.specs.Small.{Token, Act, int, rows}

-- Composites by the sources of their channels, the numbers of places of their children, and the children. A dataflow channel holds its first tokens.
-- SDF: with the repetitions, what each own input takes and each own output gives in an iteration, and the rates of the outputs of each child.
abbrev pub sdf : List Source → (places repetitions takes gives : List ℕ) → (rates : List (List ℕ)) → List (Node Token Act) → Node Token Act
sdf sources places repetitions takes gives rates kids =
    composite (Sdf (record { net = record { sources = sources; places = places }; repetitions = repetitions; takes = takes; gives = gives; rates = rates }) (first_held rows kids sources)) kids

-- PN: with what each own input takes for a firing
abbrev pub pn : List Source → (places takes : List ℕ) → List (Node Token Act) → Node Token Act
pn sources places takes kids = composite (Pn (record { net = record { sources = sources; places = places }; takes = takes }) (first_held rows kids sources)) kids

-- SR and DE: with the number of own inputs
abbrev pub sr : List Source → (places : List ℕ) → (inputs : ℕ) → List (Node Token Act) → Node Token Act
sr sources places inputs kids = composite (Sr (record { net = record { sources = sources; places = places }; inputs = inputs })) kids

abbrev pub de : List Source → (places : List ℕ) → (inputs : ℕ) → List (Node Token Act) → Node Token Act
de sources places inputs kids = composite (De (record { net = record { sources = sources; places = places }; inputs = inputs })) kids

-- Rendezvous: with which children are Barriers
abbrev pub rv : List Source → (places : List ℕ) → (barriers : List Bool) → (takes : List ℕ) → List (Node Token Act) → Node Token Act
rv sources places barriers takes kids = at_first (record { net = record { sources = sources; places = places }; barriers = barriers; takes = takes }) kids
  where
    at_first : RvPlan → List (Node Token Act) → Node Token Act
    at_first p kids = composite (Rv p (first_places p)) kids

-- a Modal with its refinements
abbrev pub modal : Chart Token → List (Node Token Act) → Node Token Act
modal chart kids = composite (Modal chart (first_modes chart (length kids))) kids

-- the run at fuel k, of at most k firings, without meetings and under meetings
abbrev pub run : ℕ → Schedule Token Act → Node Token Act → Standing Token Act
run k plan top = after k rows no_meetings plan k (begin top)

abbrev pub run_under : Meets → ℕ → Schedule Token Act → Node Token Act → Standing Token Act
run_under m k plan top = after k rows m plan k (begin top)

-- how a run ends, if it does
pub data Ending : Type 0 where
  Running : Ending
  EndedBy : End → Ending
  StuckIn : List Fault → Ending

-- what a port gave in a run, and how it ended
abbrev pub told : Standing Token Act → Path → ℕ → List (Tag × Token) × Ending
told (Goes c) p port = (trace c.log p port, Running)
told (Ended e c) p port = (trace c.log p port, EndedBy e)
told (Halted fs l) p port = (trace l p port, StuckIn fs)

-- a tag, a stuck place, and traces of numbers: all at the origin, or each at its time and microstep
abbrev pub moment : ℕ → ℕ → Tag
moment t n = record { time = t; step = n }

abbrev pub place : Path → ℕ → ℕ → Fault
place path firing code = record { path = path; firing = firing; code = code }

abbrev pub at_origin : List ℕ → List (Tag × Token)
at_origin [] = []
at_origin (n ∷ ns) = (moment 0 0, int n) ∷ at_origin ns

abbrev pub timed : List (ℕ × ℕ × ℕ) → List (Tag × Token)
timed [] = []
timed ((t, n, x) ∷ xs) = (moment t n, int x) ∷ timed xs
