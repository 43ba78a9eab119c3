-- The tree of a model: library actors at the leaves, and composites with their directors. Each node keeps its start beside its state.
use Rattle.std.specs.Prelude.{ℕ, suc, max, List, [], ◌∷◌, ◌++◌, Bool, Option, Some, None}
use Rattle.pt_meaning.specs.Tag.{Tag}
use Rattle.pt_meaning.specs.Streams.{Streams}
use Rattle.pt_meaning.specs.Log.{Path}
use Rattle.pt_meaning.specs.Machine.{Need, Partial}
use Rattle.pt_meaning.specs.Sdf.{SdfPlan}
use Rattle.pt_meaning.specs.Pn.{PnPlan}
use Rattle.pt_meaning.specs.Valuation.{TickPlan}
use Rattle.pt_meaning.specs.Modal.{Chart, Modes}
use Rattle.pt_meaning.specs.Rendezvous.{RvPlan, Places}

-- what a library actor answers: its next state and its outputs, or the code of a fault
pub data Answer (T A : Type 0) : Type 0 where
  Gives : A → Streams T → Answer T A
  Fails : ℕ → Answer T A

-- The rows of a library of actors: what each state A says.
pub record Rows (T A : Type 0) : Type 0 where
  -- the first tokens, which stand at the start on the channels of the actor's output
  pub first : A → List T
  -- what it needs before it can fire, and its wake
  pub need : A → Need
  pub next : A → Option Tag
  -- its step at a tag, and what it gives early from inputs that are partly known
  pub react : Tag → A → Streams T → Answer T A
  pub early : Tag → A → List (Partial T) → List (Partial T)
  -- whether under DE it takes its lists whole, and whether it begins by itself: it has no input places and no wakes of its own
  pub whole : A → Bool
  pub begins : A → Bool

-- a director, with what it holds
pub data Core (T : Type 0) : Type 0 where
  Sdf : SdfPlan → Streams T → Core T
  Pn : PnPlan → Streams T → Core T
  Sr : TickPlan → Core T
  De : TickPlan → Core T
  Rv : RvPlan → Places T → Core T
  Modal : Chart T → Modes T → Core T

-- the number of a node's finished firings, and the time of the last one since the start or the last reset
pub record Past : Type 0 where
  pub made : ℕ
  pub last : Option ℕ

-- A node is a library actor or a composite: its past, its start, to which a reset brings it back, beside its state, and the children.
mutual
  pub data Node (T A : Type 0) : Type 0 where
    Actor : Past → (start now : A) → Node T A
    Composite : Past → (start now : Core T) → Nodes T A → Node T A

  pub data Nodes (T A : Type 0) : Type 0 where
    none : Nodes T A
    more : Node T A → Nodes T A → Nodes T A

-- the children as a list
abbrev pub list_of : {T A : Type 0} → Nodes T A → List (Node T A)
list_of none = []
list_of (more n ns) = n ∷ list_of ns

-- a list as children
abbrev pub nodes_of : {T A : Type 0} → List (Node T A) → Nodes T A
nodes_of [] = none
nodes_of (n ∷ ns) = more n (nodes_of ns)

-- the past of a node
abbrev pub past_of : {T A : Type 0} → Node T A → Past
past_of (Actor h a b) = h
past_of (Composite h c d kids) = h

-- how many firings a node has finished
abbrev pub made_of : {T A : Type 0} → Node T A → ℕ
made_of node = (past_of node).made

-- one firing more, at that time
abbrev pub fired_at : Tag → Past → Past
fired_at tag h = record { made = suc h.made; last = Some tag.time }

-- after a reset: the number of firings stays, the time of the last one does not
abbrev pub forgotten : Past → Past
forgotten h = record { made = h.made; last = None }

-- a reset brings back each core and each actor within to its start, and leaves the numbers of firings
abbrev mutual
  pub reset_of : {T A : Type 0} → Node T A → Node T A
  reset_of (Actor h a b) = Actor (forgotten h) a a
  reset_of (Composite h c d kids) = Composite (forgotten h) c c (reset_all kids)

  pub reset_all : {T A : Type 0} → Nodes T A → Nodes T A
  reset_all none = none
  reset_all (more n ns) = more (reset_of n) (reset_all ns)

-- a node at its start
abbrev pub unfired : Past
unfired = record { made = 0; last = None }

-- a library actor at its start
abbrev pub actor : {T A : Type 0} → A → Node T A
actor a = Actor unfired a a

-- a composite at its start
abbrev pub composite : {T A : Type 0} → Core T → List (Node T A) → Node T A
composite c kids = Composite unfired c c (nodes_of kids)

abbrev mutual
  pub height : {T A : Type 0} → Node T A → ℕ
  height (Actor h a b) = 1
  height (Composite h c d kids) = suc (heights kids)

  pub heights : {T A : Type 0} → Nodes T A → ℕ
  heights none = 0
  heights (more n ns) = max (height n) (heights ns)

-- the paths of a node and of all that is within it, each before what is below it
abbrev pub below_path : ℕ → List Path → List Path
below_path i [] = []
below_path i (p ∷ ps) = (i ∷ p) ∷ below_path i ps

abbrev mutual
  pub paths_of : {T A : Type 0} → Node T A → List Path
  paths_of (Actor h a b) = [] ∷ []
  paths_of (Composite h c d kids) = [] ∷ paths_from 0 kids

  pub paths_from : {T A : Type 0} → ℕ → Nodes T A → List Path
  paths_from i none = []
  paths_from i (more n ns) = below_path i (paths_of n) ++ paths_from (suc i) ns
