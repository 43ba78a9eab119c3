-- The height of a node: how it is kept, and that levels above it change nothing.
use Rattle.std.specs.Prelude.{◌≡◌, ℕ, ◌≤◌, ◌<◌, length, Some}
use Rattle.pt_meaning.specs.Basics.{Tag, Streams, Log}
use Rattle.pt_meaning.specs.Machine.{Done, recorded}
use Rattle.pt_meaning.specs.Modal.{Chart}
use Rattle.pt_meaning.specs.Meetings.{Meets}
use Rattle.pt_meaning.specs.Node.{Rows, Core, Sdf, Pn, Sr, De, Rv, Modal, Node, Nodes, Actor, Composite, none, more, list_of, made_of, reset_of, step_at, height, Step}

-- A chart fits n refinements: what a mode names is one of them, and of each it lists what every own output has of it.
pub record FitsRefinements {T : Type 0} (n : ℕ) (chart : Chart T) : Type 0 where
  pub named : (mode i : ℕ) → chart.refinement mode ≡ Some i → i < n
  pub outputs : (i : ℕ) → i < n → length (chart.out_ports i) ≡ chart.outputs

-- the plan of a composite of n children has an entry for each of them
abbrev pub HasEntries : {T : Type 0} → ℕ → Core T → Type 0
HasEntries n (Sdf p X) = (length p.net.places ≡ n) × (length p.repetitions ≡ n) × (length p.rates ≡ n)
HasEntries n (Pn p X) = length p.net.places ≡ n
HasEntries n (Sr p) = length p.net.places ≡ n
HasEntries n (De p) = length p.net.places ≡ n
HasEntries n (Rv p X) = (length p.barriers ≡ n) × (length X.got ≡ n) × (length X.puts ≡ n)
HasEntries n (Modal chart m) = (length m.stays ≡ n) × FitsRefinements n chart

-- and so has that of each composite within
abbrev mutual
  pub IsFitting : {T A : Type 0} → Node T A → Type 0
  IsFitting (Actor h a b) = Unit {0}
  IsFitting (Composite h c d kids) = HasEntries (length (list_of kids)) c × HasEntries (length (list_of kids)) d × AllFitting kids

  pub AllFitting : {T A : Type 0} → Nodes T A → Type 0
  AllFitting none = Unit {0}
  AllFitting (more n ns) = IsFitting n × AllFitting ns

-- The node after is no higher. Where the plans fit the children, it is as high, and the plans fit again.
abbrev pub KeepsHeight : {T A : Type 0} → Node T A → Node T A → Type 0
KeepsHeight old new = (height new ≤ height old) × (IsFitting old → IsFitting new × (height new ≡ height old))

-- a firing keeps the height, below any number of levels
abbrev pub FiringKeepsHeight : Type 0 → Type 0 → Type 0
FiringKeepsHeight T A = (rows : Rows T A) (k d : ℕ) (m : Meets) (tag : Tag) (node next : Node T A) (inputs out : Streams T) (l : Log T) → step_at rows k d m tag node inputs ≡ Done next out l → KeepsHeight node next

abbrev pub StepKeepsHeight : Type 0 → Type 0 → Type 0
StepKeepsHeight T A = (rows : Rows T A) (k : ℕ) (m : Meets) (tag : Tag) (node next : Node T A) (inputs out : Streams T) (l : Log T) → Step k rows m node tag inputs ≡ Done next out l → KeepsHeight node next

abbrev pub ResetKeepsHeight : Type 0 → Type 0 → Type 0
ResetKeepsHeight T A = (node : Node T A) → KeepsHeight node (reset_of node)

-- levels above a node's height change nothing, so the step is what it is below any number of levels that is enough
abbrev pub LevelsAgree : Type 0 → Type 0 → Type 0
LevelsAgree T A = (rows : Rows T A) (k d d' : ℕ) (m : Meets) (tag : Tag) (node : Node T A) (inputs : Streams T) → height node ≤ d → height node ≤ d' → step_at rows k d m tag node inputs ≡ step_at rows k d' m tag node inputs

abbrev pub StepIsAtAnyLevel : Type 0 → Type 0 → Type 0
StepIsAtAnyLevel T A = (rows : Rows T A) (k d : ℕ) (m : Meets) (tag : Tag) (node : Node T A) (inputs : Streams T) → height node ≤ d → Step k rows m node tag inputs ≡ recorded (made_of node) tag inputs (step_at rows k d m tag node inputs)
