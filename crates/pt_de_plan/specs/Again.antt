-- What stays of a child, whatever it fires, of all that a plan tells of it: the wake with which it begins again after a reset, and of a composite whether it takes its lists whole.
use Rattle.std.specs.Prelude.{◌≡◌}
use Rattle.pt_meaning.specs.Tree.{Rows, Core, Past, Node, Nodes, Composite, reset_of}
use Rattle.pt_meaning.specs.NodeFacts.{core_whole, next_of, whole_of}
use Rattle.pt_meaning.specs.Start.{IsAtStart}
use Rattle.pt_laws.specs.Heights.{IsFitting}
use Rattle.pt_core.specs.Reached.{Always}

-- a node whose plans fit begins again with the same wake
abbrev pub WakesComeAgain : Type 0 → Type 0 → Type 0
WakesComeAgain T A = (rows : Rows T A) (node : Node T A) → IsFitting node → Always rows (λ later. next_of rows (reset_of later) ≡ next_of rows (reset_of node)) node

-- a node at its start has the wake with which it begins again
abbrev pub StartsWakeAgain : Type 0 → Type 0 → Type 0
StartsWakeAgain T A = (rows : Rows T A) (node : Node T A) → IsAtStart rows node → next_of rows (reset_of node) ≡ next_of rows node

-- a composite takes its lists whole where it did at its start
abbrev pub CompositesStayWhole : Type 0 → Type 0 → Type 0
CompositesStayWhole T A = (rows : Rows T A) (h : Past) (c d : Core T) (kids : Nodes T A) → core_whole c ≡ core_whole d → Always rows (λ later. whole_of rows later ≡ core_whole d) (Composite h c d kids)
