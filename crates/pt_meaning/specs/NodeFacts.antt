-- What holds of a node before it fires: its need, its wake, what it gives early, and whether under DE it takes its lists whole.
use Rattle.std.specs.Prelude.{ℕ, zero, suc, List, [], ◌∷◌, Bool, true, false, Option, Some, None, replicate}
use Rattle.pt_meaning.specs.Tag.{Tag, least}
use Rattle.pt_meaning.specs.Machine.{Need, Counts, Facts, Partial}
use Rattle.pt_meaning.specs.Modal.{modal_wake}
use Rattle.pt_meaning.specs.Tree.{Rows, Core, Sdf, Pn, Sr, De, Rv, Modal, Node, Nodes, Actor, Composite, none, more, made_of, reset_of}

-- what a composite needs: of SR, DE and Modal one token for each own input
abbrev pub core_need : {T : Type 0} → Core T → Need
core_need (Sdf p X) = Counts p.takes
core_need (Pn p X) = Counts p.takes
core_need (Sr p) = Counts (replicate p.inputs 1)
core_need (De p) = Counts (replicate p.inputs 1)
core_need (Rv p X) = Counts p.takes
core_need (Modal chart m) = Counts (replicate chart.inputs 1)

-- the need of a node
abbrev pub need_of : {T A : Type 0} → Rows T A → Node T A → Need
need_of rows (Actor h a b) = rows.need b
need_of rows (Composite h c d kids) = core_need d

-- A composite's own wake, from those of its children: that of DE is the least, that of Modal the current refinement's.
abbrev pub core_wake : {T : Type 0} → Core T → List (Option Tag) → Option Tag
core_wake (Sdf p X) wakes = None
core_wake (Pn p X) wakes = None
core_wake (Sr p) wakes = None
core_wake (De p) wakes = least wakes
core_wake (Rv p X) wakes = None
core_wake (Modal chart m) wakes = modal_wake (chart.refinement m.mode) m.stays wakes

-- the list is empty
abbrev pub is_none : {A : Type 0} → List A → Bool
is_none [] = true
is_none (x ∷ xs) = false

-- the number is 0
abbrev pub is_zero : ℕ → Bool
is_zero zero = true
is_zero (suc n) = false

-- a composite without inputs, other than DE, begins by itself
abbrev pub core_begins : {T : Type 0} → Core T → Bool
core_begins (Sdf p X) = is_none p.takes
core_begins (Pn p X) = is_none p.takes
core_begins (Sr p) = is_zero p.inputs
core_begins (De p) = false
core_begins (Rv p X) = is_none p.takes
core_begins (Modal chart m) = is_zero chart.inputs

-- what begins by itself has the wake 0.0 until it fires for the first time
abbrev pub at_first : Bool → Option ℕ → Option Tag → Option Tag
at_first true None wake = Some (record { time = 0; step = 0 })
at_first true (Some t) wake = wake
at_first false last wake = wake

-- the wake of a node
abbrev mutual
  pub next_of : {T A : Type 0} → Rows T A → Node T A → Option Tag
  next_of rows (Actor h a b) = at_first (rows.begins b) h.last (rows.next b)
  next_of rows (Composite h c d kids) = at_first (core_begins d) h.last (core_wake d (wakes_of rows kids))

  pub wakes_of : {T A : Type 0} → Rows T A → Nodes T A → List (Option Tag)
  wakes_of rows none = []
  wakes_of rows (more n ns) = next_of rows n ∷ wakes_of rows ns

-- a composite gives nothing early
abbrev pub early_of : {T A : Type 0} → Rows T A → Tag → Node T A → List (Partial T) → List (Partial T)
early_of rows tag (Actor h a b) vs = rows.early tag b vs
early_of rows tag (Composite h c d kids) vs = []

-- under DE composites of SDF, DE, PN and Rendezvous take their lists whole
abbrev pub core_whole : {T : Type 0} → Core T → Bool
core_whole (Sdf p X) = true
core_whole (Pn p X) = true
core_whole (Sr p) = false
core_whole (De p) = true
core_whole (Rv p X) = true
core_whole (Modal chart m) = false

-- whether the node takes its lists whole under DE
abbrev pub whole_of : {T A : Type 0} → Rows T A → Node T A → Bool
whole_of rows (Actor h a b) = rows.whole b
whole_of rows (Composite h c d kids) = core_whole d

-- the facts of the nodes, by the rows of the library
abbrev pub facts_of : {T A : Type 0} → Rows T A → Facts T (Node T A)
facts_of rows = record { need = need_of rows; next = next_of rows; made = made_of; early = early_of rows; whole = whole_of rows; reset = reset_of }
