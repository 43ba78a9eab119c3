-- A model at its start: nothing has fired, and the channels hold the first tokens of the actors that feed them.
use Rattle.std.specs.Prelude.{◌≡◌, List, [], ◌∷◌, length, Option, Some, None}
use Rattle.pt_meaning.specs.Streams.{Streams, get}
use Rattle.pt_meaning.specs.Net.{Source, Own, Output}
use Rattle.pt_meaning.specs.Modal.{first_modes}
use Rattle.pt_meaning.specs.Rendezvous.{first_places}
use Rattle.pt_meaning.specs.Tree.{Rows, Core, Sdf, Pn, Sr, De, Rv, Modal, unfired, Node, Nodes, Actor, Composite, none, more, list_of}

-- the first tokens of a source: those of a library actor; own inputs and composites have none
abbrev pub first_of_node : {T A : Type 0} → Rows T A → Option (Node T A) → List T
first_of_node rows None = []
first_of_node rows (Some (Actor h a b)) = rows.first a
first_of_node rows (Some (Composite h c d kids)) = []

-- the first tokens on the channels of a source
abbrev pub first_of : {T A : Type 0} → Rows T A → List (Node T A) → Source → List T
first_of rows kids (Own port) = []
first_of rows kids (Output child port) = first_of_node rows (get kids child)

-- what the channels of a dataflow composite hold at the start
abbrev pub first_held : {T A : Type 0} → Rows T A → List (Node T A) → List Source → Streams T
first_held rows kids [] = []
first_held rows kids (c ∷ cs) = first_of rows kids c ∷ first_held rows kids cs

-- a director holds what it has at the start: a Modal is in its initial mode, with the first values of its Variables and the times of each of its refinements
abbrev pub IsFirstCore : {T A : Type 0} → Rows T A → List (Node T A) → Core T → Type 0
IsFirstCore rows kids (Sdf p X) = X ≡ first_held rows kids p.net.sources
IsFirstCore rows kids (Pn p X) = X ≡ first_held rows kids p.net.sources
IsFirstCore rows kids (Sr p) = Unit {0}
IsFirstCore rows kids (De p) = Unit {0}
IsFirstCore rows kids (Rv p X) = X ≡ first_places p
IsFirstCore rows kids (Modal chart m) = m ≡ first_modes chart (length kids)

-- A node is at its start: it and all within have not fired, and each is in its start state.
abbrev mutual
  pub IsAtStart : {T A : Type 0} → Rows T A → Node T A → Type 0
  IsAtStart rows (Actor h a b) = (h ≡ unfired) × (b ≡ a)
  IsAtStart rows (Composite h c d kids) = (h ≡ unfired) × (d ≡ c) × IsFirstCore rows (list_of kids) c × AllAtStart rows kids

  pub AllAtStart : {T A : Type 0} → Rows T A → Nodes T A → Type 0
  AllAtStart rows none = Unit {0}
  AllAtStart rows (more n ns) = IsAtStart rows n × AllAtStart rows ns
