-- Modal entities: a machine, round children each of which is a refinement (the book, "Modal Models").
use Rattle.std.specs.Prelude.{◌≡◌, ℕ, ◌<◌, List, length, map, Bool, true, false, Option, Some, None}
use Rattle.std.specs.List.{All}
use Rattle.pt_meaning.specs.Modal.{first_modes}
use Rattle.pt_meaning.specs.NodeFacts.{facts_of}
use Rattle.pt_meaning.specs.Running.{total}
use Rattle.pt_meaning.specs.Streams.{get}
use Rattle.pt_meaning.specs.Tree as tree
use Rattle.pt_value.specs.declared.token.Token.{Token}
use Rattle.pt_chart.specs.Chart.{chart_of}
use Rattle.pt_chart.specs.Machine.{Machine, ModeTree, PortMap}
use Rattle.pt_chart.specs.Typed.{is_typed_machine}
use Rattle.pt_sdf_parts.specs.ByNeed.{needs_of, planned}
use Rattle.pt_library.specs.LibraryActor.{rows}
use Rattle.pt_node.specs.View.{Tree}
use Rattle.pt_trees.specs.Around.{Around}
use Rattle.pt_trees.specs.Composing.{Composing}

-- ---- the machine

abbrev pub taken_by : PortMap → ℕ
taken_by p = length p.inputs

-- how many own inputs each refinement takes from: it has a place for each
abbrev pub places_of : Machine → List ℕ
places_of m = map taken_by m.ports

-- a refinement takes from own inputs that are there, and each own output has what it gives, or nothing of it
abbrev pub IsMapped : (inputs outputs : ℕ) → PortMap → Type 0
IsMapped inputs outputs p = All (λ i. i < inputs) p.inputs × (length p.outputs ≡ outputs)

-- what a state names as its refinement is one of so many
abbrev pub IsOneOf : ℕ → Option ℕ → Type 0
IsOneOf count None = Unit {0}
IsOneOf count (Some i) = i < count

abbrev pub IsRefined : ℕ → ModeTree → Type 0
IsRefined count mode = IsOneOf count mode.refinement

-- the machine is one for so many own ports and refinements
pub record IsFor (inputs outputs count : ℕ) (m : Machine) : Type 0 where
  pub inputs_are : length m.names.inputs ≡ inputs
  pub outputs_are : length m.names.outputs ≡ outputs
  pub mapped : All (IsMapped inputs outputs) m.ports
  pub refined : All (IsRefined count) m.modes

-- a refinement is an opaque composite, or a Modal entity itself
abbrev pub is_opaque : Tree → Bool
is_opaque (tree.Actor h a b) = false
is_opaque (tree.Composite h c d kids) = true

abbrev pub AreOpaque : List Tree → Type 0
AreOpaque kids = (i : ℕ) (kid : Tree) → get kids i ≡ Some kid → is_opaque kid ≡ true

-- these are its refinements: each needs a count for each place that it has
pub record HasRefinements (inputs outputs : ℕ) (kids : List Tree) (m : Machine) : Type 0 where
  pub opaque : AreOpaque kids
  pub fits : IsFor inputs outputs (length kids) m
  pub needs : List ℕ
  pub needed : needs_of (facts_of rows) kids ≡ planned (places_of m) needs
  pub counted : length needs ≡ total (places_of m)

-- whether they are
abbrev pub HasRefinementsIf : (inputs outputs : ℕ) → List Tree → Machine → Bool → Type 0
HasRefinementsIf inputs outputs kids m true = HasRefinements inputs outputs kids m
HasRefinementsIf inputs outputs kids m false = HasRefinements inputs outputs kids m → ⊥

-- ---- the composite

-- there is a machine, whose guards and actions have their types, and these children are its refinements
pub record IsModalWired (around : Around) (kids : List Tree) : Type 0 where
  pub machine : Machine
  pub is : around.machine ≡ Some machine
  pub typed : is_typed_machine machine ≡ true
  pub refinements : HasRefinements around.inputs around.outputs kids machine

-- the core of Modal: it reads the machine as its chart, and begins in the initial state
pub record IsModalCore (around : Around) (kids : List Tree) (core : tree.Core Token) : Type 0 where
  pub wired : IsModalWired around kids
  pub is : core ≡ tree.Modal (chart_of wired.machine) (first_modes (chart_of wired.machine) (length kids))

-- no Modal entity is refused, and it has no channels
abbrev pub modal : Composing
modal = record { IsCore = IsModalCore; IsMisfit = λ around kids. IsModalWired around kids → ⊥; IsRefused = λ around kids code. ⊥; maximum = λ around. 0; meetings = None }
