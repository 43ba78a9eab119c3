-- The types of what guards and actions of a Modal entity come to (the book, "The Type System" and "Modal Models").
use Rattle.std.specs.Prelude.{◌≡◌, ℕ, List, length, map, Bool, true, Some, None, slice_get}
use Rattle.std.specs.List.{Contains}
use Rattle.pt_meaning.specs.Basics.{Streams}
use Rattle.pt_meaning.specs.Modal.{Acts}
use Rattle.pt_value.specs.Value.{Value}
use Rattle.pt_value.specs.Token.{value_of}
use Rattle.pt_value.specs.declared.token.Token.{Token}
use Rattle.pt_datatypes.specs.Datatype.{Datatype}
use Rattle.pt_datatypes.specs.Order.{IsBelow}
use Rattle.pt_datatypes.specs.Token.{type_of_value}
use Rattle.pt_language.specs.Scope.{port_in}
use Rattle.pt_language.specs.Tree.{Tree}
use Rattle.pt_document.specs.declared.job.OutputAction.{OutputAction}
use Rattle.pt_document.specs.declared.job.SetAction.{SetAction}
use Rattle.pt_document.specs.Document.{PortTree, TransitionTree}
use Rattle.pt_net.specs.Net.{NetEntityTree}
use Rattle.pt_scopes.specs.Valued.{EntityView}
use Rattle.pt_typing.specs.declared.variable.Variable.TheVariants.{Port}
use Rattle.pt_typing.specs.Terms.{has_type}
use Rattle.pt_typing.specs.Least.{Assignment}
use Rattle.pt_inequalities.specs.Frames.{Frames}
use Rattle.pt_inequalities.specs.ModalScopes.{own_ports, variable_values, ModalScope, modal_scope, modal_types, IsReadIn}
use Rattle.pt_inequalities.specs.Typing.{HasTypeIn}
use Rattle.pt_kinds.specs.Signature.{AreEach, AreOf}
use Rattle.pt_chart.specs.Chart.{chart_of}
use Rattle.pt_chart.specs.Machine.{Machine}
use Rattle.pt_chart.specs.Typed.{is_typed_machine}
use Rattle.pt_machine.specs.Machines.{IsMachine}

-- a token is of a type: its own type is below
abbrev pub IsTokenOf : Datatype → Token → Type 0
IsTokenOf t token = IsBelow (type_of_value (value_of token)) t

-- the types of some names
abbrev pub types_in : List (List ℕ × Datatype) → List Datatype
types_in es = map (λ (e : List ℕ × Datatype). e.1) es

-- no two ports have one name
abbrev pub AreApart : List PortTree → Type 0
AreApart ps = (i j : ℕ) (p q : PortTree) → slice_get ps i ≡ Some p → slice_get ps j ≡ Some q → p.name ≡ q.name → i ≡ j

-- a text of a Modal entity has a type there
abbrev pub IsClear : Assignment → ModalScope → List ℕ → Type 0
IsClear typing s text = (t : Tree) → IsReadIn s text t → has_type (modal_types typing s t) t ≡ true

-- What is known of a Modal entity of a document whose types break nowhere. Its guards and actions have types. What an output action gives is below its output, and what a set action gives below the first value of its Variable.
-- Each Variable has a value, no two ports have one name, and nothing that may be named asks about a port.
pub record IsSound (typing : Assignment) (s : ModalScope) (m : ℕ) (e : NetEntityTree) (v : EntityView) : Type 0 where
  pub guards : (tr : TransitionTree) → Contains e.transitions tr → IsClear typing s tr.guard
  pub clear_outputs : (tr : TransitionTree) (a : OutputAction) → Contains e.transitions tr → Contains tr.output a → IsClear typing s a.value
  pub clear_sets : (tr : TransitionTree) (a : SetAction) → Contains e.transitions tr → Contains tr.set a → IsClear typing s a.value
  pub outputs : (tr : TransitionTree) (a : OutputAction) (t : Datatype) (i : ℕ) → Contains e.transitions tr → Contains tr.output a → own_ports e a.port ≡ Some i → HasTypeIn typing s a.value t → IsBelow t (typing.types (Port m i))
  pub sets : (tr : TransitionTree) (a : SetAction) (t : Datatype) (first : Value) → Contains e.transitions tr → Contains tr.set a → variable_values e v a.name ≡ Some first → HasTypeIn typing s a.value t → IsBelow t (type_of_value first)
  pub valued : length v.variables ≡ length e.variables
  pub apart : AreApart e.ports
  pub free : (name port : List ℕ) → port_in name ≡ Some port → (s.ports name ≡ None) × (s.variables name ≡ None) × (s.around name ≡ None)

-- so the guards and actions of its machine have types
abbrev pub MachinesAreTyped : Type 0
MachinesAreTyped =
    (typing : Assignment) (frames : Frames) (m : ℕ) (e : NetEntityTree) (v : EntityView) (kids : List NetEntityTree) (parted : Bool) (x : Machine) → IsMachine typing (modal_scope frames m e v) m e v kids parted x → IsSound typing (modal_scope frames m e v) m e v → is_typed_machine x ≡ true

-- and from tokens of the types of the outputs and Variables its actions give such tokens alone
abbrev pub MachinesKeepTypes : Type 0
MachinesKeepTypes =
    (typing : Assignment) (frames : Frames) (m : ℕ) (e : NetEntityTree) (v : EntityView) (kids : List NetEntityTree) (parted : Bool) (x : Machine) → IsMachine typing (modal_scope frames m e v) m e v kids parted x → IsSound typing (modal_scope frames m e v) m e v →
    (early : Bool) (mode n : ℕ) (values new : List Token) (inputs given out : Streams Token) → AreEach IsTokenOf (types_in x.names.variables) values → AreOf IsTokenOf (types_in x.names.outputs) given →
    (chart_of x).act early mode n values inputs given ≡ Acts out new → AreOf IsTokenOf (types_in x.names.outputs) out × AreEach IsTokenOf (types_in x.names.variables) new
