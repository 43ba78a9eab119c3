-- Where the typing of a net is at fault.
use Rattle.std.specs.Prelude.{◌≡◌, ℕ, List, map, Bool, not, Some, slice_get, true, false}
use Rattle.std.specs.List.{Contains}
use Rattle.pt_value.specs.Value.{Value}
use Rattle.pt_document.specs.declared.job.OutputAction.{OutputAction}
use Rattle.pt_document.specs.declared.job.SetAction.{SetAction}
use Rattle.pt_document.specs.Document.{PortTree, TransitionTree}
use Rattle.pt_datatypes.specs.Datatype.{Datatype, Int, Boolean, Words}
use Rattle.pt_datatypes.specs.Order.{is_below}
use Rattle.pt_datatypes.specs.Token.{type_of_value}
use Rattle.pt_language.specs.Comparable.{is_general}
use Rattle.pt_language.specs.Tree.{Tree}
use Rattle.pt_language.specs.Types.{Types}
use Rattle.pt_net.specs.declared.net.Net.{Net}
use Rattle.pt_net.specs.Net.{NetEntityTree, TransparentTree, entity_view, transparent_view}
use Rattle.pt_scopes.specs.Texts.{names_in}
use Rattle.pt_scopes.specs.Given.{Read}
use Rattle.pt_scopes.specs.declared.values.Values.{Values}
use Rattle.pt_scopes.specs.Valued.{EntityView}
use Rattle.pt_scopes.specs.Valued as valued
use Rattle.pt_typing.specs.declared.variable.Variable.TheVariants.{Port}
use Rattle.pt_typing.specs.Terms.{names_types, has_type}
use Rattle.pt_typing.specs.Least.{Assignment}
use Rattle.pt_resolve.specs.declared.breaking.BrokenAt.{BrokenAt}
use Rattle.pt_resolve.specs.declared.breaking.BrokenAt.TheVariants.{Entity, Transparent}
use Rattle.pt_inequalities.specs.declared.row.PortType.{PortType}
use Rattle.pt_inequalities.specs.declared.row.PortType.TheVariants as port
use Rattle.pt_inequalities.specs.Rows.{port_type}
use Rattle.pt_inequalities.specs.Frames.{frames_of, seen_types}
use Rattle.pt_inequalities.specs.Inequalities.{inputs_of, known}
use Rattle.pt_inequalities.specs.Passing.{composite_port}
use Rattle.pt_inequalities.specs.ModalScopes.{variable_values, modal_types, IsReadIn}
use Rattle.pt_inequalities.specs.Typing.{Declares, IsTyping, IsModal, scope_of, HasTypeIn}

-- a guard or an action of an entity
pub data IsTextIn (e : NetEntityTree) : List ℕ → Type 0 where
  of_guard : (tr : TransitionTree) → Contains e.transitions tr → IsTextIn e tr.guard
  of_output : (tr : TransitionTree) (a : OutputAction) → Contains e.transitions tr → Contains tr.output a → IsTextIn e a.value
  of_set : (tr : TransitionTree) (a : SetAction) → Contains e.transitions tr → Contains tr.set a → IsTextIn e a.value

-- a port is general, or above what its row allows
abbrev pub is_above : PortType → Datatype → Bool
is_above port.Int t = not (is_below t Int)
is_above port.Boolean t = not (is_below t Boolean)
is_above port.Words t = not (is_below t Words)
is_above port.Free t = is_general t
is_above port.Row t = is_general t
is_above port.RowArray t = is_general t
is_above port.Tree t = is_general t
is_above port.Assembled t = is_general t
is_above port.Field t = is_general t

-- the types of the names of an expression of an entity
abbrev pub expression_types : Net → Values → Assignment → ℕ → NetEntityTree → Tree → Types
expression_types net values typing k e t = names_types typing.types (inputs_of k e) (known (seen_types (frames_of net values) e.within e.parent) (names_in t))

-- a port of this entity is general, a tree has a clash, or an upper bound is broken
pub data IsBroken (net : Net) (values : Values) (typing : Assignment) : NetEntityTree → Type 0 where
  at_port : (k i : ℕ) (e : NetEntityTree) (p : PortTree) → slice_get (map entity_view net.entities.items) k ≡ Some e → slice_get e.ports i ≡ Some p → is_above (port_type e.class p) (typing.types (Port k i)) ≡ true → IsBroken net values typing e
  above_declared : (k i : ℕ) (e : NetEntityTree) (p : PortTree) (t : Datatype) → slice_get (map entity_view net.entities.items) k ≡ Some e → slice_get e.ports i ≡ Some p → Declares p t → is_below (typing.types (Port k i)) t ≡ false → IsBroken net values typing e
  -- an expression has no type. Its names are in scope, so it has a clash
  in_tree : (k : ℕ) (e : NetEntityTree) (v : EntityView) (t : Tree) → slice_get (map entity_view net.entities.items) k ≡ Some e → slice_get (map valued.entity_view values.entities.items) k ≡ Some v → Contains v.parameters (Read t) → has_type (expression_types net values typing k e t) t ≡ false → IsBroken net values typing e
  -- a guard is no truth value
  guard : (m : ℕ) (e : NetEntityTree) (v : EntityView) (tr : TransitionTree) (t : Datatype) → IsModal net values m e v → Contains e.transitions tr → HasTypeIn typing (scope_of net values m e v) tr.guard t → is_below t Boolean ≡ false → IsBroken net values typing e
  -- a set action gives what its Variable doesn't hold, whose type is that of its first value
  set_action : (m : ℕ) (e : NetEntityTree) (v : EntityView) (tr : TransitionTree) (a : SetAction) (t : Datatype) (first : Value) → IsModal net values m e v → Contains e.transitions tr → Contains tr.set a → HasTypeIn typing (scope_of net values m e v) a.value t → variable_values e v a.name ≡ Some first → is_below t (type_of_value first) ≡ false → IsBroken net values typing e
  -- a guard or an action has no type. Its names are in scope, so it has a clash
  clash_in : (m : ℕ) (e : NetEntityTree) (v : EntityView) (text : List ℕ) (t : Tree) → IsModal net values m e v → IsTextIn e text → IsReadIn (scope_of net values m e v) text t → has_type (modal_types typing (scope_of net values m e v) t) t ≡ false → IsBroken net values typing e

-- a port of this transparent composite is general, or isn't below what it declares
pub data IsBrokenComposite (net : Net) (typing : Assignment) : TransparentTree → Type 0 where
  general_port : (c i : ℕ) (e : TransparentTree) (p : PortTree) → slice_get (map transparent_view net.transparent.items) c ≡ Some e → slice_get e.ports i ≡ Some p → is_general (typing.types (composite_port net c i)) ≡ true → IsBrokenComposite net typing e
  over_declared : (c i : ℕ) (e : TransparentTree) (p : PortTree) (t : Datatype) → slice_get (map transparent_view net.transparent.items) c ≡ Some e → slice_get e.ports i ≡ Some p → Declares p t → is_below (typing.types (composite_port net c i)) t ≡ false → IsBrokenComposite net typing e

-- the typing breaks at the entity, or at the transparent composite, of this number
abbrev pub IsBrokenAt : Net → Values → Assignment → BrokenAt → Type 0
IsBrokenAt net values typing (Entity k) = (e : NetEntityTree) × (slice_get (map entity_view net.entities.items) k ≡ Some e) × IsBroken net values typing e
IsBrokenAt net values typing (Transparent c) = (e : TransparentTree) × (slice_get (map transparent_view net.transparent.items) c ≡ Some e) × IsBrokenComposite net typing e

-- the typing breaks nowhere
pub record IsWhole (net : Net) (values : Values) (typing : Assignment) : Type 0 where
  pub entities : (e : NetEntityTree) → IsBroken net values typing e → ⊥
  pub composites : (e : TransparentTree) → IsBrokenComposite net typing e → ⊥

-- the typing breaks at an entity, or at a transparent composite, of this path
pub data BreaksAt (net : Net) (values : Values) (typing : Assignment) (path : List ℕ) : Type 0 where
  at_entity : (e : NetEntityTree) → IsBroken net values typing e → path ≡ e.path → BreaksAt net values typing path
  at_composite : (e : TransparentTree) → IsBrokenComposite net typing e → path ≡ e.path → BreaksAt net values typing path

-- the typing of a net breaks at this path
pub record IsTypeFault (net : Net) (values : Values) (path : List ℕ) : Type 0 where
  pub typing : Assignment
  pub is : IsTyping net values typing
  pub breaks : BreaksAt net values typing path
