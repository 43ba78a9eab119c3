-- The typing of a net: the least types that meet all inequalities (the book, "The Type System").
use Rattle.std.specs.Prelude.{◌≡◌, ℕ, List, [], ◌∷◌, All, map, Some, None, slice_get, codes}
use Rattle.std.specs.List.{Contains}
use Rattle.pt_document.specs.declared.job.Direction.TheVariants.{Input, Output}
use Rattle.pt_document.specs.declared.job.OutputAction.{OutputAction}
use Rattle.pt_document.specs.Document.{PortTree, TransitionTree}
use Rattle.pt_document.specs.TypeTexts.{TypeTree, int_type, boolean_type, string_type, array_type, record_type, FieldTrees, last_field, one_field, IsTextOf}
use Rattle.pt_datatypes.specs.Datatype.{Datatype, Int, Boolean, Words, types_of}
use Rattle.pt_datatypes.specs.Normal.{array_of, record_of}
use Rattle.pt_datatypes.specs.Order.{IsBelow}
use Rattle.pt_language.specs.Tree.{Tree}
use Rattle.pt_language.specs.Rule.{type_or_general}
use Rattle.pt_language.specs.ByName.{by_name}
use Rattle.pt_net.specs.declared.net.Net.{Net}
use Rattle.pt_net.specs.Net.{NetEntityTree, entity_view}
use Rattle.pt_scopes.specs.declared.values.Values.{Values}
use Rattle.pt_scopes.specs.Valued.{EntityView}
use Rattle.pt_scopes.specs.Valued as valued
use Rattle.pt_typing.specs.declared.variable.Variable.TheVariants.{Port}
use Rattle.pt_typing.specs.Least.{Assignment, IsMet, Meets, IsUnder}
use Rattle.pt_inequalities.specs.Frames.{frames_of}
use Rattle.pt_inequalities.specs.Inequalities.{inequalities}
use Rattle.pt_inequalities.specs.Passing.{all_ports, port_counts, passing}
use Rattle.pt_inequalities.specs.ModalScopes.{own_ports, ModalScope, modal_scope, modal_types, IsReadIn}

-- ---- types that texts say

abbrev mutual
  pub said : TypeTree → Datatype
  said int_type = Int
  said boolean_type = Boolean
  said string_type = Words
  said (array_type t) = array_of (said t)
  said (record_type fs) = record_of (types_of (by_name (said_fields fs)))

  pub said_fields : FieldTrees → List (List ℕ × Datatype)
  said_fields (last_field name t) = (name, said t) ∷ []
  said_fields (one_field name t fs) = (name, said t) ∷ said_fields fs

-- the type that a port declares
pub record Declares (p : PortTree) (t : Datatype) : Type 0 where
  pub text : List ℕ
  pub is : p.declared ≡ Some text
  pub read : TypeTree
  pub reads : IsTextOf text read
  pub says : t ≡ said read

-- ---- Modal entities

-- A refinement of the Modal entity of this number: an entity that is its child. Which state names it is asked elsewhere
pub record IsRefinement (es : List NetEntityTree) (m k : ℕ) (modal e : NetEntityTree) : Type 0 where
  pub modal_at : slice_get es m ≡ Some modal
  pub is_modal : modal.class ≡ codes "Modal"
  pub at : slice_get es k ≡ Some e
  pub inside : e.parent ≡ Some m
  pub direct : e.within ≡ None

-- what a Modal entity is in a net, with its values
pub record IsModal (net : Net) (values : Values) (m : ℕ) (e : NetEntityTree) (v : EntityView) : Type 0 where
  pub at : slice_get (map entity_view net.entities.items) m ≡ Some e
  pub is_modal : e.class ≡ codes "Modal"
  pub values_at : slice_get (map valued.entity_view values.entities.items) m ≡ Some v

-- what its guards and actions may name
abbrev pub scope_of : Net → Values → ℕ → NetEntityTree → EntityView → ModalScope
scope_of net values m e v = modal_scope (frames_of net values) m e v

-- the type of a text in a Modal entity; one that isn't read, or that names what isn't in scope, has none
pub record HasTypeIn (typing : Assignment) (s : ModalScope) (text : List ℕ) (t : Datatype) : Type 0 where
  pub read : Tree
  pub is_read : IsReadIn s text read
  pub is : t ≡ type_or_general (modal_types typing s read) read

-- a type that is below a port of a Modal entity or of a refinement, beside what comes through channels
pub data IsLowerByModal (net : Net) (values : Values) (typing : Assignment) : ℕ → ℕ → Datatype → Type 0 where
  -- what is at an input of a Modal entity is below what is at the like-named input of a refinement, and what is at an output of
  -- that below what is at the like-named output
  of_input : (m k i j : ℕ) (modal e : NetEntityTree) (q : PortTree) → IsRefinement (map entity_view net.entities.items) m k modal e → slice_get e.ports j ≡ Some q → q.direction ≡ Input → own_ports modal q.name ≡ Some i → IsLowerByModal net values typing k j (typing.types (Port m i))
  of_output : (m k i j : ℕ) (modal e : NetEntityTree) (q : PortTree) → IsRefinement (map entity_view net.entities.items) m k modal e → slice_get e.ports j ≡ Some q → q.direction ≡ Output → own_ports modal q.name ≡ Some i → IsLowerByModal net values typing m i (typing.types (Port k j))
  -- what an output action gives
  of_action : (m i : ℕ) (e : NetEntityTree) (v : EntityView) (tr : TransitionTree) (a : OutputAction) (t : Datatype) → IsModal net values m e v → Contains e.transitions tr → Contains tr.output a → own_ports e a.port ≡ Some i → HasTypeIn typing (scope_of net values m e v) a.value t → IsLowerByModal net values typing m i t

-- ---- the typing

-- types of the ports, of the rows and of the relations of a net that meet all lower bounds
pub record AreAbove (net : Net) (values : Values) (typing : Assignment) : Type 0 where
  pub meets : Meets (port_counts net) (inequalities net values) typing
  -- what passes between ports and relations
  pub passes : All (IsMet typing) (passing net)
  -- what a port of an entity or of a transparent composite declares is below it
  pub declared : (k i : ℕ) (ps : List PortTree) (p : PortTree) (t : Datatype) → slice_get (all_ports net) k ≡ Some ps → slice_get ps i ≡ Some p → Declares p t → IsBelow t (typing.types (Port k i))
  pub modal : (k i : ℕ) (t : Datatype) → IsLowerByModal net values typing k i t → IsBelow t (typing.types (Port k i))

-- the typing: of all types that meet the lower bounds the least
pub record IsTyping (net : Net) (values : Values) (typing : Assignment) : Type 0 where
  pub above : AreAbove net values typing
  pub least : (other : Assignment) → AreAbove net values other → IsUnder typing other
