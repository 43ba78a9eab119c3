-- Why a Modal entity has no machine: its states, its transitions and what stands in it don't agree (by the profile).
use Rattle.std.specs.Prelude.{◌≡◌, ℕ, ◌<◌, List, [], length, map, Bool, true, false, Some, slice_get}
use Rattle.std.specs.List.{Contains}
use Rattle.pt_document.specs.declared.job.State.{State}
use Rattle.pt_document.specs.declared.job.OutputAction.{OutputAction}
use Rattle.pt_document.specs.declared.job.SetAction.{SetAction}
use Rattle.pt_document.specs.declared.job.Direction.TheVariants.{Output}
use Rattle.pt_document.specs.Document.{PortTree, TransitionTree}
use Rattle.pt_net.specs.declared.net.Net.{Net}
use Rattle.pt_net.specs.Net.{NetEntityTree, entity_view}
use Rattle.pt_inequalities.specs.ModalScopes.{is_modal}
use Rattle.pt_machine.specs.declared.cause.Cause.{Cause}
use Rattle.pt_machine.specs.declared.cause.Cause.TheVariants as cause
use Rattle.pt_machine.specs.Names.{state_names, names_along, variable_names, path_of, refinement_path, refinement_of}
use Rattle.pt_machine.specs.Children.{is_opaque, kids_in, is_parted}

-- A Modal entity is at fault for this cause. These entities stand in it, and it is parted where a transparent composite does.
pub data IsAtFault (e : NetEntityTree) (kids : List NetEntityTree) (parted : Bool) : Cause → Type 0 where
  -- there is no state
  no_state : e.states ≡ [] → IsAtFault e kids parted cause.NoState
  -- no state has the name of the initial one
  initial : ((name : List ℕ) → e.initial ≡ Some name → Contains (state_names e) name → ⊥) → IsAtFault e kids parted cause.Initial
  -- a state names a refinement that doesn't stand there
  refinement : (s : State) (path : List ℕ) → Contains e.states s → refinement_path e s ≡ Some path → (Contains (map path_of kids) path → ⊥) → IsAtFault e kids parted cause.Refinement
  -- two states name one refinement
  shared : (i j r : ℕ) (s t : State) → (i ≡ j → ⊥) → slice_get e.states i ≡ Some s → slice_get e.states j ≡ Some t → refinement_of e kids s ≡ Some r → refinement_of e kids t ≡ Some r → IsAtFault e kids parted cause.SharedRefinement
  -- an entity stands there that no state names as its refinement
  idle : (r : ℕ) → r < length kids → ((s : State) → Contains e.states s → refinement_of e kids s ≡ Some r → ⊥) → IsAtFault e kids parted cause.IdleChild
  -- a library actor or a transparent composite stands there
  plain : (kid : NetEntityTree) → Contains kids kid → is_opaque kid ≡ false → IsAtFault e kids parted cause.PlainChild
  transparent : parted ≡ true → IsAtFault e kids parted cause.PlainChild
  -- a port of a refinement has the name and direction of none of the own ports
  port : (kid : NetEntityTree) (q : PortTree) → Contains kids kid → Contains kid.ports q → (Contains (names_along q.direction e.ports) q.name → ⊥) → IsAtFault e kids parted cause.Port
  -- a transition leaves, or leads to, a state that isn't there
  from : (t : TransitionTree) → Contains e.transitions t → (Contains (state_names e) t.from → ⊥) → IsAtFault e kids parted cause.From
  to : (t : TransitionTree) → Contains e.transitions t → (Contains (state_names e) t.to → ⊥) → IsAtFault e kids parted cause.To
  -- an output action names no own output, or a set action no Variable
  output : (t : TransitionTree) (a : OutputAction) → Contains e.transitions t → Contains t.output a → (Contains (names_along Output e.ports) a.port → ⊥) → IsAtFault e kids parted cause.OutputAction
  set : (t : TransitionTree) (a : SetAction) → Contains e.transitions t → Contains t.set a → (Contains (variable_names e) a.name → ⊥) → IsAtFault e kids parted cause.SetAction

-- the Modal entity of this number is at fault for this cause
pub record IsFaultIn (net : Net) (m : ℕ) (why : Cause) : Type 0 where
  pub entity : NetEntityTree
  pub at : slice_get (map entity_view net.entities.items) m ≡ Some entity
  pub modal : is_modal entity ≡ true
  pub fault : IsAtFault entity (kids_in net m) (is_parted net m) why
