-- What stands before the model of a net: its values, its types, and the actors that its entities start as.
use Rattle.std.specs.Prelude.{◌≡◌, ℕ, List, ◌++◌, ◌∷◌, [], length, Option, Some, None, slice_get}
use Rattle.pt_typing.specs.declared.variable.Variable.TheVariants.{Port}
use Rattle.pt_typing.specs.Least.{Assignment}
use Rattle.pt_document.specs.declared.code.Code.{Code}
use Rattle.pt_net.specs.declared.net.Net.{Net}
use Rattle.pt_net.specs.declared.net.NetEntity.{NetEntity}
use Rattle.pt_scopes.specs.declared.values.Values.{Values}
use Rattle.pt_scopes.specs.Scopes.{net_view}
use Rattle.pt_scopes.specs.Valued.{IsValued}
use Rattle.pt_inequalities.specs.Typing.{IsTyping}
use Rattle.pt_resolve.specs.Faults.{IsWhole}
use Rattle.pt_charts.specs.Readable.{AreReadable}
use Rattle.pt_machine.specs.Machines.{AreMachines}
use Rattle.pt_library.specs.declared.library_actor.LibraryActor.{LibraryActor}
use Rattle.pt_start.specs.Started.{PortTyping, IsStart}
use Rattle.pt_start.specs.Misplaced.{IsMisplaced}
use Rattle.pt_stated.specs.Networks.{AreStated}
use Rattle.pt_trees.specs.Trees.{IsEntity, IsUndirected, Starts}

-- The texts of a net come to these values, guards and actions are readable, these are its types, and they break nowhere.
pub record IsResolved (net : Net) (values : Values) (typing : Assignment) : Type 0 where
  pub valued : IsValued (net_view net) values
  pub readable : AreReadable net values
  pub typed : IsTyping net values typing
  pub sound : IsWhole net values typing

-- each entity may stand where it stands
abbrev pub IsPlaced : Net → Values → Type 0
IsPlaced net values = (cause : Code) (k : ℕ) → IsMisplaced (net_view net) values cause k → ⊥

-- the types of ports, by the numbers of their entities and their own
abbrev pub port_typing : Assignment → PortTyping
port_typing typing k i = typing.types (Port k i)

-- what one entity of a net starts as
pub record IsStartOf (net : Net) (values : Values) (typing : Assignment) (k : ℕ) (e : NetEntity) (start : Option LibraryActor) : Type 0 where
  pub actor : IsUndirected e → IsStart net values (port_typing typing) k start
  pub other : (IsUndirected e → ⊥) → start ≡ None

-- there is one start more, which is that of the entity
pub record IsBegun (net : Net) (values : Values) (typing : Assignment) (k : ℕ) (e : NetEntity) (old new : List (Option LibraryActor)) : Type 0 where
  pub start : Option LibraryActor
  pub is_last : new ≡ old ++ start ∷ []
  pub is_start : IsStartOf net values typing k e start

-- What the entities of a net start as: a library actor as the actor that its parameters, channels and types start, if the library has one, and a composite as none.
pub record AreStartsOf (net : Net) (values : Values) (typing : Assignment) (begun : List (Option LibraryActor)) : Type 0 where
  pub counted : length begun ≡ length net.entities.items
  pub actors : (k : ℕ) (e : NetEntity) → IsEntity net k e → IsUndirected e → (start : Option LibraryActor) × (slice_get begun k ≡ Some start) × IsStart net values (port_typing typing) k start
  pub others : (k : ℕ) (e : NetEntity) → IsEntity net k e → (IsUndirected e → ⊥) → slice_get begun k ≡ Some None

-- A net without faults of its texts, its types, its places and its states, with what its entities start as, what its process networks state, and the machines of its Modal entities.
pub record IsStarted (net : Net) (values : Values) (typing : Assignment) (starts : Starts) : Type 0 where
  pub resolved : IsResolved net values typing
  pub placed : IsPlaced net values
  pub started : AreStartsOf net values typing starts.actors
  pub stated : AreStated (net_view net) values starts.stated
  pub machines : AreMachines net values typing starts.machines
