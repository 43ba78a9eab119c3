-- The typing of a net meets the rows of the actors that its entities start as.
use Rattle.std.specs.Prelude.{◌≡◌, ℕ, [], true, false, Some, slice_get}
use Rattle.pt_meaning.specs.Meetings.{Meets}
use Rattle.pt_meaning.specs.Job.{meaning}
use Rattle.pt_net.specs.declared.net.Net.{Net}
use Rattle.pt_net.specs.declared.net.NetDirector.{NetDirector}
use Rattle.pt_net.specs.declared.net.NetEntity.{NetEntity}
use Rattle.pt_scopes.specs.Scopes.{net_view, is_composite_class}
use Rattle.pt_scopes.specs.Valued.{IsValued}
use Rattle.pt_job.specs.Inputs.{AreSupplied}
use Rattle.pt_trees.specs.declared.top.Top.{Top}
use Rattle.pt_trees.specs.Top.{supply_of, IsWhole}
use Rattle.pt_trees.specs.Run.{schedule}
use Rattle.pt_scopes.specs.declared.values.Values.{Values}
use Rattle.pt_typing.specs.declared.variable.Variable.TheVariants as variable
use Rattle.pt_typing.specs.Least.{Assignment}
use Rattle.pt_inequalities.specs.Typing.{IsTyping}
use Rattle.pt_resolve.specs.Faults as faults
use Rattle.pt_machine.specs.Machines.{AreMachines}
use Rattle.pt_start.specs.Started.{PortTyping, IsStart}
use Rattle.pt_library.specs.declared.library_actor.LibraryActor.{LibraryActor}
use Rattle.pt_library.specs.LibraryActor.{rows}
use Rattle.pt_node.specs.View.{Tree}
use Rattle.pt_trees.specs.Trees.{Starts, StartsAs, IsTree}
use Rattle.pt_order.specs.Laws.{IsNetOfDocument}
use Rattle.pt_kinds.specs.Signature.{IsTypedLog}
use Rattle.pt_typed.specs.TokenTypes.{IsTokenOf}
use Rattle.pt_typed.specs.TypedActor.{MeetsRow}
use Rattle.pt_typed.specs.NetTypes.{TypesGoUp, types_below}
use Rattle.pt_typed.specs.NetRows.{HasClassPorts, is_plain_actor, is_seeded_actor, is_record_actor}

-- the types of ports, by the numbers of their entities and their own
abbrev pub types_of_ports : Assignment → PortTyping
types_of_ports typing k i = typing.types (variable.Port k i)

-- along each channel of a net its typing goes up
abbrev pub TypingsGoUp : Type 0
TypingsGoUp = (net : Net) (values : Values) (typing : Assignment) → IsTyping net values typing → TypesGoUp net typing

-- Where what an actor gives is made of its inputs, of numbers and of truth values, the typing of the net meets its row.
abbrev pub PlainRowsAreMet : Type 0
PlainRowsAreMet =
    (net : Net) (values : Values) (typing : Assignment) (k : ℕ) (e : NetEntity) (a : LibraryActor) → slice_get net.entities.items k ≡ Some e → is_composite_class e.class ≡ false → HasClassPorts net k e → IsTyping net values typing → IsStart net values (types_of_ports typing) k (Some a) →
    is_plain_actor a ≡ true → MeetsRow (types_below net typing k []) a

-- The same of an actor that gives tokens of its parameters, which come to these values.
abbrev pub SeededRowsAreMet : Type 0
SeededRowsAreMet =
    (net : Net) (values : Values) (typing : Assignment) (k : ℕ) (e : NetEntity) (a : LibraryActor) → slice_get net.entities.items k ≡ Some e → is_composite_class e.class ≡ false → HasClassPorts net k e → IsValued (net_view net) values → IsTyping net values typing → IsStart net values (types_of_ports typing) k (Some a) →
    is_seeded_actor a ≡ true → MeetsRow (types_below net typing k []) a

-- The same of an actor that makes records of its inputs, or takes them apart.
abbrev pub RecordRowsAreMet : Type 0
RecordRowsAreMet =
    (net : Net) (values : Values) (typing : Assignment) (k : ℕ) (e : NetEntity) (a : LibraryActor) → slice_get net.entities.items k ≡ Some e → is_composite_class e.class ≡ false → HasClassPorts net k e → IsTyping net values typing → IsStart net values (types_of_ports typing) k (Some a) →
    is_record_actor a ≡ true → MeetsRow (types_below net typing k []) a

-- each library actor of a net starts as its parameters and types start it
abbrev pub AreStartedIn : Net → Values → Assignment → Starts → Type 0
AreStartedIn net values typing starts = (k : ℕ) (a : LibraryActor) → StartsAs starts k a → (e : NetEntity) × (slice_get net.entities.items k ≡ Some e) × (is_composite_class e.class ≡ false) × IsStart net values (types_of_ports typing) k (Some a)

-- In a run of the tree of the net of a document with its typing, which breaks nowhere, with the machines of its Modal entities, on the tokens that are supplied, under any meetings, at each fuel, each finished firing took at each place only tokens of the type of its port, and gave on each output only tokens of the type of that.
abbrev pub TypedNetsKeepTypes : Type 0
TypedNetsKeepTypes =
    (net : Net) (values : Values) (typing : Assignment) (starts : Starts) (e : NetEntity) (d : NetDirector) (top : Tree) (j : Top) → IsNetOfDocument net → IsValued (net_view net) values → IsTyping net values typing → faults.IsWhole net values typing → AreStartedIn net values typing starts → AreMachines net values typing starts.machines → IsTree net starts 0 top →
    slice_get net.entities.items 0 ≡ Some e → e.director ≡ Some d → AreSupplied (net_view net) values (supply_of j) → IsWhole j →
    (m : Meets) (k : ℕ) → IsTypedLog IsTokenOf (types_below net typing 0) (meaning k rows m (schedule j) top)
