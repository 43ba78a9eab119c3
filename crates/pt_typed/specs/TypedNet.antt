-- The tree of a net, whose library actors meet their rows by the types of the net.
use Rattle.std.specs.Prelude.{◌≡◌, ℕ, [], length, map, Some}
use Rattle.pt_meaning.specs.Meetings.{Meets}
use Rattle.pt_meaning.specs.Job.{meaning}
use Rattle.pt_meaning.specs.Modal.{first_modes}
use Rattle.pt_datatypes.specs.Order.{IsBelow}
use Rattle.pt_net.specs.declared.net.Net.{Net}
use Rattle.pt_net.specs.declared.net.NetEntity.{NetEntity}
use Rattle.pt_net.specs.Inside.{children_of}
use Rattle.pt_typing.specs.Least.{Assignment}
use Rattle.pt_chart.specs.Machine.{Machine}
use Rattle.pt_chart.specs.Chart.{chart_of}
use Rattle.pt_library.specs.declared.library_actor.LibraryActor.{LibraryActor}
use Rattle.pt_library.specs.LibraryActor.{rows}
use Rattle.pt_node.specs.View.{Tree}
use Rattle.pt_trees.specs.declared.top.Top.{Top}
use Rattle.pt_trees.specs.declared.directing.Directing.TheVariants.{Modal}
use Rattle.pt_trees.specs.Directors.{IsDirectedBy}
use Rattle.pt_trees.specs.Trees.{IsEntity, Starts, StartsAs, machine_at, IsTree}
use Rattle.pt_trees.specs.Top.{supply_of, IsWhole}
use Rattle.pt_trees.specs.Run.{schedule}
use Rattle.pt_kinds.specs.Signature.{AreAllOf, IsTypedLog}
use Rattle.pt_typed.specs.TokenTypes.{IsTokenOf}
use Rattle.pt_typed.specs.TypedActor.{MeetsRow, IsTypedActor}
use Rattle.pt_kinds.specs.TypedTree.{IsTypedModal, IsTypedNode}
use Rattle.pt_typed.specs.NetTypes.{TypesGoUp, types_below, IsWired}
use Rattle.pt_typed.specs.InputLaw.{present}

-- the types of each entity are such as the row of the actor asks that it starts as
abbrev pub MeetRows : Net → Assignment → Starts → Type 0
MeetRows net typing starts = (k : ℕ) (a : LibraryActor) → StartsAs starts k a → MeetsRow (types_below net typing k []) a

-- the machine of each Modal entity gives tokens of the types of its ports, and keeps in its Variables tokens of their types, with whatever number of refinements it begins
abbrev pub MeetModals : Net → Assignment → Starts → Type 0
MeetModals net typing starts =
    (k n : ℕ) (e : NetEntity) (x : Machine) → IsEntity net k e → IsDirectedBy e Modal → machine_at starts k ≡ Some x → IsTypedModal {A = LibraryActor} IsTokenOf IsBelow IsTypedActor (types_below net typing k) (length (children_of net.entities.items k)) (chart_of x) (first_modes (chart_of x) n)

-- the tree of such a net is typed, and each node has the types of its entity
abbrev pub TreesAreTyped : Type 0
TreesAreTyped = (net : Net) (typing : Assignment) (starts : Starts) (k : ℕ) (t : Tree) → IsWired net → TypesGoUp net typing → MeetRows net typing starts → MeetModals net typing starts → IsTree net starts k t → IsTypedNode IsTokenOf IsBelow IsTypedActor (types_below net typing k) t

-- In a run of it on inputs of the types of the top's inputs, under any meetings, at each fuel, each finished firing took at each place only tokens of the type of its port, and gave on each output only tokens of the type of that.
abbrev pub NetsKeepTypes : Type 0
NetsKeepTypes =
    (net : Net) (typing : Assignment) (starts : Starts) (top : Tree) → IsWired net → TypesGoUp net typing → MeetRows net typing starts → MeetModals net typing starts → IsTree net starts 0 top →
    (j : Top) → IsWhole j → AreAllOf IsTokenOf (types_below net typing 0 []).places (map present (supply_of j)) →
    (m : Meets) (k : ℕ) → IsTypedLog IsTokenOf (types_below net typing 0) (meaning k rows m (schedule j) top)
