-- Laws of the net of a document: a composite of SDF has the inside that its director plans.
use Rattle.std.specs.Prelude.{ℕ, ◌+◌, ◌<◌, ◌^◌, List, length}
use Rattle.pt_document.specs.declared.code.Code.{Code}
use Rattle.pt_document.specs.declared.classes.Director.TheVariants.{Sdf}
use Rattle.pt_net.specs.declared.net.Net.{Net}
use Rattle.pt_net.specs.declared.net.NetEntity.{NetEntity}
use Rattle.pt_net.specs.Inside.{children_of}
use Rattle.pt_scopes.specs.declared.values.Values.{Values}
use Rattle.pt_scopes.specs.Scopes.{net_view}
use Rattle.pt_scopes.specs.Valued.{IsValued}
use Rattle.pt_typing.specs.Least.{Assignment}
use Rattle.pt_machine.specs.Machines.{AreMachines}
use Rattle.pt_start.specs.Misplaced.{IsMisplaced}
use Rattle.pt_stated.specs.Networks.{AreStated}
use Rattle.pt_node.specs.View.{Tree}
use Rattle.pt_trees.specs.declared.directing.Directing.TheVariants.{By}
use Rattle.pt_trees.specs.Directors.{IsDirectedBy}
use Rattle.pt_trees.specs.Sdf.{HasInside}
use Rattle.pt_trees.specs.Sr.{IsWired}
use Rattle.pt_trees.specs.Trees.{IsEntity, Starts, AreTrees, around_in}
use Rattle.pt_order.specs.Laws.{IsInOrder}
use Rattle.pt_typed.specs.RowLaw.{AreStartedIn}
use Rattle.pt_buildable.specs.Composites.{HasUnstatedProcesses}

-- A composite of SDF has its inside where it is wired as SR asks, and where it and its own inputs have few channels, in a net in order: its texts come to these values, each entity may stand where it stands, actors and machines are such, and each composite of processes states its numbers.
abbrev pub InsidesAreThere : Type 0
InsidesAreThere =
    (net : Net) (values : Values) (typing : Assignment) (starts : Starts) (k : ℕ) (e : NetEntity) (kids : List Tree) → IsInOrder net → IsValued (net_view net) values → ((cause : Code) (n : ℕ) → IsMisplaced (net_view net) values cause n → ⊥) → AreStartedIn net values typing starts →
    AreStated (net_view net) values starts.stated → AreMachines net values typing starts.machines → (HasUnstatedProcesses net starts → ⊥) → IsEntity net k e → IsDirectedBy e (By Sdf) → AreTrees net starts (children_of net.entities.items k) kids → IsWired (around_in net starts k e) kids →
    length (around_in net starts k e).sources + (around_in net starts k e).inputs < 2 ^ 32 → HasInside (around_in net starts k e) kids
