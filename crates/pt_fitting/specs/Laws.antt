-- A law of the Modal entities in the net of a document: what stands in one fits it.
use Rattle.std.specs.Prelude.{ℕ, List}
use Rattle.pt_net.specs.declared.net.Net.{Net}
use Rattle.pt_net.specs.declared.net.NetEntity.{NetEntity}
use Rattle.pt_net.specs.Inside.{children_of}
use Rattle.pt_scopes.specs.declared.values.Values.{Values}
use Rattle.pt_scopes.specs.Scopes.{net_view}
use Rattle.pt_scopes.specs.Valued.{IsValued}
use Rattle.pt_typing.specs.Least.{Assignment}
use Rattle.pt_inequalities.specs.Typing.{IsTyping}
use Rattle.pt_resolve.specs.Faults.{IsWhole}
use Rattle.pt_machine.specs.Machines.{AreMachines}
use Rattle.pt_node.specs.View.{Tree}
use Rattle.pt_trees.specs.declared.directing.Directing.TheVariants.{Modal}
use Rattle.pt_trees.specs.Directors.{IsDirectedBy}
use Rattle.pt_trees.specs.Modal.{IsModalWired}
use Rattle.pt_trees.specs.Trees.{IsEntity, Starts, AreTrees, around_in}
use Rattle.pt_order.specs.Laws.{IsNetOfDocument}

-- Where the texts of the net of a document come to values, and its types break nowhere, each Modal entity has what its director asks for, round the trees of what stands in it: a machine whose guards and actions have their types,
-- and of which these are the refinements.
abbrev pub ModalsFit : Type 0
ModalsFit =
    (net : Net) (values : Values) (typing : Assignment) (starts : Starts) (k : ℕ) (e : NetEntity) (kids : List Tree) → IsNetOfDocument net → IsValued (net_view net) values → IsTyping net values typing → IsWhole net values typing → AreMachines net values typing starts.machines → IsEntity net k e → IsDirectedBy e Modal →
    AreTrees net starts (children_of net.entities.items k) kids → IsModalWired (around_in net starts k e) kids
