-- The typing of a net meets the row of an Expression: the tree has by the types of its places what the net gives it.
use Rattle.std.specs.Prelude.{◌≡◌, ℕ, [], Some, slice_get}
use Rattle.pt_net.specs.declared.net.Net.{Net}
use Rattle.pt_net.specs.declared.net.NetEntity.{NetEntity}
use Rattle.pt_net.specs.Net.{entity_view}
use Rattle.pt_scopes.specs.declared.values.Values.{Values}
use Rattle.pt_scopes.specs.Scopes.{net_view}
use Rattle.pt_scopes.specs.Valued.{IsValued}
use Rattle.pt_typing.specs.Least.{Assignment}
use Rattle.pt_inequalities.specs.Typing.{IsTyping}
use Rattle.pt_start.specs.Nested.{IsNested}
use Rattle.pt_start.specs.Started.{IsStart}
use Rattle.pt_formula.specs.Formula.{Formula}
use Rattle.pt_lib_flow.specs.declared.flow_actor.FlowActor.TheVariants.{Expression}
use Rattle.pt_library.specs.declared.library_actor.LibraryActor.TheVariants.{Flow}
use Rattle.pt_typed.specs.TypedActor.{MeetsRow}
use Rattle.pt_typed.specs.NetTypes.{types_below}
use Rattle.pt_typed.specs.NetRows.{HasClassPorts}
use Rattle.pt_typed.specs.InputLaw.{HaveOwnNames}
use Rattle.pt_typed.specs.OwnNames.{HaveClassParameters}
use Rattle.pt_typed.specs.RowLaw.{types_of_ports}

-- An Expression sees its inputs, and behind them the parameters of the composites round it, each with the type that it has in the typing of the net.
abbrev pub ExpressionRowsAreMet : Type 0
ExpressionRowsAreMet =
    (net : Net) (values : Values) (typing : Assignment) (k : ℕ) (e : NetEntity) (f : Formula) → slice_get net.entities.items k ≡ Some e → HasClassPorts net k e → HaveOwnNames (entity_view e).ports → IsValued (net_view net) values → IsNested (net_view net) → HaveClassParameters (net_view net) → IsTyping net values typing →
    IsStart net values (types_of_ports typing) k (Some (Flow (Expression f))) → MeetsRow (types_below net typing k []) (Flow (Expression f))
