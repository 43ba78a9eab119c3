use Rattle.std.proofs.Common.{take, map}
use Rattle.std.specs.Prelude.{option_map}
use Rattle.std.specs.List.{AllZip}
use Rattle.pt_value.specs.Token.{value_of}
use Rattle.pt_document.specs.View.{port_view}
use Rattle.pt_scopes.specs.Valued.{IsRate}
use Rattle.pt_values.proofs.constants.rates.Given as goal

abbrev pub invariant-loop-port : goal.invariant-loop-port
invariant-loop-port l = AllZip IsRate (map port_view (take l.port-index l.ports)) (map (option_map value_of) l.rates.items)
