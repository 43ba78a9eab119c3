use Rattle.std.proofs.Common.{◌≡◌, ℕ, List, map, take}
use Rattle.std.specs.List.{filter}
use Rattle.pt_document.specs.Names.{is_among}
use Rattle.pt_document.specs.View.{port_view}
use Rattle.pt_scopes.specs.PortNames.{has_port}
use Rattle.pt_scopes.specs.Sites.{is_input_port, port_name}
use Rattle.pt_values.proofs.entity.inputs_of.Given as goal

abbrev pub invariant-loop-port : goal.invariant-loop-port
invariant-loop-port l = (name : List ℕ) → has_port l.names name ≡ is_among (map port_name (filter is_input_port (map port_view (take l.port-index l.entity.ports.items)))) name
