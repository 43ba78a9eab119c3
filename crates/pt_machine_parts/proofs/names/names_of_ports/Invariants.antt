use Rattle.std.proofs.Common.{◌≡◌, map, take}
use Rattle.pt_document.specs.View.{port_view}
use Rattle.pt_machine.specs.Names.{names_along}
use Rattle.pt_machine_parts.specs.Texts.{texts}
use Rattle.pt_machine_parts.proofs.names.names_of_ports.Given as goal

abbrev pub invariant-loop-port : goal.invariant-loop-port
invariant-loop-port l = texts l.found.items ≡ names_along l.direction (map port_view (take l.port-index l.ports))
