use Rattle.std.proofs.Common.{◌≡◌, ◌++◌, drop, map}
use Rattle.pt_types.specs.Ty.{type_of}
use Rattle.pt_document.specs.View.{port_view}
use Rattle.pt_types.specs.Entry.{typed_entry}
use Rattle.pt_start.specs.PortTypes.{named_types}
use Rattle.pt_start.proofs.ports.typed_ports.Given as goal

abbrev pub invariant-loop-number : goal.invariant-loop-number
invariant-loop-number l = map typed_entry l.typed.items ++ named_types (map port_view (drop l.number l.ports)) (map type_of (drop l.number l.types)) ≡ named_types (map port_view l.ports) (map type_of l.types)
