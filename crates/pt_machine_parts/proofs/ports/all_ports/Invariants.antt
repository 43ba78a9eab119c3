use Rattle.std.proofs.Common.{map, take}
use Rattle.std.specs.List.{AllZip}
use Rattle.pt_chart.specs.Views.{ports_view}
use Rattle.pt_machine.specs.Machines.{IsPortMap}
use Rattle.pt_machine_parts.specs.Views.{kids_view}
use Rattle.pt_machine_parts.specs.Own.{entity_of}
use Rattle.pt_machine_parts.proofs.ports.all_ports.Given as goal

abbrev pub invariant-loop-child : goal.invariant-loop-child
invariant-loop-child l = AllZip (IsPortMap (entity_of l.modal)) (kids_view (take l.child-index l.children)) (map ports_view l.ports.items)
