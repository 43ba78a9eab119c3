use Rattle.std.proofs.Common.{◌≡◌, ◌++◌, map, drop}
use Rattle.pt_document.specs.Classes.{port_of}
use Rattle.pt_survey.specs.Survey.{placed_view, ports_view}
use Rattle.pt_net.specs.Table.{numbered_ports}
use Rattle.pt_survey.proofs.tables.add_listed.Given as goal

abbrev pub invariant-loop-number : goal.invariant-loop-number
invariant-loop-number l =
    ports_view l.table.items ++ numbered_ports l.entity (placed_view l.placed) l.number (map port_of (drop l.number l.ports))
    ≡ ports_view l.initial.table.items ++ numbered_ports l.entity (placed_view l.placed) 0 (map port_of l.ports)
