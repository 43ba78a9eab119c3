use Rattle.std.proofs.Common.{◌≡◌, ◌++◌, take}
use Rattle.std.specs.List.{filter_map}
use Rattle.pt_survey.specs.Survey.{tables_view}
use Rattle.pt_net.specs.Net.{wires}
use Rattle.pt_graph.specs.Sources.{bond_of}
use Rattle.pt_graph.specs.Origins.{crossings_among}
use Rattle.pt_graph.proofs.origins.ways.Given as goal

abbrev pub invariant-loop-number : goal.invariant-loop-number
invariant-loop-number l = l.ways.items ≡ filter_map bond_of (wires (tables_view l.wiring.tables.now)) ++ crossings_among (wires (tables_view l.wiring.tables.now)) (take l.number (tables_view l.wiring.tables.now).ports)
