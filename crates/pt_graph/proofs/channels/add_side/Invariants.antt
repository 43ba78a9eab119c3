use Rattle.std.proofs.Common.{take}
use Rattle.pt_survey.specs.Survey.{tables_view}
use Rattle.pt_net.specs.Net.{wires}
use Rattle.pt_graph.specs.ChannelTable.{Adds, side_among}
use Rattle.pt_graph.proofs.channels.add_side.Given as goal

abbrev pub invariant-loop-number : goal.invariant-loop-number
invariant-loop-number l = Adds (tables_view l.origins.wiring.now.tables.now) (side_among (wires (tables_view l.origins.wiring.now.tables.now)) l.inputs (take l.number (tables_view l.origins.wiring.now.tables.now).ports)) l.initial.channels.items l.channels.items
