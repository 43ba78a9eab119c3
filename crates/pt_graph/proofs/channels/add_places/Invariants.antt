use Rattle.std.proofs.Common.{take}
use Rattle.pt_survey.specs.Survey.{tables_view, port_at}
use Rattle.pt_net.specs.Wires.{places_along}
use Rattle.pt_graph.specs.ChannelTable.{Adds}
use Rattle.pt_graph.proofs.channels.add_places.Given as goal

abbrev pub invariant-loop-index : goal.invariant-loop-index
invariant-loop-index l = Adds (tables_view l.origins.wiring.now.tables.now) (places_along l.number (port_at l.port) 0 (take l.index l.relations)) l.initial.channels.items l.channels.items
