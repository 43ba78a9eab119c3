use Rattle.std.proofs.Common.{◌+◌, List, take, subst}
use Rattle.std.proofs.lemmas.List.{take_all}
use Rattle.pt_survey.specs.Survey.{tables_view, port_at}
use Rattle.pt_net.specs.Table.{PortAt}
use Rattle.pt_net.specs.Net.{wires}
use Rattle.pt_graph.specs.ChannelTable.{Adds, places_on, side_among}
use Rattle.pt_net.proofs.Members.{flat_more}
use Rattle.pt_links.proofs.Told.{number_of, read_of, within_of, whole_of}
use Rattle.pt_graph.proofs.ChannelSteps.{adds_more, adds_none}
use Rattle.pt_graph.proofs.channels.add_side.Goals as goal

pub add_port-requires-clause-number : goal.add_port-requires-clause-number
add_port-requires-clause-number c =
    number_of port_at c.args.origins.now.wiring.now.tables.now.ports.items c.deref-port-items.result.now c.loop-number.number c.port-item.result c.deref-port-items.ensures.value c.loop-number-test.true c.port-item.is

pub loop-number-preserved : goal.loop-number-preserved
loop-number-preserved c =
    let t = tables_view c.args.origins.now.wiring.now.tables.now in
    let items = c.args.origins.now.wiring.now.tables.now.ports.items in
    let same = c.deref-port-items.ensures.value in
    let i = c.loop-number.number in
    let p = port_at c.port-item.result in
    adds_more t (side_among (wires t) c.args.inputs (take i t.ports)) (places_on (wires t) c.args.inputs (i, p)) (side_among (wires t) c.args.inputs (take (i + 1) t.ports)) c.args.channels.now.items c.loop-number.channels.items c.add_port.new.channels.items
    (flat_more (places_on (wires t) c.args.inputs) t.ports i p (within_of port_at items c.deref-port-items.result.now i same c.loop-number-test.true) (read_of port_at items c.deref-port-items.result.now i c.port-item.result same c.loop-number-test.true c.port-item.is))
    c.loop-number.invariant c.in_ok-add_port.ensures.ok

pub loop-number-init : goal.loop-number-init
loop-number-init c = adds_none (tables_view c.args.origins.now.wiring.now.tables.now) c.args.channels.now.items

pub returns-clause-ok : goal.returns-clause-ok
returns-clause-ok c =
    let t = tables_view c.args.origins.now.wiring.now.tables.now in
    let whole = whole_of port_at c.args.origins.now.wiring.now.tables.now.ports.items c.deref-port-items.result.now c.loop-number.number c.deref-port-items.ensures.value c.loop-number-test.false in
    subst (λ (ps : List PortAt). Adds t (side_among (wires t) c.args.inputs ps) c.args.channels.now.items c.loop-number.channels.items) (take_all c.loop-number.number t.ports whole) c.loop-number.invariant
