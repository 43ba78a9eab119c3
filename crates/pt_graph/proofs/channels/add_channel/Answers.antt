use Rattle.std.proofs.Common.{◌≡◌, ℕ, ◌<◌, Some, List, [], ◌∷◌, length, get_or, subst, arith}
use Rattle.std.proofs.lemmas.List.{length-map}
use Rattle.std.proofs.lemmas.Option.{slice_get_within}
use Rattle.std.specs.List.{slice_get}
use Rattle.pt_document.specs.declared.code.Code.TheVariants as code
use Rattle.pt_survey.specs.declared.tables.PlacedPort.{PlacedPort}
use Rattle.pt_net.specs.Table.{PortAt, port_path}
use Rattle.pt_survey.specs.Survey.{tables_view, port_at, ports_view}
use Rattle.pt_net.specs.Stands.{IsLinkFault}
use Rattle.pt_graph.specs.ChannelTable.{Adds, place_at}
use Rattle.pt_links.proofs.Told.{told, number_view}
use Rattle.pt_graph.proofs.ChannelSteps.{sourceless, passed, added}
use Rattle.pt_graph.proofs.channels.add_channel.Goals as goal

here : (items : List PlacedPort) (g : ℕ) (p : PlacedPort) → g < length (ports_view items) → p ≡ get_or items g p → slice_get (ports_view items) g ≡ Some (port_at p)
here items g p within is = number_view port_at items g p (omega (arith, within, length-map items port_at)) is

pub returns-in-None-clause-told : goal.returns-in-None-clause-told
returns-in-None-clause-told c =
    let t = tables_view c.args.origins.now.wiring.now.tables.now in
    let items = c.args.origins.now.wiring.now.tables.now.ports.items in
    let port = port_at c.index-port.result.now in
    let place = place_at c.args.number port c.args.index c.args.relation in
    let there = c.requires.place port (here items c.args.number c.index-port.result.now c.requires.number c.index-port.ensures) in
    told c.refused_port.result code.Link (port_path port) (IsLinkFault t) c.refused_port.ensures (sourceless t place there c.in-None.ensures)

pub index-from-requires : goal.index-from-requires
index-from-requires c =
    let ports = c.args.origins.now.wiring.now.tables.now.ports in
    let s = c.in-Some.ensures in
    omega (arith, slice_get_within (ports_view ports.items) c.in-Some.source s.at s.source.gives.port, length-map ports.items port_at, ports.ok.0)

pub returns-then-is_passed_on-clause-told : goal.returns-then-is_passed_on-clause-told
returns-then-is_passed_on-clause-told c =
    let t = tables_view c.args.origins.now.wiring.now.tables.now in
    let items = c.args.origins.now.wiring.now.tables.now.ports.items in
    let port = port_at c.index-port.result.now in
    let place = place_at c.args.number port c.args.index c.args.relation in
    let there = c.requires.place port (here items c.args.number c.index-port.result.now c.requires.number c.index-port.ensures) in
    let s = c.in-Some.ensures in
    let from = c.index-from.result.now in
    let is = here items c.in-Some.source from (slice_get_within (ports_view items) c.in-Some.source s.at s.source.gives.port) c.index-from.ensures in
    let w = c.is_passed_on.ensures.0 c.if-is_passed_on.true in
    told c.refused_port-then-is_passed_on.result code.Link (port_path port) (IsLinkFault t) c.refused_port-then-is_passed_on.ensures (passed t place c.in-Some.source s (port_at from) is there w.0 w.1 w.2 w.3)

pub returns-clause-ok : goal.returns-clause-ok
returns-clause-ok c = λ p named.
    let t = tables_view c.args.origins.now.wiring.now.tables.now in
    let items = c.args.origins.now.wiring.now.tables.now.ports.items in
    let port = port_at c.index-port.result.now in
    let place = place_at c.args.number port c.args.index c.args.relation in
    let at = here items c.args.number c.index-port.result.now c.requires.number c.index-port.ensures in
    let same : port ≡ p = cc in
    let s = c.in-Some.ensures in
    let from = c.index-from.result.now in
    let is = here items c.in-Some.source from (slice_get_within (ports_view items) c.in-Some.source s.at s.source.gives.port) c.index-from.ensures in
    subst (λ (q : PortAt). Adds t (place_at c.args.number q c.args.index c.args.relation ∷ []) c.args.channels.now.items c.push.new.self.items) same
    (added t place c.in-Some.source s (port_at from) is c.is_passed_on.result c.is_passed_on.ensures c.if-is_passed_on.false c.args.channels.now.items c.push.new.self.items c.in_ok-channel.field-0 (c.in_ok-channel.ensures.ok c.args.number c.args.relation) c.in_ok-push.ensures.items)
