use Rattle.std.proofs.Common.{◌≡◌, sym, subst, ◌∙◌, arith}
use Rattle.std.proofs.lemmas.List.{length-map}
use Rattle.pt_document.specs.declared.code.Code.TheVariants as code
use Rattle.pt_net.specs.Table.{port_path}
use Rattle.pt_survey.specs.Survey.{tables_view, port_at}
use Rattle.pt_net.specs.Stands.{IsLinkFault}
use Rattle.pt_links.specs.Wiring.{IsFine}
use Rattle.pt_links.proofs.Told.{told, number_view}
use Rattle.pt_links.proofs.PortTests.{amiss_told, lacking_told, fine}
use Rattle.pt_links.proofs.checks.check_port.Goals as goal

pub returns-then-is_amiss-clause-told : goal.returns-then-is_amiss-clause-told
returns-then-is_amiss-clause-told c =
    let t = tables_view c.args.wiring.now.tables.now in
    let items = c.args.wiring.now.tables.now.ports.items in
    let port = c.index-port.result.now in
    let is = number_view port_at items c.args.number port (omega (arith, length-map items port_at, c.requires.number)) c.index-port.ensures in
    let e = rw (c.outside-outside.ensures, c.inside-inside.ensures) at c.is_amiss.ensures in
    told c.refused_port.result code.Link (port_path (port_at port)) (IsLinkFault t) c.refused_port.ensures (amiss_told t c.args.number (port_at port) is (sym e ∙ c.if-is_amiss.true))

pub returns-then-lacks_channel-clause-told : goal.returns-then-lacks_channel-clause-told
returns-then-lacks_channel-clause-told c =
    let t = tables_view c.args.wiring.now.tables.now in
    let items = c.args.wiring.now.tables.now.ports.items in
    let port = c.index-port.result.now in
    let is = number_view port_at items c.args.number port (omega (arith, length-map items port_at, c.requires.number)) c.index-port.ensures in
    let e = rw c.outside-outside.ensures at c.lacks_channel.ensures in
    told c.refused_entity.result code.Link (port_at port).standing.path (IsLinkFault t) c.refused_entity.ensures (lacking_told t c.args.number (port_at port) is (sym e ∙ c.if-lacks_channel.true))

pub returns-clause-ok : goal.returns-clause-ok
returns-clause-ok c = λ p named.
    let t = tables_view c.args.wiring.now.tables.now in
    let items = c.args.wiring.now.tables.now.ports.items in
    let port = c.index-port.result.now in
    let is = number_view port_at items c.args.number port (omega (arith, length-map items port_at, c.requires.number)) c.index-port.ensures in
    let e = rw (c.outside-outside.ensures, c.inside-inside.ensures) at c.is_amiss.ensures in
    let f = rw c.outside-outside.ensures at c.lacks_channel.ensures in
    let same : port_at port ≡ p = cc in
    subst (IsFine t c.args.number) same (fine t c.args.number (port_at port) is (sym e ∙ c.if-is_amiss.false) (sym f ∙ c.if-lacks_channel.false))
