use Rattle.std.proofs.Common.{sym}
use Rattle.pt_document.specs.declared.code.Code.TheVariants as code
use Rattle.pt_survey.specs.Survey.{tables_view, link_at}
use Rattle.pt_net.specs.Table.{link_path}
use Rattle.pt_net.specs.Stands.{IsLinkFault, names_nothing}
use Rattle.pt_links.proofs.Told.{told, contains_of}
use Rattle.pt_links.proofs.resolve.Names.wires.Goals as goal

pub returns-in-None-clause-told : goal.returns-in-None-clause-told
returns-in-None-clause-told c =
    let t = tables_view c.args.self.now.tables.now in
    told c.refused_link.result code.Link (link_path (link_at c.link-item.result)) (IsLinkFault t) c.refused_link.ensures
    (names_nothing (link_at c.link-item.result) (contains_of link_at c.args.self.now.tables.now.links.items c.deref-link-items.result.now c.loop-link.link-index c.link-item.result c.deref-link-items.ensures.value c.loop-link-test.true c.link-item.is) (sym c.in-None.ensures))
