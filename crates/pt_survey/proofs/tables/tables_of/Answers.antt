use Rattle.std.proofs.Common.{refl, ◌∙◌}
use Rattle.pt_document.specs.Document.{parts}
use Rattle.pt_survey.specs.Survey.{placed_view, ports_view, relations_view, links_view}
use Rattle.pt_net.specs.Table.{numbered_ports, ports_of, ports_from, relations_in, relations_from, links_in, links_from}
use Rattle.pt_survey.proofs.TableSteps.{one_done}
use Rattle.pt_survey.proofs.tables.tables_of.Goals as goal

pub loop-number-preserved : goal.loop-number-preserved
loop-number-preserved c =
    let es = c.args.entities.now in
    let i = c.loop-number.number in
    let x = c.index-entities-number.result in
    let old = c.loop-number.tables in
    let new = c.add.new.self in (
      c.in_ok-add.ensures.entities ∙ c.loop-number.invariant.0,
      one_done placed_view (λ n s. numbered_ports n s 0 (ports_of (parts s.tree))) ports_from (λ n s ss. refl) es i x (ports_view old.ports.items) (ports_view new.ports.items) _ c.loop-number-test.true c.index-entities-number.is c.in_ok-add.ensures.ports c.loop-number.invariant.1,
      one_done placed_view relations_in relations_from (λ n s ss. refl) es i x (relations_view old.relations.items) (relations_view new.relations.items) _ c.loop-number-test.true c.index-entities-number.is c.in_ok-add.ensures.relations c.loop-number.invariant.2,
      one_done placed_view links_in links_from (λ n s ss. refl) es i x (links_view old.links.items) (links_view new.links.items) _ c.loop-number-test.true c.index-entities-number.is c.in_ok-add.ensures.links c.loop-number.invariant.3,
    )
