use Rattle.std.proofs.Common.{ℕ, ◌++◌, List, map, sym, ap, ◌∙◌}
use Rattle.std.proofs.lemmas.List.{take_all}
use Rattle.pt_survey.specs.Survey.{tables_view, port_at}
use Rattle.pt_net.specs.Net.{wires}
use Rattle.pt_graph.specs.Sources.{giving, gifts_among}
use Rattle.pt_links.proofs.Told.{read_of, within_of, whole_of}
use Rattle.pt_graph.proofs.Givers.{Gift, gifts_more}
use Rattle.pt_graph.proofs.sources.gifts.Goals as goal

pub loop-number-preserved : goal.loop-number-preserved
loop-number-preserved c =
    let t = tables_view c.args.wiring.now.tables.now in
    let items = c.args.wiring.now.tables.now.ports.items in
    let same = c.deref-port-items.ensures.value in
    let number = c.loop-number.number in
    c.in_ok-add_gifts.ensures
    ∙ ap (λ (rs : List ℕ). c.loop-number.gifts.items ++ map (λ r. (number, r)) rs) c.giving.ensures
    ∙ ap (λ (gs : List Gift). gs ++ map (λ r. (number, r)) (giving (wires t) c.args.kept_only (number, port_at c.port-item.result))) c.loop-number.invariant
    ∙ sym (gifts_more (wires t) c.args.kept_only t.ports number (port_at c.port-item.result) (within_of port_at items c.deref-port-items.result.now number same c.loop-number-test.true) (read_of port_at items c.deref-port-items.result.now number c.port-item.result same c.loop-number-test.true c.port-item.is))

pub returns : goal.returns
returns c =
    let t = tables_view c.args.wiring.now.tables.now in
    let items = c.args.wiring.now.tables.now.ports.items in
    c.loop-number.invariant ∙ ap (gifts_among (wires t) c.args.kept_only) (take_all c.loop-number.number t.ports (whole_of port_at items c.deref-port-items.result.now c.loop-number.number c.deref-port-items.ensures.value c.loop-number-test.false))
