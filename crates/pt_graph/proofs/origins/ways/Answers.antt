use Rattle.std.proofs.Common.{ℕ, ◌++◌, List, take, sym, ap, ◌∙◌}
use Rattle.std.proofs.lemmas.List.{append_assoc}
use Rattle.std.specs.List.{filter_map}
use Rattle.pt_survey.specs.Survey.{tables_view, port_at}
use Rattle.pt_net.specs.Net.{wires}
use Rattle.pt_graph.specs.Sources.{bond_of}
use Rattle.pt_graph.specs.Origins.{crossing, crossings_among}
use Rattle.pt_net.proofs.Members.{flat_more}
use Rattle.pt_links.proofs.Told.{read_of, within_of}
use Rattle.pt_graph.proofs.origins.ways.Goals as goal

pub loop-number-preserved : goal.loop-number-preserved
loop-number-preserved c =
    let t = tables_view c.args.wiring.now.tables.now in
    let items = c.args.wiring.now.tables.now.ports.items in
    let same = c.deref-port-items.ensures.value in
    let number = c.loop-number.number in
    let before = crossings_among (wires t) (take number t.ports) in
    let here = crossing (wires t) (number, port_at c.port-item.result) in
    c.in_ok-add_crossing.ensures
    ∙ ap (λ (ws : List (ℕ × ℕ)). ws ++ here) c.loop-number.invariant
    ∙ append_assoc (filter_map bond_of (wires t)) before here
    ∙ ap (λ (ws : List (ℕ × ℕ)). filter_map bond_of (wires t) ++ ws) (sym (flat_more (crossing (wires t)) t.ports number (port_at c.port-item.result) (within_of port_at items c.deref-port-items.result.now number same c.loop-number-test.true) (read_of port_at items c.deref-port-items.result.now number c.port-item.result same c.loop-number-test.true c.port-item.is)))
