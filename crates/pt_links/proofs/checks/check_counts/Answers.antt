use Rattle.std.proofs.Common.{◌≡◌, ◌<◌, ◌≤◌, Some, subst, arith}
use Rattle.std.proofs.lemmas.List.{length-map}
use Rattle.std.proofs.lemmas.Option.{slice_get_within}
use Rattle.std.specs.List.{slice_get}
use Rattle.pt_document.specs.declared.code.Code.TheVariants as code
use Rattle.pt_net.specs.Standing.{Standing}
use Rattle.pt_survey.specs.Survey.{tables_view, placed_view, table_view}
use Rattle.pt_net.specs.Net.{wires}
use Rattle.pt_net.specs.Stands.{IsLinkFault, too_few_channels, least_channels, channels_in}
use Rattle.pt_links.proofs.Told.{told, number_view}
use Rattle.pt_links.proofs.Counts.{counted, too_few, enough}
use Rattle.pt_links.proofs.checks.check_counts.Goals as goal
use borrow.Author.Count.{below_more}

pub returns-then-index-least_channels-clause-told : goal.returns-then-index-least_channels-clause-told
returns-then-index-least_channels-clause-told c =
    let t = tables_view c.args.wiring.now.tables.now in
    let items = c.args.wiring.now.tables.now.entities.now in
    let number = c.loop-number.number in
    let is = number_view placed_view items number c.placed-item.result c.loop-number-test.true c.placed-item.is in
    let e = counted t c.in_ok-counts.counts.items number c.index.result.now c.in_ok-counts.ensures (omega (arith, c.loop-number-test.true, length-map items placed_view)) c.index.ensures in
    let few = too_few c.index.result.now (channels_in t.ports (wires t) number) c.least_channels.result e c.if-index-least_channels.true c.least_channels.ensures.small in
    told c.refused_entity.result code.Link (placed_view c.placed-item.result).path (IsLinkFault t) c.refused_entity.ensures (too_few_channels number (placed_view c.placed-item.result) is (subst (λ n. channels_in t.ports (wires t) number < n) c.least_channels.ensures.value few))

pub loop-number-preserved : goal.loop-number-preserved
loop-number-preserved c =
    let t = tables_view c.args.wiring.now.tables.now in
    let items = c.args.wiring.now.tables.now.entities.now in
    let number = c.loop-number.number in
    let is = number_view placed_view items number c.placed-item.result c.loop-number-test.true c.placed-item.is in
    let e = counted t c.in_ok-counts.counts.items number c.index.result.now c.in_ok-counts.ensures (omega (arith, c.loop-number-test.true, length-map items placed_view)) c.index.ensures in
    let many = enough c.index.result.now (channels_in t.ports (wires t) number) c.least_channels.result e c.if-index-least_channels.false in
    below_more (λ k. (s : Standing) → slice_get t.entities k ≡ Some s → least_channels s ≤ channels_in t.ports (wires t) k) number c.loop-number.invariant
    (λ s at. let same : placed_view c.placed-item.result ≡ s = cc in subst (λ (u : Standing). least_channels u ≤ channels_in t.ports (wires t) number) same (subst (λ n. n ≤ channels_in t.ports (wires t) number) c.least_channels.ensures.value many))

pub returns-clause-ok : goal.returns-clause-ok
returns-clause-ok c = λ e s is. c.loop-number.invariant e (omega (arith, slice_get_within (table_view c.args.wiring.now.tables.now.entities.now) e s is, length-map c.args.wiring.now.tables.now.entities.now placed_view, c.loop-number-test.false)) s is
