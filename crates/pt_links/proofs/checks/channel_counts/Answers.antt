use Rattle.std.proofs.Common.{◌≡◌, ℕ, length, subst, arith}
use Rattle.std.proofs.lemmas.List.{length-map}
use Rattle.pt_survey.specs.Survey.{tables_view, port_at}
use Rattle.pt_links.specs.Wiring.{AreCounts}
use Rattle.pt_links.proofs.checks.channel_counts.Goals as goal

pub count_port-requires-clause-number : goal.count_port-requires-clause-number
count_port-requires-clause-number c =
    let items = c.args.wiring.now.tables.now.ports.items in
    omega (arith, c.len-number-end.ensures, c.args.wiring.now.tables.now.ports.ok.0, c.loop-number-test.true, length-map items port_at)

pub loop-number-preserved : goal.loop-number-preserved
loop-number-preserved c = c.count_port.ensures

pub returns : goal.returns
returns c =
    let t = tables_view c.args.wiring.now.tables.now in
    let items = c.args.wiring.now.tables.now.ports.items in
    let all : c.loop-number.number ≡ length t.ports = omega (arith, c.len-number-end.ensures, c.args.wiring.now.tables.now.ports.ok.0, c.loop-number-test.false, length-map items port_at) in
    subst (λ (n : ℕ). AreCounts t n c.loop-number.counts.items) all c.loop-number.invariant
