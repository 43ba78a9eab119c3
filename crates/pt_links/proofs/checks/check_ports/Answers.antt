use Rattle.std.proofs.Common.{◌≡◌, Some, arith}
use Rattle.std.proofs.lemmas.List.{length-map}
use Rattle.std.proofs.lemmas.Option.{slice_get_within}
use Rattle.std.specs.List.{slice_get}
use Rattle.pt_net.specs.Table.{PortAt}
use Rattle.pt_survey.specs.Survey.{tables_view, ports_view, port_at}
use Rattle.pt_links.specs.Wiring.{IsFine}
use Rattle.pt_links.proofs.checks.check_ports.Goals as goal
use borrow.Author.Count.{below_more}

pub loop-number-preserved : goal.loop-number-preserved
loop-number-preserved c =
    below_more (λ g. (p : PortAt) → slice_get (tables_view c.args.wiring.now.tables.now).ports g ≡ Some p → IsFine (tables_view c.args.wiring.now.tables.now) g p) c.loop-number.number c.loop-number.invariant c.in_ok-check_port.ensures.ok

pub returns-clause-ok : goal.returns-clause-ok
returns-clause-ok c = λ g p is.
    let within = slice_get_within (ports_view c.args.wiring.now.tables.now.ports.items) g p is in
    c.loop-number.invariant g (omega (arith, within, length-map c.args.wiring.now.tables.now.ports.items port_at, c.len-number-end.ensures, c.args.wiring.now.tables.now.ports.ok.0, c.loop-number-test.false)) p is
