use Rattle.std.proofs.Common.{ℕ, List, subst}
use Rattle.pt_scopes.specs.Names.{seen_scope}
use Rattle.pt_scopes.specs.PortNames.{names_port_of}
use Rattle.pt_scopes.specs.Given.{IsInScope}
use Rattle.pt_scopes.proofs.NameTests.{each-more, each-of_all}
use Rattle.pt_parameter.proofs.giving.check_names.Goals as goal

pub loop-name-preserved : goal.loop-name-preserved
loop-name-preserved c =
    let P : List ℕ → Type 0 = IsInScope (names_port_of c.args.ports.now) (seen_scope c.args.seen.now) in
    let last : P c.name-item.result = subst P c.as_str.ensures (c.is_in_scope.ensures.yes c.if-not-is_in_scope.false) in
    each-more P c.args.names.now c.loop-name.name-index c.name-item.result c.loop-name-test.true c.name-item.is c.loop-name.invariant last

pub returns-clause-ok : goal.returns-clause-ok
returns-clause-ok c =
    each-of_all (IsInScope (names_port_of c.args.ports.now) (seen_scope c.args.seen.now)) c.args.names.now c.loop-name.name-index c.loop-name-test.false c.loop-name.invariant
