use Rattle.std.proofs.Common.{sym, ap, ◌∙◌}
use Rattle.pt_meaning.specs.Modal.{chosen}
use Rattle.pt_expr.specs.Env.{scope_of}
use Rattle.pt_guards.specs.Choose.{joined}
use Rattle.pt_guards.proofs.ChooseLaws.{right-at, goes-on, stops, all-tested}
use Rattle.pt_guards.proofs.choosing.choose.Goals as goal

pub test_guard-requires : goal.test_guard-requires
test_guard-requires c = record { right = right-at (scope_of c.args.env.now) c.args.transitions.now c.loop-number.number c.index-transitions-number.result c.requires.right c.loop-number-test.true c.index-transitions-number.is }

pub loop-number-preserved : goal.loop-number-preserved
loop-number-preserved c =
    c.loop-number.invariant
    ∙ goes-on (scope_of c.args.env.now) c.args.transitions.now c.loop-number.number c.index-transitions-number.result c.in_ok-tested.tested c.loop-number.enabled c.loop-number-test.true c.index-transitions-number.is c.in_ok-tested.ensures c.in-Ok.more (sym c.and.ensures ∙ c.in-Ok.is)

pub returns-in-Err : goal.returns-in-Err
returns-in-Err c =
    sym (c.loop-number.invariant ∙ stops (scope_of c.args.env.now) c.args.transitions.now c.loop-number.number c.index-transitions-number.result c.in_ok-tested.tested c.loop-number.enabled c.loop-number-test.true c.index-transitions-number.is c.in_ok-tested.ensures c.in-Err.fault (sym c.and.ensures ∙ c.in-Err.is))

pub returns : goal.returns
returns c = c.choice.ensures ∙ sym (c.loop-number.invariant ∙ ap (λ us. joined c.loop-number.enabled (chosen c.loop-number.number us)) (all-tested (scope_of c.args.env.now) c.args.transitions.now c.loop-number.number c.loop-number-test.false))
