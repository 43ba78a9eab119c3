use Rattle.std.proofs.Common.{rules, ◌+◌, arith}
use Rattle.pt_plan.proofs.Numbering.{total-step, total-le}
use Rattle.pt_plan.proofs.inside.has_total.Goals as goal

pub returns-then-n-rest : goal.returns-then-n-rest
returns-then-n-rest c = (
  (λ never. absurd (search (rules, never))),
  λ e. absurd (omega (arith, e, total-step c.args.numbers.now c.loop-n.n-index c.loop-n-test.true, total-le c.args.numbers.now (c.loop-n.n-index + 1), c.loop-n.invariant, c.if-n-rest.true)),
)

pub loop-n-preserved : goal.loop-n-preserved
loop-n-preserved c = omega (arith, total-step c.args.numbers.now c.loop-n.n-index c.loop-n-test.true, c.loop-n.invariant, c.if-n-rest.false)
