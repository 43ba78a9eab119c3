use Rattle.std.proofs.Common.{arith}
use Rattle.pt_sdf_parts.proofs.StretchLaws.{stays-in-stretch, goes-to-next, ends-turn}
use Rattle.pt_sdf_parts.proofs.tables.advance.Goals as goal

pub returns-then-done-order : goal.returns-then-done-order
returns-then-done-order c = stays-in-stretch c.args.order.now c.args.left.now c.args.at.now c.args.done.now c.requires.within c.if-done-order.true

pub returns-then-at-order : goal.returns-then-at-order
returns-then-at-order c = ends-turn c.args.order.now c.args.left.now c.args.at.now c.args.done.now c.requires.within c.if-done-order.false (omega (arith, c.if-at-order.true))

pub returns : goal.returns
returns c = goes-to-next c.args.order.now c.args.left.now c.args.at.now c.args.done.now c.requires.within c.if-done-order.false (omega (arith, c.requires.within.there, c.if-at-order.false))
