use Rattle.std.proofs.Common.{refl}
use Rattle.pt_pn.proofs.MoveLaws.{stays-open, stays-there, not-moved, moves-more, goes-on}
use Rattle.pt_pn.proofs.pn.Core.go_on.Goals as goal

pub loop-init : goal.loop-init
loop-init c = not-moved c.args.self.now c.args.self.now refl

pub look-answer-requires : goal.look-answer-requires
look-answer-requires c = record {
  there = stays-there c.args.self.now c.loop.self c.args.process c.loop.invariant c.requires.there;
  running = stays-open c.args.self.now c.loop.self c.loop.invariant c.requires.running;
}

pub loop-preserved : goal.loop-preserved
loop-preserved c = moves-more c.args.self.now c.loop.self c.look-answer.new.self c.args.process c.look-answer.result (c.is_transfer.ensures c.if-not-is_transfer.false) c.loop.invariant c.look-answer.ensures

pub returns-then-not-is_transfer : goal.returns-then-not-is_transfer
returns-then-not-is_transfer c = goes-on c.args.self.now c.loop.self c.look-answer.new.self c.args.process c.look-answer.result c.loop.invariant c.look-answer.ensures
