use Rattle.std.proofs.Common.{◌++◌, ap, ◌∙◌}
use Rattle.pt_flow_base.proofs.Repetitions.{repeated-more}
use Rattle.pt_flow_streams.proofs.repeat.repeated.Goals as goal

pub loop-preserved : goal.loop-preserved
loop-preserved c = c.in_ok-push_copies.ensures ∙ ap (λ ys. ys ++ c.args.block.now) c.loop.invariant ∙ repeated-more c.loop.counter c.args.block.now
