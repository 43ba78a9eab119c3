use Rattle.std.proofs.Common.{◌∙◌}
use Rattle.pt_node.specs.Shown.{shown_node}
use Rattle.pt_node.specs.View.{node_of}
use Rattle.pt_de_inside.proofs.StepLaws.{place-more}
use Rattle.pt_de_inside.proofs.delays.add_delays.Goals as goal

pub loop-place-preserved : goal.loop-place-preserved
loop-place-preserved c =
    c.in_ok-push.ensures.items ∙ place-more (node_of (shown_node c.args.child.now)) c.args.flags.now.items c.loop-place.flags.items c.loop-place.place c.is_delay.result c.loop-place.invariant c.is_delay.ensures
