use Rattle.std.proofs.Common.{◌∙◌}
use Rattle.pt_node.specs.Shown.{shown_node}
use Rattle.pt_node.proofs.WakeLaws.{recorded-wake}
use Rattle.pt_node.proofs.node.Node.wake.Goals as goal

pub returns : goal.returns
returns c = λ tag. c.own_wake.ensures ∙ recorded-wake tag (shown_node c.args.self.now)
