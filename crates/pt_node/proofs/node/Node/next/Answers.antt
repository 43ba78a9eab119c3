use Rattle.std.proofs.Common.{ap₂, ◌∙◌}
use Rattle.pt_meaning.specs.NodeFacts.{at_first}
use Rattle.pt_node.specs.Shown.{shown_node}
use Rattle.pt_node.specs.Wake.{past_of}
use Rattle.pt_node.proofs.WakeLaws.{next-wake}
use Rattle.pt_node.proofs.node.Node.next.Goals as goal

pub own_wake-requires : goal.own_wake-requires
own_wake-requires c = c.requires.0

pub returns : goal.returns
returns c = c.wake.ensures ∙ ap₂ (λ b w. at_first b (past_of (shown_node c.args.self.now)).last w) c.begins.ensures c.own_wake.ensures ∙ next-wake (shown_node c.args.self.now)
