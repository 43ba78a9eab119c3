use Rattle.std.proofs.Common.{ap, ◌∙◌}
use Rattle.pt_node.specs.Shown.{shown_node}
use Rattle.pt_trees.specs.Ports.{outputs_in, filled}
use Rattle.pt_reporting.proofs.Gathering.{gathered}
use Rattle.pt_reporting.proofs.reporting.report.Goals as goal

pub returns-clause-traces : goal.returns-clause-traces
returns-clause-traces c = c.gather.ensures ∙ ap (λ v. filled (outputs_in (shown_node c.args.top.now)) v) c.in_ok-traces.ensures ∙ gathered c.args.count (shown_node c.args.top.now) _ c.requires
