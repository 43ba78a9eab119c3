use Rattle.pt_node.specs.Shown.{shown_node}
use Rattle.pt_trees.specs.declared.top.Top.TheVariants.{De}
use Rattle.pt_going.specs.Going.{Going}
use Rattle.pt_run.proofs.reactions.run_reactions.Given as goal

abbrev pub invariant-loop-left : goal.invariant-loop-left
invariant-loop-left l = Going (De l.job) (shown_node l.fn.top) l.budget l.fired l.last (shown_node l.top) l.left

abbrev pub decreases-loop-left : goal.decreases-loop-left
decreases-loop-left l = l.left
