use Rattle.std.proofs.Common.{◌≤◌, ◌-◌}
use Rattle.pt_node.specs.Shown.{shown_node}
use Rattle.pt_trees.specs.declared.top.Top.TheVariants.{Sdf}
use Rattle.pt_going.specs.Going.{Going, last_after}
use Rattle.pt_going.proofs.blocks.run_blocks.Given as goal

-- so many iterations were made, which are no more than the job has
abbrev pub invariant-ahead : goal.invariant-ahead
invariant-ahead l = record {
  few : l.fired ≤ l.job.iterations;
  going : Going (Sdf l.job) (shown_node l.fn.top) l.fn.left l.fired (last_after l.fired) (shown_node l.top) l.left;
}

abbrev pub decreases-ahead : goal.decreases-ahead
decreases-ahead l = l.job.iterations - l.fired
