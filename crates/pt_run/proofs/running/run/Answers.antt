use Rattle.std.proofs.Common.{arith, ◌+◌, ◌≡◌}
use Rattle.pt_node.specs.Shown.{shown_node}
use Rattle.pt_node.specs.View.{count_of}
use Rattle.pt_run.proofs.Counting.{counts-all}
use Rattle.pt_run.proofs.running.run.Goals as goal

-- what isn't left was made
pub returns-clause-counted : goal.returns-clause-counted
returns-clause-counted c =
    let left : c.run_job.new.left + count_of (shown_node c.run_job.new.top) ≡ c.args.budget = c.in_ok-ended.ensures.counted in
    counts-all (shown_node c.args.top.now) (shown_node c.run_job.new.top) c.requires.runnable.leaves c.run_job.ensures.outline _ (omega (arith, left))
