use Rattle.std.proofs.Common.{sym, subst}
use Rattle.std.specs.Prelude.{IfOk}
use Rattle.pt_records.specs.Made.{meets_of}
use Rattle.pt_node.specs.Shown.{shown_node}
use Rattle.pt_node.specs.View.{kept_of}
use Rattle.pt_trees.specs.declared.ended.Ended.{Ended}
use Rattle.pt_trees.specs.declared.top.Top.{Top}
use Rattle.pt_trees.specs.Run.{IsRun}
use Rattle.pt_run.proofs.running.run_job.Goals as goal

-- the job is one of DE
pub returns-in-De-clause-report : goal.returns-in-De-clause-report
returns-in-De-clause-report c =
    subst (λ (j : Top). IfOk c.run_reactions.result (λ (ended : Ended). IsRun (meets_of (kept_of (shown_node c.run_reactions.new.top))) j c.args.budget (shown_node c.args.top.now) (shown_node c.run_reactions.new.top) ended)) (sym c.in-De.is) c.run_reactions.ensures.report
