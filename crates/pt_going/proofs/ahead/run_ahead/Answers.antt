use Rattle.std.proofs.Common.{sym, subst, refl}
use Rattle.std.specs.Prelude.{IfOk}
use Rattle.pt_node.specs.Shown.{shown_node}
use Rattle.pt_trees.specs.declared.top.Top.{Top}
use Rattle.pt_going.specs.Going.{Going, last_after}
use Rattle.pt_going.proofs.Beginning.{begins}
use Rattle.pt_going.proofs.ahead.run_ahead.Goals as goal

-- the job is one of SDF
pub returns-in-Sdf-clause-going : goal.returns-in-Sdf-clause-going
returns-in-Sdf-clause-going c =
    subst (λ (j : Top). IfOk c.run_blocks.result (λ fired. Going j (shown_node c.args.top.now) c.args.left.now fired (last_after fired) (shown_node c.run_blocks.new.top) c.run_blocks.new.left)) (sym c.in-Sdf.is) c.run_blocks.ensures.going

-- nothing is made
pub returns-in_default-clause-going : goal.returns-in_default-clause-going
returns-in_default-clause-going c = begins c.args.job.now c.args.left.now (shown_node c.args.top.now) c.requires

pub returns-in_default-2 : goal.returns-in_default-2
returns-in_default-2 c = record { going = begins c.args.job.now c.args.left.now (shown_node c.args.top.now) c.requires; outline = refl }
