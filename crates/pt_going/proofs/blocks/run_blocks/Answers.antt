use Rattle.std.proofs.Common.{arith}
use Rattle.pt_node.specs.Shown.{shown_node}
use Rattle.pt_trees.specs.declared.top.Top.TheVariants.{Sdf}
use Rattle.pt_going.specs.Going.{last_after}
use Rattle.pt_trees.proofs.TopLaws.{is-whole}
use Rattle.pt_node.specs.View.{node_of}
use Rattle.pt_going.proofs.Beginning.{begins}
use Rattle.pt_going.proofs.BlockLaws.{goes-on-by, stands-as-before}
use Rattle.pt_going.proofs.blocks.run_blocks.Goals as goal
use Rattle.pt_going.proofs.blocks.run_blocks.Goals.{then-count-lt2-via-then-count-lt2, then-count-lt2-via-else-count-lt2+then-not-fire_block}

-- nothing is made yet
pub returns-in_default-clause-going : goal.returns-in_default-clause-going
returns-in_default-clause-going c = begins (Sdf c.args.job.now) c.args.left.now (shown_node c.args.top.now) c.requires.runnable

pub ahead-init : goal.ahead-init
ahead-init c = record { few = omega arith; going = begins (Sdf c.args.job.now) c.args.left.now (shown_node c.args.top.now) c.requires.runnable }

-- no block was asked for, or none was made
pub returns-then-count-lt2-clause-going : goal.returns-then-count-lt2-clause-going
returns-then-count-lt2-clause-going c =
    elim c.then-count-lt2.branch [
      | then-count-lt2-via-then-count-lt2 w ↦ rw (w.top-is, w.left-is) c.ahead.invariant.going
      | then-count-lt2-via-else-count-lt2+then-not-fire_block w ↦
          rw (w.top-is, w.left-is)
          (stands-as-before (Sdf c.args.job.now) (shown_node c.args.top.now) c.ahead.fired (last_after c.ahead.fired) (shown_node c.ahead.top) (shown_node w.fire_block.new.top) w.fire_block.ensures.outline w.if-not-fire_block.ensures.made c.args.left.now c.ahead.left w.fire_block.new.left c.ahead.invariant.going w.fire_block.ensures.counted)
    ]

-- as many as the job has
pub overflow_add-fired : goal.overflow_add-fired
overflow_add-fired c = omega (arith, c.ahead.invariant.few, c.within-count.ensures)

pub ahead-preserved : goal.ahead-preserved
ahead-preserved c = record {
  few = omega (arith, c.ahead.invariant.few, c.within-count.ensures);
  going =
      goes-on-by c.args.job.now (is-whole (Sdf c.args.job.now) (node_of (shown_node c.args.top.now)) c.requires.runnable.fits) c.requires.alone (shown_node c.args.top.now) c.ahead.fired (shown_node c.ahead.top) (shown_node c.fire_block.new.top) c.fire_block.ensures.outline
      c.within-count.result (omega (arith, c.ahead.invariant.few, c.within-count.ensures)) c.if-not-fire_block.ensures.made
      c.args.left.now c.ahead.left c.fire_block.new.left c.ahead.invariant.going c.fire_block.ensures.counted;
}
