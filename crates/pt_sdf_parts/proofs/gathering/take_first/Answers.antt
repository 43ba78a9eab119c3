use Rattle.std.proofs.Common.{◌∙◌, subst, sym, ◌≤◌}
use Rattle.pt_sdf_parts.proofs.Lists.{taken-more, popped-more}
use Rattle.pt_sdf_parts.proofs.gathering.take_first.Goals as goal

pub loop-preserved : goal.loop-preserved
loop-preserved c = record {
  tokens = c.move_first.ensures.taken ∙ taken-more _ _ _ _ _ c.requires.given c.loop.invariant.lists c.loop.invariant.tokens;
  lists = c.move_first.ensures.lists ∙ popped-more _ _ _ _ c.requires.given c.loop.invariant.lists;
  room = subst (λ v. c.args.n ≤ v) (sym c.move_first.ensures.capacity) c.loop.invariant.room;
}
