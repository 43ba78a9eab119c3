use Rattle.std.proofs.Common.{◌+◌, ◌∷◌, [], ◌++◌, get_or, ap, ap₂, ◌∙◌, refl}
use Rattle.pt_reaction.proofs.OffsetLaws.{begins-more, total-more}
use Rattle.pt_reaction.proofs.offsets.offsets_of.Goals as goal

pub loop-n-preserved : goal.loop-n-preserved
loop-n-preserved c = (
  ap₂ (λ x y. x ++ y ∷ []) c.in_ok-push.ensures.items c.in-Some.ensures.1 ∙
      begins-more c.args.places.now c.loop-n.n-index c.loop-n.offsets.items c.loop-n.from (get_or c.args.places.now c.loop-n.n-index 0) c.loop-n-test.true c.loop-n.invariant.0 c.loop-n.invariant.1 refl,
  c.in-Some.ensures.1 ∙ ap (λ v. v + get_or c.args.places.now c.loop-n.n-index 0) c.loop-n.invariant.1 ∙ total-more c.args.places.now c.loop-n.n-index c.loop-n-test.true,
)
