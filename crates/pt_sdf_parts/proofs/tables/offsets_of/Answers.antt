use Rattle.std.proofs.Common.{◌+◌, ◌∷◌, [], ◌++◌, get_or, ap, ap₂, ◌∙◌, arith}
use Rattle.pt_sdf_parts.proofs.TableLaws.{begins-more, total-more}
use Rattle.pt_sdf_parts.proofs.tables.offsets_of.Goals as goal

pub loop-n-preserved : goal.loop-n-preserved
loop-n-preserved c = (
  c.push_reserved.ensures.items ∙ ap₂ (λ x y. x ++ y ∷ []) c.loop-n.invariant.0 c.loop-n.invariant.1 ∙ begins-more c.args.places.now c.loop-n.n-index c.loop-n-test.true,
  c.in-Some.ensures.1 ∙ ap (λ v. v + get_or c.args.places.now c.loop-n.n-index 0) c.loop-n.invariant.1 ∙ total-more c.args.places.now c.loop-n.n-index c.loop-n-test.true,
  omega (arith, c.push_reserved.ensures.len, c.loop-n.invariant.2),
  c.push_reserved.ensures.capacity ∙ c.loop-n.invariant.3,
)
