use Rattle.std.proofs.Common.{◌∷◌, [], ◌++◌, ap₂, ◌∙◌}
use Rattle.pt_sr.proofs.OffsetLaws.{unheard-push}
use Rattle.pt_sr.proofs.offsets.unheard_of.Goals as goal

pub loop-n-preserved : goal.loop-n-preserved
loop-n-preserved c = c.in_ok-push.ensures.items ∙ ap₂ (λ x y. x ++ y ∷ []) c.loop-n.invariant c.in-Some.ensures.1 ∙ unheard-push c.args.places.now c.loop-n.n-index c.loop-n-test.true
