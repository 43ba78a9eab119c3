use Rattle.pt_types.specs.Ty.{type_of}
use Rattle.pt_places.proofs.Parts.{values-more}
use Rattle.pt_places.proofs.seeds.joined.Goals as goal

pub loop-token-preserved : goal.loop-token-preserved
loop-token-preserved c =
    values-more c.args.tokens.now c.loop-token.token-index c.token-item.result _ (type_of c.loop-token.ty) (type_of c.in_ok-ty.ty) c.loop-token-test.true c.token-item.is c.loop-token.invariant c.in_ok-ty.ensures
