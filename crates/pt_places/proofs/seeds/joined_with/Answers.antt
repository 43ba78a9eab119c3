use Rattle.std.proofs.lemmas.Result.{IfOk-weaker}
use Rattle.pt_value.specs.Token.{value_of}
use Rattle.pt_places.proofs.Parts.{join-typed}
use Rattle.pt_places.proofs.seeds.joined_with.Goals as goal

pub returns : goal.returns
returns c =
    IfOk-weaker c.join.result _ _ (λ more h. join-typed c.args.ty.now c.in_ok-next.next more (value_of c.args.token.now) c.in_ok-next.ensures h) c.join.ensures
