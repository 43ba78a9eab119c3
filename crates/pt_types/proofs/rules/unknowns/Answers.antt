use Rattle.std.proofs.Common.{◌≡◌, ◌+◌, ◌++◌, [], ◌∷◌, refl, ap, ◌∙◌, rules}
use Rattle.std.proofs.lemmas.List.{length_push}
use Rattle.std.proofs.lemmas.List.Elements.{All-push}
use Rattle.pt_types.specs.declared.ty.Ty.TheVariants as ty
use Rattle.pt_datatypes.specs.Datatype.{Unknown}
use Rattle.pt_types.specs.Ty.{type_of}
use Rattle.pt_types.proofs.rules.unknowns.Goals as goal

pub loop-preserved : goal.loop-preserved
loop-preserved c =
    let e : c.push.new.self.items ≡ c.loop.types.items ++ ty.Unknown ∷ [] = search rules in
    rw e (length_push c.loop.types.items ty.Unknown ∙ ap (λ n. n + 1) c.loop.invariant.0, All-push (λ t. type_of t ≡ Unknown) c.loop.types.items ty.Unknown c.loop.invariant.1 refl)
