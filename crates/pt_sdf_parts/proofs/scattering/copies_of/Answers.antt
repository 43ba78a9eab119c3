use Rattle.std.proofs.Common.{◌≡◌, ℕ, ◌<◌, List, [], ◌∷◌, ◌++◌, length, ap, ap₂, ◌∙◌, sym, arith, refl}
use Rattle.std.proofs.lemmas.List.{take_more}
use Rattle.pt_meaning.specs.Streams.{Streams, at}
use Rattle.pt_value.specs.declared.token.Token.{Token}
use Rattle.pt_sdf_parts.proofs.Lists.{at-is}
use Rattle.pt_sdf_parts.proofs.scattering.copies_of.Goals as goal

single : (X : Streams Token) → length X ≡ 1 → at X 0 ∷ [] ≡ X
single [] e = absurd (omega arith)
single (x ∷ []) e = refl
single (x ∷ (y ∷ X)) e = absurd (omega arith)

pub returns-then-places-eq1 : goal.returns-then-places-eq1
returns-then-places-eq1 c = c.first.ensures ∙ ap (λ (v : List Token). let r : Streams Token = v ∷ [] in r) (c.in_ok-copy_of.ensures ∙ c.list.ensures) ∙ single c.args.inputs.now (sym c.places-2.ensures ∙ c.if-places-eq1.true)

pub loop-place-preserved : goal.loop-place-preserved
loop-place-preserved c =
    let X : Streams Token = c.args.inputs.now in
    let i : ℕ = c.loop-place.place in
    let h : i < length X = omega (arith, c.loop-place-test.true, c.places-place-end.ensures) in (
      c.push_reserved.ensures.items ∙ ap₂ (λ (a : Streams Token) (b : List Token). a ++ b ∷ []) c.loop-place.invariant.0 (c.in_ok-copy.ensures ∙ c.list-in-loop-place.ensures ∙ at-is X i) ∙ sym (take_more X i [] h),
      omega (arith, c.push_reserved.ensures.len, c.loop-place.invariant.1),
      c.push_reserved.ensures.capacity ∙ c.loop-place.invariant.2,
    )
