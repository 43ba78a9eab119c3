use Rattle.std.proofs.Common.{◌≡◌, ◌∙◌, refl, sym, subst, map, ◌++◌, ◌∷◌, [], rules}
use Rattle.pt_meaning.specs.Basics.{with_tag}
use Rattle.pt_value.specs.declared.token.Token.TheVariants.{Int}
use Rattle.pt_tagged.proofs.TaggedLaws.{row-more, row-same, kept-first, kept-same}
use Rattle.pt_tagged.proofs.tagged.Tagged.push.Goals as goal

pub returns-in_err-push-clause-before : goal.returns-in_err-push-clause-before
returns-in_err-push-clause-before c =
    let same = subst (λ ns. with_tag c.self.inside.tag (map Int ns) ≡ with_tag c.args.tag (map Int ns)) c.as_slice.ensures.value (c.if-goes_on.ensures.same refl) in
    rw (c.in_err-push.ensures.items) (kept-same c.args.self.now _ (row-same c.self.inside.tag c.args.tag c.self.inside.numbers.items c.self.inside.rest.items c.args.self.now c.self.view_is same))

pub returns-then-goes_on-clause-pushed : goal.returns-then-goes_on-clause-pushed
returns-then-goes_on-clause-pushed c =
    let same = subst (λ ns. with_tag c.self.inside.tag (map Int ns) ≡ with_tag c.args.tag (map Int ns)) c.as_slice.ensures.value (c.if-goes_on.ensures.same refl) in
    let nothing = sym c.as_slice-in-Int.ensures.value ∙ c.if-goes_on.ensures.nothing refl in
    let more : c.push.new.self.items ≡ c.self.inside.numbers.items ++ (c.in-Int.number ∷ []) = search rules in
    rw (more, c.in-Int.is) (row-more c.self.inside.tag c.args.tag c.self.inside.numbers.items (c.in-Int.number ∷ []) c.self.inside.rest.items c.args.self.now c.self.view_is nothing same)

pub returns-then-goes_on-clause-before : goal.returns-then-goes_on-clause-before
returns-then-goes_on-clause-before c =
    let same = subst (λ ns. with_tag c.self.inside.tag (map Int ns) ≡ with_tag c.args.tag (map Int ns)) c.as_slice.ensures.value (c.if-goes_on.ensures.same refl) in
    let nothing = sym c.as_slice-in-Int.ensures.value ∙ c.if-goes_on.ensures.nothing refl in
    let more : c.push.new.self.items ≡ c.self.inside.numbers.items ++ (c.in-Int.number ∷ []) = search rules in
    rw (more) (kept-first c.args.self.now _ _ (row-more c.self.inside.tag c.args.tag c.self.inside.numbers.items (c.in-Int.number ∷ []) c.self.inside.rest.items c.args.self.now c.self.view_is nothing same))
