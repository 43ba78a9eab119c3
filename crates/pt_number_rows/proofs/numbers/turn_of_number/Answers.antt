use Rattle.std.proofs.Common.{◌≡◌, ℤ, w64, SFits, rules, [], ◌∷◌, true, refl, ap, sym, subst, ◌∙◌}
use Rattle.std.proofs.lemmas.Bool.{eqb-true}
use Rattle.std.proofs.lemmas.Int.{to_z-of_z}
use Rattle.std.proofs.lemmas.List.{nil_from_length}
use Rattle.pt_value.specs.declared.token.Token.TheVariants.{Int}
use Rattle.pt_directors.specs.Directors.{Director, director_calls}
use Rattle.pt_node.specs.declared.node.Node.{out-Node}
use Rattle.pt_node.specs.Shown.{shown_node}
use Rattle.pt_node.specs.View.{outline_of}
use Rattle.pt_node.specs.Told.{IsTold}
use Rattle.pt_node.proofs.OutlineLaws.{outline_recorded}
use Rattle.pt_turns.specs.Within.{Gave}
use Rattle.pt_turns.proofs.Quickly.{quickly-fired, records-in}
use Rattle.pt_number_rows.proofs.numbers.turn_of_number.Goals as goal

pub record_alone-requires-clause-alone : goal.record_alone-requires-clause-alone
record_alone-requires-clause-alone g c = records-in c.fire_number.new.node _ c.child.view_is (sym c.as_slice.ensures ∙ nil_from_length _ (eqb-true _ _ (sym c.is_empty.ensures ∙ c.if-not-is_empty.false)))

pub returns-clause-goes : goal.returns-clause-goes
returns-clause-goes g c =
    let d : Director = g.C.NumberCore.director c.args.core.now in
    let d' : Director = g.C.NumberCore.director c.told_number.new.self in
    let n : ℤ = c.in-Some.given in
    let fits : SFits w64 n = search rules in
    let none : (out-Node c.fire_number.new.node).records ≡ [] = records-in c.fire_number.new.node _ c.child.view_is (sym c.as_slice.ensures ∙ nil_from_length _ (eqb-true _ _ (sym c.is_empty.ensures ∙ c.if-not-is_empty.false))) in
    let told : IsTold director_calls d (shown_node c.fire_number.new.node) c.args.number ((Int n ∷ []) ∷ []) d' = subst (λ z. IsTold director_calls d (shown_node c.fire_number.new.node) c.args.number ((Int z ∷ []) ∷ []) d') (to_z-of_z w64 n fits) (c.if-not-told_number.ensures.told refl) in
    let right : director_calls.accepts d c.args.number ((Int n ∷ []) ∷ []) ≡ true = subst (λ z. director_calls.accepts d c.args.number ((Int z ∷ []) ∷ []) ≡ true) (to_z-of_z w64 n fits) (c.if-not-told_number.ensures.accepted refl) in
    quickly-fired d (shown_node c.args.child.now) (shown_node c.fire_number.new.node) c.args.number c.args.tag ((Int n ∷ []) ∷ []) d' (shown_node c.record_alone.new.self) c.in-Some.ensures.goes (ap (λ p. p.made) c.in-Some.ensures.past) none told right c.record_alone.ensures

pub returns-clause-outline : goal.returns-clause-outline
returns-clause-outline g c = ap (λ s. outline_of s) c.record_alone.ensures ∙ outline_recorded c.args.tag (shown_node c.fire_number.new.node) ∙ c.in-Some.ensures.goes.outline

pub returns-then-not-told_number-clause-goes : goal.returns-then-not-told_number-clause-goes
returns-then-not-told_number-clause-goes g c =
    let d : Director = g.C.NumberCore.director c.args.core.now in
    let n : ℤ = c.in-Some.given in
    let fits : SFits w64 n = search rules in (
      c.if-not-told_number.ensures.kept refl,
      (subst (λ z. Gave (shown_node c.args.child.now) (director_calls.lent_of d) ((Int z ∷ []) ∷ []) (shown_node c.fire_number.new.node)) (sym (to_z-of_z w64 n fits)) c.in-Some.ensures.goes, ap (λ p. p.made) c.in-Some.ensures.past),
    )
