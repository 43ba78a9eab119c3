use Rattle.std.proofs.Common.{◌≡◌, ℤ, w64, SFits, rules, [], ◌∷◌, true, map, Some, refl, ap, sym, subst, ◌∙◌}
use Rattle.std.proofs.lemmas.Int.{to_z-of_z}
use Rattle.pt_meaning.specs.NodeFacts.{need_of, next_of}
use Rattle.pt_value.specs.declared.token.Token.TheVariants.{Int}
use Rattle.pt_library.specs.LibraryActor.{rows}
use Rattle.pt_directors.specs.Directors.{Director, director_calls}
use Rattle.pt_node.specs.Firing.{noted, recorded}
use Rattle.pt_node.specs.Shown.{Shown, shown_node}
use Rattle.pt_node.specs.View.{node_of, outline_of}
use Rattle.pt_node.specs.Told.{IsTold}
use Rattle.pt_node.proofs.OutlineLaws.{outline_bare, outline_recorded}
use Rattle.pt_turns.specs.declared.turn.Turn.TheVariants as turn
use Rattle.pt_turns.specs.Within.{Given}
use Rattle.pt_turns.proofs.Answering.{if-ok}
use Rattle.pt_turns.proofs.Quickly.{given-bare}
use Rattle.pt_turns.proofs.Turning.{turn-told}
use Rattle.pt_number_rows.proofs.numbers.tell_recorded.Goals as goal

pub returns-then-is_err-clause-goes : goal.returns-then-is_err-clause-goes
returns-then-is_err-clause-goes g c old given =
    let n : ℤ = c.args.given in
    let fits : SFits w64 n = search rules in (
      refl,
      subst (λ z. Given (Some z) old (director_calls.lent_of (g.C.NumberCore.director c.args.core.now)) (shown_node c.note_numbers.new.self)) (sym (to_z-of_z w64 n fits)) (given-bare old (shown_node c.args.node.now) (shown_node c.note_numbers.new.self) (director_calls.lent_of (g.C.NumberCore.director c.args.core.now)) n c.note_numbers.ensures.kept given),
    )

pub returns-then-is_err-clause-outline : goal.returns-then-is_err-clause-outline
returns-then-is_err-clause-outline g c = outline_bare (shown_node c.note_numbers.new.self) (shown_node c.args.node.now) c.note_numbers.ensures.kept

pub returns-then-not-told_number-clause-goes : goal.returns-then-not-told_number-clause-goes
returns-then-not-told_number-clause-goes g c old given =
    let n : ℤ = c.args.given in
    let fits : SFits w64 n = search rules in (
      c.if-not-told_number.ensures.kept refl,
      subst (λ z. Given (Some z) old (director_calls.lent_of (g.C.NumberCore.director c.args.core.now)) (shown_node c.note_numbers.new.self)) (sym (to_z-of_z w64 n fits)) (given-bare old (shown_node c.args.node.now) (shown_node c.note_numbers.new.self) (director_calls.lent_of (g.C.NumberCore.director c.args.core.now)) n c.note_numbers.ensures.kept given),
    )

pub returns-then-not-told_number-clause-outline : goal.returns-then-not-told_number-clause-outline
returns-then-not-told_number-clause-outline g c = outline_bare (shown_node c.note_numbers.new.self) (shown_node c.args.node.now) c.note_numbers.ensures.kept

pub returns-clause-goes : goal.returns-clause-goes
returns-clause-goes g c old given =
    let d : Director = g.C.NumberCore.director c.args.core.now in
    let d' : Director = g.C.NumberCore.director c.told_number.new.self in
    let n : ℤ = c.args.given in
    let mid : Shown = shown_node c.args.node.now in
    let after : Shown = shown_node c.record.new.self in
    let fits : SFits w64 n = search rules in
    let told : IsTold director_calls d (shown_node c.note_numbers.new.self) c.args.number ((Int n ∷ []) ∷ []) d' = subst (λ z. IsTold director_calls d (shown_node c.note_numbers.new.self) c.args.number ((Int z ∷ []) ∷ []) d') (to_z-of_z w64 n fits) (c.if-not-told_number.ensures.told refl) in
    let right : director_calls.accepts d c.args.number ((Int n ∷ []) ∷ []) ≡ true = subst (λ z. director_calls.accepts d c.args.number ((Int z ∷ []) ∷ []) ≡ true) (to_z-of_z w64 n fits) (c.if-not-told_number.ensures.accepted refl) in
    let is : after ≡ recorded c.args.tag (noted c.args.tag ((Int n ∷ []) ∷ []) mid) =
    c.record.ensures ∙
    ap (λ s. recorded c.args.tag s)
    (if-ok c.note_numbers.result (shown_node c.note_numbers.new.self ≡ noted c.args.tag (map Int c.from_ref.result.now ∷ []) mid) (sym c.is_err.ensures.value ∙ c.if-is_err.false) c.note_numbers.ensures.noted ∙
    ap (λ ns. noted c.args.tag (map Int ns ∷ []) mid) (c.from_ref.ensures.value ∙ ap (λ z. z ∷ []) (to_z-of_z w64 n fits))) in
    turn-told director_calls d old mid c.args.number c.args.tag ((Int n ∷ []) ∷ []) turn.Done d' after (given.0.goes c.args.tag) given.0.fit given.0.outline given.1
    (right, told c.args.tag ∙ ap (λ v. director_calls.told c.args.number ((Int n ∷ []) ∷ []) (next_of rows (node_of v)) (need_of rows (node_of v)) d) (sym c.record.ensures), is)

pub returns-clause-outline : goal.returns-clause-outline
returns-clause-outline g c = ap (λ s. outline_of s) c.record.ensures ∙ outline_recorded c.args.tag (shown_node c.note_numbers.new.self) ∙ outline_bare (shown_node c.note_numbers.new.self) (shown_node c.args.node.now) c.note_numbers.ensures.kept
