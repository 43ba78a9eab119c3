-- A text has one list of words.
use Rattle.std.proofs.Common.{◌≡◌, List, [], ◌∷◌, ℕ, Some, None, refl, sym, ◌∙◌, ap, subst}
use Rattle.std.proofs.lemmas.Option.{some_pair_parts, none-some}
use Rattle.pt_language.specs.declared.word.Word.{Word}
use Rattle.pt_language.specs.Words.{Splits, stops, goes_on, word_at, without_blanks}

pub one_list : {text left rest : List ℕ} {ws vs : List Word} → Splits text ws left → Splits text vs rest → (ws ≡ vs) × (left ≡ rest)
one_list (stops e) (stops f) = (refl, refl)
one_list (stops e) (goes_on {rest = r} {w = w} f s) = let z : None ≡ Some (w, r) = sym e ∙ f in absurd (none-some (w, r) z)
one_list (goes_on {rest = r} {w = w} e s) (stops f) = let z : None ≡ Some (w, r) = sym f ∙ e in absurd (none-some (w, r) z)
one_list (goes_on {rest = r} {left = left} {w = w} {ws = ws} e s) (goes_on {rest = q} {w = v} {ws = vs} f u) =
    let p = some_pair_parts _ _ _ _ (sym e ∙ f) in
    let P : List ℕ → Type 0 = λ t. Splits t ws left in
    let i = one_list (subst P p.1 s) u in
    ((λ j. p.0 j ∷ i.0 j), i.1)
