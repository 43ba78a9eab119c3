-- Lines of the rows of a list.
use Rattle.std.proofs.Common.{◌≡◌, ℕ, ◌+◌, ◌<◌, List, [], ◌∷◌, ◌++◌, length, get_or, take, flat_map, append-nil, append_assoc, sym, ap, ◌∙◌}
use Rattle.std.proofs.lemmas.List.{take_more}
use Rattle.std.proofs.lemmas.Grind.{flat_map-append}

-- the line of one row more
pub one-more : {X : Type 0} (f : X → List ℕ) (xs : List X) (i : ℕ) (x : X) (start now next : List ℕ) → i < length xs → x ≡ get_or xs i x → now ≡ start ++ flat_map f (take i xs) → next ≡ now ++ f x → next ≡ start ++ flat_map f (take (i + 1) xs)
one-more f xs i x start now next within is so_far written =
    let before = flat_map f (take i xs) in
    let more : flat_map f (take (i + 1) xs) ≡ before ++ f x =
    ap (flat_map f) (take_more xs i x within ∙ ap (λ y. take i xs ++ y ∷ []) (sym is)) ∙ flat_map-append f (take i xs) (x ∷ []) ∙ ap (λ (ys : List ℕ). before ++ ys) (append-nil (f x)) in
    written ∙ ap (λ (ys : List ℕ). ys ++ f x) so_far ∙ append_assoc start before (f x) ∙ sym (ap (λ (ys : List ℕ). start ++ ys) more)
