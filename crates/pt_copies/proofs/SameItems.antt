-- Lists of which each thing is seen as it is.
use Rattle.std.proofs.Common.{◌≡◌, List, [], ◌∷◌, map, refl, sym, ap, ◌∙◌}

map-same : {A : Type 0} (xs : List A) → map (λ x. x) xs ≡ xs
map-same [] = refl
map-same (x ∷ xs) = ap (λ ys. x ∷ ys) (map-same xs)

pub same_items : {A : Type 0} (xs ys : List A) → map (λ x. x) xs ≡ map (λ y. y) ys → xs ≡ ys
same_items xs ys same = sym (map-same xs) ∙ same ∙ map-same ys
