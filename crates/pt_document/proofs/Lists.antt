-- Lists that a loop goes along.
use Rattle.std.proofs.Common.{◌≡◌, ℕ, suc, ◌+◌, ◌<◌, List, ◌∷◌, get_or, length, drop, sym, ap, ◌∙◌, add-one, drop-cons}

-- what is left at an index is its item and what is left behind it
pub drop_item : (T : Type 0) (xs : List T) (i : ℕ) (x : T) → i < length xs → x ≡ get_or xs i x → drop i xs ≡ x ∷ drop (i + 1) xs
drop_item T xs i x h is = rw add-one (drop-cons xs i x h ∙ ap (λ (y : T). y ∷ drop (suc i) xs) (sym is))
