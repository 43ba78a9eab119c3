-- Two lists seen through one function, element by element.
use Rattle.std.proofs.Common.{◌≡◌, ℕ, ◌+◌, ◌<◌, List, length, map, take, get_or, sym, ap, ◌∙◌, arith}
use Rattle.std.proofs.lemmas.List.{take_more_same, length-map}
use Rattle.std.proofs.Math.ListN.{get_or-map}

module _ {X Y : Type 0} (f : X → Y) (xs ys : List X) (i : ℕ) (x y : X) where
  -- a pair that is the same goes on a common front
  pub take-map-more : (i < length xs) × (i < length ys) × ((d : X) → x ≡ get_or xs i d) × ((d : X) → y ≡ get_or ys i d) → x ≡ y → take i (map f xs) ≡ take i (map f ys) → take (i + 1) (map f xs) ≡ take (i + 1) (map f ys)
  take-map-more z e h = take_more_same (map f xs) (map f ys) i (f x) (omega (arith, z.0, length-map xs f)) (omega (arith, z.1, length-map ys f)) h (get_or-map f xs i x ∙ ap f (sym (z.2 x) ∙ e ∙ z.3 x) ∙ sym (get_or-map f ys i x))

  -- lists that are seen as the same have the same elements, where f is one to one
  pub map-same-at : ((a b : X) → f a ≡ f b → a ≡ b) → (i < length xs) × (i < length ys) × ((d : X) → x ≡ get_or xs i d) × ((d : X) → y ≡ get_or ys i d) → map f xs ≡ map f ys → x ≡ y
  map-same-at one z e = one x y (ap f (z.2 x) ∙ sym (get_or-map f xs i x) ∙ ap (λ l. get_or l i (f x)) e ∙ get_or-map f ys i x ∙ sym (ap f (z.3 x)))
