-- A list copied so far, seen through one function.
use Rattle.std.proofs.Common.{◌≡◌, ℕ, ◌+◌, ◌≤◌, ◌<◌, List, [], ◌∷◌, ◌++◌, length, map, take, get_or, sym, ap, ◌∙◌, arith}
use Rattle.std.proofs.lemmas.List.{take_more, length-map, map-append, take_all}
use Rattle.std.proofs.Math.ListN.{get_or-map}

module _ {X Y : Type 0} (f : X → Y) (xs ys : List X) (zs : List Y) (i : ℕ) where
  -- one element more, which is seen as the next one
  pub copied-more : (x y : X) → map f ys ≡ zs → map f xs ≡ take i zs → i < length ys → y ≡ get_or ys i y → f x ≡ f y → map f (xs ++ x ∷ []) ≡ take (i + 1) zs
  copied-more x y e so_far short is same =
      let long : i < length zs = omega (arith, ap length e, length-map ys f) in
      let at : get_or zs i (f y) ≡ f y = ap (λ l. get_or l i (f y)) (sym e) ∙ get_or-map f ys i y ∙ ap f (sym is) in
      let more : take (i + 1) zs ≡ take i zs ++ f y ∷ [] = take_more zs i (f y) long ∙ ap (λ u. take i zs ++ u ∷ []) at in
      map-append f xs (x ∷ []) ∙ (λ j. so_far j ++ same j ∷ []) ∙ sym more

  -- all of them
  pub copied-all : map f ys ≡ zs → map f xs ≡ take i zs → length ys ≤ i → map f xs ≡ zs
  copied-all e so_far long = so_far ∙ take_all i zs (omega (arith, ap length e, length-map ys f))
