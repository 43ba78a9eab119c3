-- Lists in order: the order in which elements are placed makes no difference, and what was placed can be taken out again.
use Rattle.std.proofs.Common.{◌≡◌, ℕ, zero, suc, ◌<◌, Bool, true, false, cond, ◌&&◌, List, [], ◌∷◌, length, get_or, set, refl, sym, ap, subst, ◌∙◌, arith, inl, inr}
use Rattle.std.proofs.lemmas.Bool.{false≢true, cases_Bool, cases_eq, and_left}
use Rattle.std.proofs.lemmas.List.{length-set, get_or-set_same, get_or-set_other}
use Rattle.std.proofs.lemmas.List.Edits.{swap_is}
use Rattle.std.proofs.lemmas.List.Sorted.{IsPermutation-keeps, IsPermutation-refl, IsPermutation-cons, IsPermutation-trans, IsPermutation-swap}
use Rattle.std.specs.List.{swap}
use Rattle.std.specs.List.Sorted.{IsPermutation}
use Rattle.pt_events.specs.Placed.{placed, in_order, without}
use Rattle.pt_events.proofs.Orders.{IsOrder, itself}

-- an element is read where it was written, and also where it stood
read : {X : Type 0} (l : List X) (i j : ℕ) (d : X) → j < length l → get_or (set l i (get_or l j d)) j d ≡ get_or l j d
read l i j d h = elim (cases_eq j i) [
  | inl e ↦ subst (λ k. get_or (set l k (get_or l j d)) j d ≡ get_or l j d) e (get_or-set_same l j (get_or l j d) d h)
  | inr n ↦ get_or-set_other l i j (get_or l j d) d n
]

module _ {X : Type 0} (before : X → X → Bool) (o : IsOrder before) where
  here : (x y : X) (ys : List X) → before x y ≡ true → placed before x (y ∷ ys) ≡ x ∷ y ∷ ys
  here x y ys e = ap (λ b. cond b (x ∷ y ∷ ys) (y ∷ placed before x ys)) e

  further : (x y : X) (ys : List X) → before x y ≡ false → placed before x (y ∷ ys) ≡ y ∷ placed before x ys
  further x y ys e = ap (λ b. cond b (x ∷ y ∷ ys) (y ∷ placed before x ys)) e

  -- x and y both come before z
  front : (x y z : X) (zs : List X) → before x z ≡ true → before y z ≡ true → placed before x (y ∷ z ∷ zs) ≡ placed before y (x ∷ z ∷ zs)
  front x y z zs p q = elim (cases_Bool (before x y)) [
    | inl xy ↦ elim (cases_Bool (before y x)) [
      | inl yx ↦
          let same : x ≡ y = o.antisymm x y xy yx in
          λ i. placed before (same i) ((sym same i) ∷ z ∷ zs)
      | inr fails ↦ here x y (z ∷ zs) xy ∙ sym (further y x (z ∷ zs) fails ∙ ap (λ l. x ∷ l) (here y z zs q))
    ]
    | inr fails ↦ further x y (z ∷ zs) fails ∙ ap (λ l. y ∷ l) (here x z zs p) ∙ sym (here y x (z ∷ zs) (o.total x y fails))
  ]

  front_nil : (x y : X) → placed before x (y ∷ []) ≡ placed before y (x ∷ [])
  front_nil x y = elim (cases_Bool (before x y)) [
    | inl xy ↦ elim (cases_Bool (before y x)) [
      | inl yx ↦
          let same : x ≡ y = o.antisymm x y xy yx in
          λ i. placed before (same i) ((sym same i) ∷ [])
      | inr fails ↦ here x y [] xy ∙ sym (further y x [] fails)
    ]
    | inr fails ↦ further x y [] fails ∙ sym (here y x [] (o.total x y fails))
  ]

  -- x comes before z, and y behind it
  apart : (x y z : X) (zs : List X) → before x z ≡ true → before y z ≡ false → placed before x (placed before y (z ∷ zs)) ≡ placed before y (placed before x (z ∷ zs))
  apart x y z zs p q =
      let fails : before y x ≡ false = elim (cases_Bool (before y x)) [ inl yx ↦ absurd (false≢true (sym q ∙ o.trans y x z yx p)) | inr e ↦ e ] in
      ap (placed before x) (further y z zs q) ∙ here x z (placed before y zs) p ∙ sym (ap (placed before y) (here x z zs p) ∙ further y x (z ∷ zs) fails ∙ ap (λ l. x ∷ l) (further y z zs q))

  pub placed-placed : (x y : X) (zs : List X) → placed before x (placed before y zs) ≡ placed before y (placed before x zs)
  placed-placed x y [] = front_nil x y
  placed-placed x y (z ∷ zs) = elim (cases_Bool (before x z)) [
    | inl p ↦ elim (cases_Bool (before y z)) [
      | inl q ↦ ap (placed before x) (here y z zs q) ∙ front x y z zs p q ∙ sym (ap (placed before y) (here x z zs p))
      | inr q ↦ apart x y z zs p q
    ]
    | inr p ↦ elim (cases_Bool (before y z)) [
      | inl q ↦ sym (apart y x z zs q p)
      | inr q ↦ ap (placed before x) (further y z zs q) ∙ further x z (placed before y zs) p ∙ ap (λ l. z ∷ l) (placed-placed x y zs) ∙ sym (ap (placed before y) (further x z zs p) ∙ further y z (placed before x zs) q)
    ]
  ]

  -- what was placed is taken out again
  pub without-placed : (x : X) (zs : List X) → without before x (placed before x zs) ≡ zs
  without-placed x [] = ap (λ b. cond (b && b) [] (x ∷ [])) (itself o x)
  without-placed x (z ∷ zs) = elim (cases_Bool (before x z)) [
    | inl e ↦ ap (without before x) (here x z zs e) ∙ ap (λ b. cond (b && b) (z ∷ zs) (x ∷ without before x (z ∷ zs))) (itself o x)
    | inr e ↦ ap (without before x) (further x z zs e) ∙ ap (λ b. cond b (placed before x zs) (z ∷ without before x (placed before x zs))) (and_left (before x z) (before z x) e) ∙ ap (λ l. z ∷ l) (without-placed x zs)
  ]

  -- an element in the place of another
  in_order-set : (l : List X) (i : ℕ) (a b d : X) → i < length l → get_or l i d ≡ a → placed before a (in_order before (set l i b)) ≡ placed before b (in_order before l)
  in_order-set [] i a b d h e = absurd (omega (arith, h))
  in_order-set (x ∷ xs) zero a b d h e = placed-placed a b (in_order before xs) ∙ ap (λ y. placed before b (placed before y (in_order before xs))) (sym e)
  in_order-set (x ∷ xs) (suc i) a b d h e =
      placed-placed a x (in_order before (set xs i b)) ∙ ap (placed before x) (in_order-set xs i a b d (omega (arith, h)) e) ∙ placed-placed x b (in_order before xs)

  in_order-swap : (l : List X) (i j : ℕ) → i < length l → j < length l → in_order before (swap l i j) ≡ in_order before l
  in_order-swap [] i j h k = refl
  in_order-swap (x ∷ xs) i j h k =
      let l : List X = x ∷ xs in
      let a : X = get_or l i x in
      let b : X = get_or l j x in
      let m : List X = set l i b in
      let at : get_or m j x ≡ b = read l i j x k in
      let first : placed before b (in_order before (set m j a)) ≡ placed before a (in_order before m) = in_order-set m j b a x (omega (arith, k, length-set l i b)) at in
      let second : placed before a (in_order before m) ≡ placed before b (in_order before l) = in_order-set l i a b x h refl in
      ap (in_order before) (sym (swap_is l i j x h k)) ∙ sym (without-placed b (in_order before (set m j a))) ∙ ap (without before b) (first ∙ second) ∙ without-placed b (in_order before l)

  -- the order in which elements come makes no difference
  pub in_order-permutation : (xs ys : List X) → IsPermutation xs ys → in_order before xs ≡ in_order before ys
  in_order-permutation xs ys h = IsPermutation-keeps xs (λ l. in_order before xs ≡ in_order before l) refl (λ l i j p q e. e ∙ sym (in_order-swap l i j p q)) ys h

  -- the same elements
  pub placed-permutation : (x : X) (zs : List X) → IsPermutation (x ∷ zs) (placed before x zs)
  placed-permutation x [] = IsPermutation-refl (x ∷ [])
  placed-permutation x (z ∷ zs) = elim (cases_Bool (before x z)) [
    | inl e ↦ subst (λ l. IsPermutation (x ∷ z ∷ zs) l) (sym (here x z zs e)) (IsPermutation-refl (x ∷ z ∷ zs))
    | inr e ↦ subst (λ l. IsPermutation (x ∷ z ∷ zs) l) (sym (further x z zs e)) (IsPermutation-trans (x ∷ z ∷ zs) (z ∷ x ∷ zs) (z ∷ placed before x zs) (exchanged x z zs) (IsPermutation-cons z (x ∷ zs) (placed before x zs) (placed-permutation x zs)))
  ]
    where
      exchanged : (x z : X) (zs : List X) → IsPermutation (x ∷ z ∷ zs) (z ∷ x ∷ zs)
      exchanged x z zs = IsPermutation-swap (x ∷ z ∷ zs) (z ∷ x ∷ zs) 0 1 (omega arith) (omega arith) refl

  pub in_order-same : (xs : List X) → IsPermutation xs (in_order before xs)
  in_order-same [] = IsPermutation-refl []
  in_order-same (x ∷ xs) = IsPermutation-trans (x ∷ xs) (x ∷ in_order before xs) (placed before x (in_order before xs)) (IsPermutation-cons x xs (in_order before xs) (in_order-same xs)) (placed-permutation x (in_order before xs))
