-- Lists that are made of blocks, one for each of the things that are numbered: what ends at each of them, and what is in one composite.
use Rattle.std.proofs.Common.{◌≡◌, ℕ, zero, suc, ◌+◌, ◌≤◌, Bool, true, false, cond, nat_eq, List, [], ◌∷◌, ◌++◌, Option, Some, None, filter, refl, sym, ap, ap₂, subst, ◌∙◌, arith}
use Rattle.std.proofs.lemmas.Bool.{eqb-true, eq-eqb, ne_eqb}
use Rattle.std.proofs.lemmas.List.{append-nil}
use Rattle.std.proofs.lemmas.List.Elements.{filter-append}
use Rattle.std.proofs.lemmas.Option.{none-some, same_Some}
use Rattle.std.specs.List.{AllByRecursion, flat_map, slice_get}

-- ---- what passes a test

pub filter-same : {X : Type 0} (p q : X → Bool) (xs : List X) → AllByRecursion (λ x. p x ≡ q x) xs → filter p xs ≡ filter q xs
filter-same p q [] a = refl
filter-same p q (x ∷ xs) a = ap (λ b. cond b (x ∷ filter p xs) (filter p xs)) a.0 ∙ ap (λ ys. cond (q x) (x ∷ ys) ys) (filter-same p q xs a.1)

pub filter-none : {X : Type 0} (p : X → Bool) (xs : List X) → AllByRecursion (λ x. p x ≡ false) xs → filter p xs ≡ []
filter-none p [] a = refl
filter-none p (x ∷ xs) a = ap (λ b. cond b (x ∷ filter p xs) (filter p xs)) a.0 ∙ filter-none p xs a.1

pub filter-whole : {X : Type 0} (p : X → Bool) (xs : List X) → AllByRecursion (λ x. p x ≡ true) xs → filter p xs ≡ xs
filter-whole p [] a = refl
filter-whole p (x ∷ xs) a = ap (λ b. cond b (x ∷ filter p xs) (filter p xs)) a.0 ∙ ap (λ ys. x ∷ ys) (filter-whole p xs a.1)

pub all-by : {X : Type 0} (P Q : X → Type 0) → ((x : X) → P x → Q x) → (xs : List X) → AllByRecursion P xs → AllByRecursion Q xs
all-by P Q f [] a = tt
all-by P Q f (x ∷ xs) a = (f x a.0, all-by P Q f xs a.1)

pub all-append : {X : Type 0} (P : X → Type 0) (xs ys : List X) → AllByRecursion P xs → AllByRecursion P ys → AllByRecursion P (xs ++ ys)
all-append P [] ys a b = b
all-append P (x ∷ xs) ys a b = (a.0, all-append P xs ys a.1 b)

-- ---- blocks

-- the number is this
abbrev pub is_some_of : ℕ → Option ℕ → Bool
is_some_of c None = false
is_some_of c (Some p) = nat_eq p c

some-of : (c : ℕ) (o : Option ℕ) → is_some_of c o ≡ true → o ≡ Some c
some-of c None e = absurd (let h : false ≡ true = e in cc)
some-of c (Some p) e = ap (λ m. Some m) (eqb-true p c e)

of-some : (c d : ℕ) (o : Option ℕ) → o ≡ Some d → d ≡ c → is_some_of c o ≡ true
of-some c d o e same = ap (is_some_of c) e ∙ eq-eqb d c same

-- the numbers of those that pass, from this number on
abbrev pub numbers_of : {S : Type 0} → (S → Bool) → ℕ → List S → List ℕ
numbers_of test j [] = []
numbers_of test j (s ∷ ss) = cond (test s) (j ∷ numbers_of test (suc j) ss) (numbers_of test (suc j) ss)

numbers-later : {S : Type 0} (test : S → Bool) (j : ℕ) (ss : List S) → AllByRecursion (λ i. j ≤ i) (numbers_of test j ss)
numbers-later test j [] = tt
numbers-later test j (s ∷ ss) = chosen (test s) (all-by (λ i. suc j ≤ i) (λ i. j ≤ i) (λ i l. omega (arith, l)) (numbers_of test (suc j) ss) (numbers-later test (suc j) ss))
  where
    chosen : (b : Bool) → AllByRecursion (λ i. j ≤ i) (numbers_of test (suc j) ss) → AllByRecursion (λ i. j ≤ i) (cond b (j ∷ numbers_of test (suc j) ss) (numbers_of test (suc j) ss))
    chosen true rest = (omega arith, rest)
    chosen false rest = rest

module _ {X S : Type 0} (to : X → ℕ) (Holds : S → X → Type 0) (IsBlock : ℕ → S → List X → Type 0) where
  -- it ends at this number
  abbrev ends : ℕ → X → Bool
  ends i x = nat_eq (to x) i

  -- a block for each of these, which are numbered from here on: all in it ends at that number
  abbrev pub AreBlocks : ℕ → List S → List X → Type 0
  AreBlocks j [] xs = xs ≡ []
  AreBlocks j (s ∷ ss) xs = (b : List X) × (rest : List X) × (xs ≡ b ++ rest) × AllByRecursion (λ x. (to x ≡ j) × Holds s x) b × IsBlock j s b × AreBlocks (suc j) ss rest

  blocks-later : (j : ℕ) (ss : List S) (xs : List X) → AreBlocks j ss xs → AllByRecursion (λ x. j ≤ to x) xs
  blocks-later j [] xs e = subst (AllByRecursion (λ x. j ≤ to x)) (sym e) tt
  blocks-later j (s ∷ ss) xs (b, rest, e, own, is, more) =
      subst (AllByRecursion (λ x. j ≤ to x)) (sym e)
      (all-append (λ x. j ≤ to x) b rest
      (all-by (λ x. (to x ≡ j) × Holds s x) (λ x. j ≤ to x) (λ x h. (let k = h.0 in omega (arith, k))) b own)
      (all-by (λ x. suc j ≤ to x) (λ x. j ≤ to x) (λ x l. omega (arith, l)) rest (blocks-later (suc j) ss rest more)))

  -- what ends at the first, and at the later ones
  first-ends : (j : ℕ) (s : S) (b rest : List X) → AllByRecursion (λ x. (to x ≡ j) × Holds s x) b → AllByRecursion (λ x. suc j ≤ to x) rest → filter (ends j) (b ++ rest) ≡ b
  first-ends j s b rest own more =
      filter-append (ends j) b rest
      ∙ ap₂ (λ (ys zs : List X). ys ++ zs)
      (filter-whole (ends j) b (all-by (λ x. (to x ≡ j) × Holds s x) (λ x. ends j x ≡ true) (λ x h. eq-eqb (to x) j h.0) b own))
      (filter-none (ends j) rest (all-by (λ x. suc j ≤ to x) (λ x. ends j x ≡ false) (λ x l. ne_eqb (to x) j (λ same. omega (arith, l, same))) rest more))
      ∙ append-nil b

  later-ends : (j i : ℕ) (s : S) (b rest : List X) → suc j ≤ i → AllByRecursion (λ x. (to x ≡ j) × Holds s x) b → filter (ends i) (b ++ rest) ≡ filter (ends i) rest
  later-ends j i s b rest l own =
      filter-append (ends i) b rest
      ∙ ap (λ (ys : List X). ys ++ filter (ends i) rest) (filter-none (ends i) b (all-by (λ x. (to x ≡ j) × Holds s x) (λ x. ends i x ≡ false) (λ x h. ne_eqb (to x) i (λ same. (let k = h.0 in omega (arith, l, same, k)))) b own))

  -- the block of one of them is what ends at its number
  pub block-at : (j : ℕ) (ss : List S) (xs : List X) (i : ℕ) (s : S) → AreBlocks j ss xs → slice_get ss i ≡ Some s → IsBlock (j + i) s (filter (ends (j + i)) xs)
  block-at j [] xs i s a at = absurd (none-some s at)
  block-at j (z ∷ ss) xs zero s (b, rest, e, own, is, more) at =
      let same : z ≡ s = same_Some z s at in
      let n : j ≡ j + 0 = omega arith in
      let whole : b ≡ filter (ends j) xs = sym (ap (filter (ends j)) e ∙ first-ends j z b rest own (blocks-later (suc j) ss rest more)) in
      subst (λ m. IsBlock m s (filter (ends m) xs)) n (subst (λ y. IsBlock j y (filter (ends j) xs)) same (subst (IsBlock j z) whole is))
  block-at j (z ∷ ss) xs (suc i) s (b, rest, e, own, is, more) at =
      let n : suc j + i ≡ j + suc i = omega arith in
      let whole : filter (ends (suc j + i)) rest ≡ filter (ends (suc j + i)) xs = sym (ap (filter (ends (suc j + i))) e ∙ later-ends j (suc j + i) z b rest (omega arith) own) in
      subst (λ m. IsBlock m s (filter (ends m) xs)) n (subst (IsBlock (suc j + i) s) whole (block-at (suc j) ss rest i s more at))

  -- what holds of all in each block
  pub blocks-each : (P : X → Type 0) (j : ℕ) (ss : List S) (xs : List X) → AreBlocks j ss xs → ((i : ℕ) (s : S) (x : X) → slice_get ss i ≡ Some s → to x ≡ j + i → Holds s x → P x) → AllByRecursion P xs
  blocks-each P j [] xs e f = subst (AllByRecursion P) (sym e) tt
  blocks-each P j (s ∷ ss) xs (b, rest, e, own, is, more) f =
      let z : j ≡ j + 0 = omega arith in
      let first : AllByRecursion P b = all-by (λ x. (to x ≡ j) × Holds s x) P (λ x h. f 0 s x refl (h.0 ∙ z) h.1) b own in
      let later : AllByRecursion P rest = blocks-each P (suc j) ss rest more (λ i t x at ends. f (suc i) t x at (ends ∙ (let y : suc j + i ≡ j + suc i = omega arith in y))) in
      subst (AllByRecursion P) (sym e) (all-append P b rest first later)

  -- ---- what is in one composite

  module _ (within : X → ℕ) (parent : S → Option ℕ) (inside : (s : S) (x : X) → Holds s x → parent s ≡ Some (within x)) (c : ℕ) where
    abbrev in_it : X → Bool
    in_it x = nat_eq (within x) c

    abbrev is_kid : S → Bool
    is_kid s = is_some_of c (parent s)

    -- what ends at later numbers doesn't see the first block
    flat-later : (j : ℕ) (s : S) (b rest : List X) (is : List ℕ) → AllByRecursion (λ x. (to x ≡ j) × Holds s x) b → AllByRecursion (λ i. suc j ≤ i) is → flat_map (λ i. filter (ends i) (b ++ rest)) is ≡ flat_map (λ i. filter (ends i) rest) is
    flat-later j s b rest [] own l = refl
    flat-later j s b rest (i ∷ is) own l = ap₂ (λ (ys zs : List X). ys ++ zs) (later-ends j i s b rest l.0 own) (flat-later j s b rest is own l.1)

    block-in : (j : ℕ) (s : S) (b : List X) → AllByRecursion (λ x. (to x ≡ j) × Holds s x) b → is_kid s ≡ true → filter in_it b ≡ b
    block-in j s b own kid = filter-whole in_it b (all-by (λ x. (to x ≡ j) × Holds s x) (λ x. in_it x ≡ true) (λ x h. eq-eqb (within x) c (same_Some (within x) c (sym (inside s x h.1) ∙ some-of c (parent s) kid))) b own)

    block-out : (j : ℕ) (s : S) (b : List X) → AllByRecursion (λ x. (to x ≡ j) × Holds s x) b → is_kid s ≡ false → filter in_it b ≡ []
    block-out j s b own kid = filter-none in_it b (all-by (λ x. (to x ≡ j) × Holds s x) (λ x. in_it x ≡ false) (λ x h. ne_eqb (within x) c (λ same. (let both : false ≡ true = sym kid ∙ of-some c (within x) (parent s) (inside s x h.1) same in cc))) b own)

    -- it is what ends at its children, one after the other
    pub grouped : (j : ℕ) (ss : List S) (xs : List X) → AreBlocks j ss xs → filter in_it xs ≡ flat_map (λ i. filter (ends i) xs) (numbers_of is_kid j ss)
    grouped j [] xs e = ap (filter in_it) e
    grouped j (s ∷ ss) xs (b, rest, e, own, is, more) =
        ap (filter in_it) e ∙ filter-append in_it b rest
        ∙ chosen (is_kid s) refl (grouped (suc j) ss rest more ∙ sym (flat-later j s b rest (numbers_of is_kid (suc j) ss) own (numbers-later is_kid (suc j) ss)))
        ∙ ap (λ (ys : List X). flat_map (λ i. filter (ends i) ys) (numbers_of is_kid j (s ∷ ss))) (sym e)
      where
        chosen : (k : Bool) → is_kid s ≡ k → filter in_it rest ≡ flat_map (λ i. filter (ends i) (b ++ rest)) (numbers_of is_kid (suc j) ss) → filter in_it b ++ filter in_it rest ≡ flat_map (λ i. filter (ends i) (b ++ rest)) (cond k (j ∷ numbers_of is_kid (suc j) ss) (numbers_of is_kid (suc j) ss))
        chosen true kid after = ap₂ (λ (ys zs : List X). ys ++ zs) (block-in j s b own kid ∙ sym (first-ends j s b rest own (blocks-later (suc j) ss rest more))) after
        chosen false kid after = ap₂ (λ (ys zs : List X). ys ++ zs) (block-out j s b own kid) after
