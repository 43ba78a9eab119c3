-- The ports at which channels end: how often each number stands in such a list, and lists of two parts.
use Rattle.std.proofs.Common.{◌≡◌, ℕ, zero, suc, ◌+◌, ◌≤◌, Bool, true, false, not, cond, ◌&&◌, nat_eq, List, [], ◌∷◌, ◌++◌, Some, length, map, replicate, filter, refl, sym, ap, ap₂, subst, ◌∙◌, arith, length-append}
use Rattle.std.proofs.lemmas.Bool.{eq-eqb, ne_eqb, eqb-true}
use Rattle.std.proofs.lemmas.List.{append-nil, map-append}
use Rattle.std.proofs.lemmas.List.Elements.{filter-append}
use Rattle.std.proofs.lemmas.List.Sums.{length-filter}
use Rattle.std.proofs.lemmas.Option.{none-some, same_Some}
use Rattle.std.specs.List.{AllByRecursion, count_by, slice_get}
use Rattle.pt_order.proofs.Blocks.{filter-same, filter-none, filter-whole, all-by, all-append, numbers_of}

-- ---- numbers that stand so often

-- the numbers of those that pass, each so often, from this number on
abbrev pub spread : {D : Type 0} → (D → Bool) → (ℕ → ℕ) → ℕ → List D → List ℕ
spread test counts n [] = []
spread test counts n (d ∷ ds) = cond (test d) (replicate (counts n) n) [] ++ spread test counts (suc n) ds

replicate-all : (P : ℕ → Type 0) (c n : ℕ) → P n → AllByRecursion P (replicate c n)
replicate-all P zero n p = tt
replicate-all P (suc c) n p = (p, replicate-all P c n p)

replicate-length : (c n : ℕ) → length (replicate c n) ≡ c
replicate-length zero n = refl
replicate-length (suc c) n = ap (λ m. suc m) (replicate-length c n)

block-all : (P : ℕ → Type 0) (b : Bool) (c n : ℕ) → P n → AllByRecursion P (cond b (replicate c n) [])
block-all P true c n p = replicate-all P c n p
block-all P false c n p = tt

spread-later : {D : Type 0} (test : D → Bool) (counts : ℕ → ℕ) (n : ℕ) (ds : List D) → AllByRecursion (λ y. n ≤ y) (spread test counts n ds)
spread-later test counts n [] = tt
spread-later test counts n (d ∷ ds) =
    all-append (λ y. n ≤ y) (cond (test d) (replicate (counts n) n) []) (spread test counts (suc n) ds) (block-all (λ y. n ≤ y) (test d) (counts n) n (omega arith))
    (all-by (λ y. suc n ≤ y) (λ y. n ≤ y) (λ y l. omega (arith, l)) (spread test counts (suc n) ds) (spread-later test counts (suc n) ds))

-- where each stands once
pub spread-once : {D : Type 0} (test : D → Bool) (counts : ℕ → ℕ) (n : ℕ) (ds : List D) → ((m : ℕ) (d : D) → slice_get ds m ≡ Some d → test d ≡ true → counts (n + m) ≡ 1) → spread test counts n ds ≡ numbers_of test n ds
spread-once test counts n [] h = refl
spread-once test counts n (d ∷ ds) h =
    chosen (test d) refl (spread-once test counts (suc n) ds (λ m e at t. (let z : suc n + m ≡ n + suc m = omega arith in ap counts z ∙ h (suc m) e at t)))
  where
    chosen : (b : Bool) → test d ≡ b → spread test counts (suc n) ds ≡ numbers_of test (suc n) ds → cond b (replicate (counts n) n) [] ++ spread test counts (suc n) ds ≡ cond b (n ∷ numbers_of test (suc n) ds) (numbers_of test (suc n) ds)
    chosen true t rest = ap (λ c. replicate c n ++ spread test counts (suc n) ds) (ap counts (let z : n ≡ n + 0 = omega arith in z) ∙ h 0 d refl t) ∙ ap (λ ys. n ∷ ys) rest
    chosen false t rest = rest

-- where each stands as often
pub spread-same : {D : Type 0} (test : D → Bool) (f g : ℕ → ℕ) (n : ℕ) (ds : List D) → ((m : ℕ) (d : D) → slice_get ds m ≡ Some d → test d ≡ true → f (n + m) ≡ g (n + m)) → spread test f n ds ≡ spread test g n ds
spread-same test f g n [] h = refl
spread-same test f g n (d ∷ ds) h =
    chosen (test d) refl (spread-same test f g (suc n) ds (λ m e at t. (let z : suc n + m ≡ n + suc m = omega arith in ap f z ∙ h (suc m) e at t ∙ ap g (sym z))))
  where
    chosen : (b : Bool) → test d ≡ b → spread test f (suc n) ds ≡ spread test g (suc n) ds → cond b (replicate (f n) n) [] ++ spread test f (suc n) ds ≡ cond b (replicate (g n) n) [] ++ spread test g (suc n) ds
    chosen true t rest = (let z : n ≡ n + 0 = omega arith in ap₂ (λ c ys. replicate c n ++ ys) (ap f z ∙ h 0 d refl t ∙ ap g (sym z)) rest)
    chosen false t rest = rest

-- how often a number stands there
abbrev pub times : ℕ → List ℕ → ℕ
times i ys = length (filter (λ y. nat_eq y i) ys)

times-append : (i : ℕ) (xs ys : List ℕ) → times i (xs ++ ys) ≡ times i xs + times i ys
times-append i xs ys = ap length (filter-append (λ y. nat_eq y i) xs ys) ∙ length-append (filter (λ y. nat_eq y i) xs) (filter (λ y. nat_eq y i) ys)

times-here : (b : Bool) (c n : ℕ) → times n (cond b (replicate c n) []) ≡ cond b c 0
times-here true c n = ap length (filter-whole (λ y. nat_eq y n) (replicate c n) (replicate-all (λ y. nat_eq y n ≡ true) c n (eq-eqb n n refl))) ∙ replicate-length c n
times-here false c n = refl

times-none : (i : ℕ) (ys : List ℕ) → AllByRecursion (λ y. y ≡ i → ⊥) ys → times i ys ≡ 0
times-none i ys a = ap length (filter-none (λ y. nat_eq y i) ys (all-by (λ y. y ≡ i → ⊥) (λ y. nat_eq y i ≡ false) (λ y h. ne_eqb y i h) ys a))

pub spread-times : {D : Type 0} (test : D → Bool) (counts : ℕ → ℕ) (n : ℕ) (ds : List D) (m : ℕ) (d : D) → slice_get ds m ≡ Some d → times (n + m) (spread test counts n ds) ≡ cond (test d) (counts (n + m)) 0
spread-times test counts n [] m d at = absurd (none-some d at)
spread-times {D = D} test counts n (e ∷ ds) zero d at =
    let z : n ≡ n + 0 = omega arith in
    let later = times-none n (spread test counts (suc n) ds) (all-by (λ y. suc n ≤ y) (λ y. y ≡ n → ⊥) (λ y l same. omega (arith, l, same)) (spread test counts (suc n) ds) (spread-later test counts (suc n) ds)) in
    let here = times-append n (cond (test e) (replicate (counts n) n) []) (spread test counts (suc n) ds) in
    let first = times-here (test e) (counts n) n in
    let whole : times n (spread test counts n (e ∷ ds)) ≡ cond (test e) (counts n) 0 = omega (arith, later, here, first) in
    subst (λ k. times k (spread test counts n (e ∷ ds)) ≡ cond (test d) (counts k) 0) z (whole ∙ ap (λ (y : D). cond (test y) (counts n) 0) (same_Some e d at))
spread-times test counts n (e ∷ ds) (suc m) d at =
    let z : suc n + m ≡ n + suc m = omega arith in
    let first = times-none (suc n + m) (cond (test e) (replicate (counts n) n) []) (block-all (λ y. y ≡ suc n + m → ⊥) (test e) (counts n) n (λ same. omega (arith, same))) in
    let both = times-append (suc n + m) (cond (test e) (replicate (counts n) n) []) (spread test counts (suc n) ds) in
    let rest = spread-times test counts (suc n) ds m d at in
    let whole : times (suc n + m) (spread test counts n (e ∷ ds)) ≡ cond (test d) (counts (suc n + m)) 0 = omega (arith, first, both, rest) in
    subst (λ k. times k (spread test counts n (e ∷ ds)) ≡ cond (test d) (counts k) 0) z whole

-- ---- what ends at a port

filter-both : {X : Type 0} (p q : X → Bool) (xs : List X) → filter (λ x. p x && q x) xs ≡ filter q (filter p xs)
filter-both p q [] = refl
filter-both {X = X} p q (x ∷ xs) = chosen (p x) (filter-both p q xs)
  where
    chosen : (b : Bool) → filter (λ y. p y && q y) xs ≡ filter q (filter p xs) → cond (b && q x) (x ∷ filter (λ y. p y && q y) xs) (filter (λ y. p y && q y) xs) ≡ filter q (cond b (x ∷ filter p xs) (filter p xs))
    chosen true rest = ap (λ (ys : List X). cond (q x) (x ∷ ys) ys) rest
    chosen false rest = rest

mapped-length : {X : Type 0} (port : X → ℕ) (i : ℕ) (xs : List X) → length (filter (λ x. nat_eq (port x) i) xs) ≡ times i (map port xs)
mapped-length port i [] = refl
mapped-length port i (x ∷ xs) = chosen (nat_eq (port x) i) (mapped-length port i xs)
  where
    chosen : (b : Bool) → length (filter (λ y. nat_eq (port y) i) xs) ≡ times i (map port xs) → length (cond b (x ∷ filter (λ y. nat_eq (port y) i) xs) (filter (λ y. nat_eq (port y) i) xs)) ≡ length (cond b (port x ∷ filter (λ y. nat_eq y i) (map port xs)) (filter (λ y. nat_eq y i) (map port xs)))
    chosen true rest = ap (λ m. suc m) rest
    chosen false rest = rest

module _ {X : Type 0} (to within port : X → ℕ) (ins outs : List X) (apart : AllByRecursion (λ x. within x ≡ to x → ⊥) ins) (own : AllByRecursion (λ x. within x ≡ to x) outs) where
  abbrev ends : ℕ → X → Bool
  ends i x = nat_eq (to x) i

  -- what comes to it and doesn't end within it is of the first part
  pub comes : (i : ℕ) → filter (λ x. nat_eq (to x) i && not (nat_eq (within x) i)) (ins ++ outs) ≡ filter (ends i) ins
  comes i =
      filter-append (λ x. nat_eq (to x) i && not (nat_eq (within x) i)) ins outs
      ∙ ap₂ (λ (ys zs : List X). ys ++ zs)
      (filter-same (λ x. nat_eq (to x) i && not (nat_eq (within x) i)) (ends i) ins (all-by (λ x. within x ≡ to x → ⊥) (λ x. (nat_eq (to x) i && not (nat_eq (within x) i)) ≡ ends i x) (λ x h. seen (to x) (within x) (nat_eq (to x) i) refl h) ins apart))
      (filter-none (λ x. nat_eq (to x) i && not (nat_eq (within x) i)) outs (all-by (λ x. within x ≡ to x) (λ x. (nat_eq (to x) i && not (nat_eq (within x) i)) ≡ false) (λ x h. unseen (to x) (within x) (nat_eq (to x) i) refl h) outs own))
      ∙ append-nil (filter (ends i) ins)
    where
      seen : (a w : ℕ) (b : Bool) → nat_eq a i ≡ b → (w ≡ a → ⊥) → (b && not (nat_eq w i)) ≡ b
      seen a w true e h = ap not (ne_eqb w i (λ same. h (same ∙ sym (eqb-true a i e))))
      seen a w false e h = refl

      unseen : (a w : ℕ) (b : Bool) → nat_eq a i ≡ b → w ≡ a → (b && not (nat_eq w i)) ≡ false
      unseen a w true e h = ap not (eq-eqb w i (h ∙ eqb-true a i e))
      unseen a w false e h = refl

  -- what ends within it is of the second
  pub goes : (c : ℕ) → filter (λ x. nat_eq (to x) c && nat_eq (within x) c) (ins ++ outs) ≡ filter (ends c) outs
  goes c =
      filter-append (λ x. nat_eq (to x) c && nat_eq (within x) c) ins outs
      ∙ ap₂ (λ (ys zs : List X). ys ++ zs)
      (filter-none (λ x. nat_eq (to x) c && nat_eq (within x) c) ins (all-by (λ x. within x ≡ to x → ⊥) (λ x. (nat_eq (to x) c && nat_eq (within x) c) ≡ false) (λ x h. unseen (to x) (within x) (nat_eq (to x) c) refl h) ins apart))
      (filter-same (λ x. nat_eq (to x) c && nat_eq (within x) c) (ends c) outs (all-by (λ x. within x ≡ to x) (λ x. (nat_eq (to x) c && nat_eq (within x) c) ≡ ends c x) (λ x h. seen (to x) (within x) (nat_eq (to x) c) refl h) outs own))
    where
      seen : (a w : ℕ) (b : Bool) → nat_eq a c ≡ b → w ≡ a → (b && nat_eq w c) ≡ b
      seen a w true e h = eq-eqb w c (h ∙ eqb-true a c e)
      seen a w false e h = refl

      unseen : (a w : ℕ) (b : Bool) → nat_eq a c ≡ b → (w ≡ a → ⊥) → (b && nat_eq w c) ≡ false
      unseen a w true e h = ne_eqb w c (λ same. h (same ∙ sym (eqb-true a c e)))
      unseen a w false e h = refl

  pub in-both : (c : ℕ) → filter (λ x. nat_eq (within x) c) (ins ++ outs) ≡ filter (λ x. nat_eq (within x) c) ins ++ filter (ends c) outs
  in-both c =
      filter-append (λ x. nat_eq (within x) c) ins outs
      ∙ ap (λ (zs : List X). filter (λ x. nat_eq (within x) c) ins ++ zs) (filter-same (λ x. nat_eq (within x) c) (ends c) outs (all-by (λ x. within x ≡ to x) (λ x. nat_eq (within x) c ≡ ends c x) (λ x h. ap (λ n. nat_eq n c) h) outs own))

  -- how much ends at a port
  pub counted : (k i : ℕ) → count_by (λ x. nat_eq (to x) k && nat_eq (port x) i) (ins ++ outs) ≡ times i (map port (filter (ends k) ins)) + times i (map port (filter (ends k) outs))
  counted k i =
      sym (length-filter (λ x. nat_eq (to x) k && nat_eq (port x) i) (ins ++ outs))
      ∙ ap length (filter-both (ends k) (λ x. nat_eq (port x) i) (ins ++ outs))
      ∙ mapped-length port i (filter (ends k) (ins ++ outs))
      ∙ ap (λ (ys : List X). times i (map port ys)) (filter-append (ends k) ins outs)
      ∙ ap (times i) (map-append port (filter (ends k) ins) (filter (ends k) outs))
      ∙ times-append i (map port (filter (ends k) ins)) (map port (filter (ends k) outs))
