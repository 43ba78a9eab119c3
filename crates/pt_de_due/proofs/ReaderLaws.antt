-- The child at whose place a channel ends, and what stands at the places of children when one channel changes.
use Rattle.std.proofs.Common.{◌≡◌, ◌⊎◌, inl, inr, ℕ, zero, suc, ◌+◌, ◌-◌, ◌<◌, ◌≤◌, List, [], ◌∷◌, length, get_or, set, take, drop, replicate, refl, sym, subst, ap, ◌∙◌, arith}
use Rattle.std.proofs.lemmas.List.{get_or_append_left, get_or-append_right, get_or-replicate, length-replicate, drop-set-lt, drop-set-add, take-set-le}
use Rattle.std.proofs.lemmas.Bool.{cases_lt}
use Rattle.pt_meaning.specs.Running.{total}
use Rattle.pt_laws.specs.TickRuns.{places_at}
use Rattle.pt_reaction.specs.Offsets.{readers, all_readers}
use Rattle.pt_reaction.proofs.OffsetLaws.{readers-long, total-within}

-- channel c ends at a place of child j
abbrev pub EndsAt : List ℕ → ℕ → ℕ → Type 0
EndsAt ns j c = (total (take j ns) ≤ c) × (c < total (take j ns) + get_or ns j 0)

pub total-upto : (ns : List ℕ) (j k : ℕ) → j < k → k ≤ length ns → total (take j ns) + get_or ns j 0 ≤ total (take k ns)
total-upto ns j zero h l = absurd (omega (arith, h))
total-upto [] j (suc k) h l = absurd (omega (arith, l))
total-upto (n ∷ ns) zero (suc k) h l = omega arith
total-upto (n ∷ ns) (suc j) (suc k) h l = let r = total-upto ns j k (omega (arith, h)) (omega (arith, l)) in omega (arith, r)

-- each channel that ends at a place of a child ends at one of the child that is listed
abbrev Found : ℕ → List ℕ → ℕ → Type 0
Found k ns c = (j : ℕ) × (j < length ns) × EndsAt ns j c × ((d : ℕ) → get_or (readers k ns) c d ≡ k + j)

readers-found : (k : ℕ) (ns : List ℕ) (c : ℕ) → c < total ns → Found k ns c
readers-found k [] c h = absurd (omega (arith, h))
readers-found k (n ∷ ns) c h = by (cases_lt c n) (λ l. readers-found (suc k) ns (c - n) l)
  where
    here : k ≡ k + 0
    here = omega arith

    next : (k j : ℕ) → suc k + j ≡ k + suc j
    next k j = omega arith

    by : (c < n) ⊎ (n ≤ c) → (c - n < total ns → Found (suc k) ns (c - n)) → Found k (n ∷ ns) c
    by (inl l) later =
        (0, omega arith, (omega arith, omega (arith, l)), λ d. get_or_append_left (replicate n k) (readers (suc k) ns) d c (omega (arith, l, length-replicate n k)) ∙ get_or-replicate n c k d l ∙ here)
    by (inr g) later =
        let r = later (omega (arith, h, g)) in
        let low = r.2.0 in
        let high = r.2.1 in
        (suc r.0, omega (arith, r.1), (omega (arith, low, g), omega (arith, high, g)), λ d. get_or-append_right (replicate n k) (readers (suc k) ns) n c d (length-replicate n k) g ∙ r.3 d ∙ next k r.0)

same-at : (n : ℕ) (x i : ℕ) → get_or (replicate n x) i x ≡ x
same-at zero x i = refl
same-at (suc n) x zero = refl
same-at (suc n) x (suc i) = same-at n x i

listed-child : (ns : List ℕ) (m c d : ℕ) → c < total ns → get_or (all_readers ns m) c d ≡ get_or (readers 0 ns) c d
listed-child ns m c d h = get_or_append_left (readers 0 ns) (replicate (m - total ns) (length ns)) d c (omega (arith, h, readers-long 0 ns))

listed-output : (ns : List ℕ) (m c : ℕ) → total ns ≤ c → get_or (all_readers ns m) c (length ns) ≡ length ns
listed-output ns m c h = get_or-append_right (readers 0 ns) (replicate (m - total ns) (length ns)) (total ns) c (length ns) (readers-long 0 ns) h ∙ same-at (m - total ns) (length ns) (c - total ns)

-- a channel ends at a place of the child that reads it
pub read-ends : (ns : List ℕ) (m c j : ℕ) → j < length ns → get_or (all_readers ns m) c (length ns) ≡ j → EndsAt ns j c
read-ends ns m c j h e = by (cases_lt c (total ns))
  where
    none-before : (k : ℕ) → 0 + k ≡ k
    none-before k = omega arith

    by : (c < total ns) ⊎ (total ns ≤ c) → EndsAt ns j c
    by (inl l) =
        let r = readers-found 0 ns c l in
        let same : r.0 ≡ j = sym (none-before r.0) ∙ sym (r.3 (length ns)) ∙ sym (listed-child ns m c (length ns) l) ∙ e in
        subst (λ k. EndsAt ns k c) same r.2
    by (inr g) = let o = listed-output ns m c g in absurd (omega (arith, o, e, h))

-- and only of that child
pub ends-read : (ns : List ℕ) (m c j : ℕ) → j < length ns → EndsAt ns j c → get_or (all_readers ns m) c (length ns) ≡ j
ends-read ns m c j h z =
    let low = z.0 in
    let high = z.1 in
    let w = total-within ns j h in
    let l : c < total ns = omega (arith, high, w) in
    let r = readers-found 0 ns c l in
    let f = r.3 (length ns) in
    let t = listed-child ns m c (length ns) l in
    let same : r.0 ≡ j = by r.0 r.1 r.2.0 r.2.1 (cases_lt r.0 j) (cases_lt j r.0) in
    omega (arith, t, f, same)
  where
    by : (k : ℕ) → k < length ns → total (take k ns) ≤ c → c < total (take k ns) + get_or ns k 0 → (k < j) ⊎ (j ≤ k) → (j < k) ⊎ (k ≤ j) → k ≡ j
    by k a low' high' (inl p) q = let u = total-upto ns k j p (omega (arith, h)) in let low = z.0 in absurd (omega (arith, u, high', low))
    by k a low' high' (inr p) (inl q) = let u = total-upto ns j k q (omega (arith, a)) in let high = z.1 in absurd (omega (arith, u, low', high))
    by k a low' high' (inr p) (inr q) = omega (arith, p, q)

back : (o c : ℕ) → o ≤ c → c ≡ o + (c - o)
back o c h = omega (arith, h)

-- what stands at the places of a child, where a channel changes that ends there
module _ {B : Type 0} where
  take-set-any : (n : ℕ) (X : List B) (i : ℕ) (v : B) → take n (set X i v) ≡ set (take n X) i v
  take-set-any zero X i v = refl
  take-set-any (suc n) [] i v = refl
  take-set-any (suc n) (x ∷ X) zero v = refl
  take-set-any (suc n) (x ∷ X) (suc i) v = ap (λ Y. x ∷ Y) (take-set-any n X i v)

  set-further : (o c : ℕ) (X : List B) (v : B) → o ≤ c → drop o (set X c v) ≡ set (drop o X) (c - o) v
  set-further o c X v h = ap (λ k. drop o (set X k v)) (back o c h) ∙ drop-set-add o X (c - o) v

  pub place-set : (ns : List ℕ) (j c : ℕ) (X : List B) (v : B) → EndsAt ns j c → places_at ns j (set X c v) ≡ set (places_at ns j X) (c - total (take j ns)) v
  place-set ns j c X v z = ap (λ Y. take (get_or ns j 0) Y) (set-further (total (take j ns)) c X v z.0) ∙ take-set-any (get_or ns j 0) (drop (total (take j ns)) X) (c - total (take j ns)) v

  -- and where one changes that doesn't
  pub place-kept : (ns : List ℕ) (j c : ℕ) (X : List B) (v : B) → (EndsAt ns j c → ⊥) → places_at ns j (set X c v) ≡ places_at ns j X
  place-kept ns j c X v z = by (cases_lt c (total (take j ns))) (cases_lt c (total (take j ns) + get_or ns j 0))
    where
      by : (c < total (take j ns)) ⊎ (total (take j ns) ≤ c) → (c < total (take j ns) + get_or ns j 0) ⊎ (total (take j ns) + get_or ns j 0 ≤ c) → places_at ns j (set X c v) ≡ places_at ns j X
      by (inl l) q = ap (λ Y. take (get_or ns j 0) Y) (drop-set-lt (total (take j ns)) X c v l)
      by (inr g) (inl q) = absurd (z (g, q))
      by (inr g) (inr q) =
          ap (λ Y. take (get_or ns j 0) Y) (set-further (total (take j ns)) c X v g) ∙ take-set-le (get_or ns j 0) (drop (total (take j ns)) X) (c - total (take j ns)) v (omega (arith, g, q))
