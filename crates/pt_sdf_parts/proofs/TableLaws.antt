-- Lists that are made number by number.
use Rattle.std.proofs.Common.{◌≡◌, ℕ, zero, suc, ◌+◌, ◌<◌, List, [], ◌∷◌, ◌++◌, Bool, true, false, ◌&&◌, length, get_or, take, nat_eq, refl, ap, sym, ◌∙◌, arith, add-one, add-zero, eqb-true, eq-eqb}
use Rattle.std.proofs.lemmas.Bool.Decides.{nat_tests}
use Rattle.pt_meaning.specs.Streams.{Streams, at}
use Rattle.pt_meaning.specs.Rounds.{has_rates}
use Rattle.pt_meaning.specs.Running.{total}
use Rattle.pt_sdf_parts.specs.ByNeed.{place_of}
use Rattle.pt_sdf_parts.specs.Lanes.{begins}

begins-next : (o : ℕ) (ps : List ℕ) (k : ℕ) → k < length ps → begins o (take (suc k) ps) ≡ begins o (take k ps) ++ (o + total (take k ps)) ∷ []
begins-next o [] k h = absurd (omega arith)
begins-next o (p ∷ ps) zero h = ap (λ v. v ∷ []) (sym (add-zero o))
begins-next o (p ∷ ps) (suc k) h = ap (λ v. o ∷ v) (begins-next (o + p) ps k (omega arith) ∙ ap (λ v. begins (o + p) (take k ps) ++ v ∷ []) (further o p (total (take k ps))))
  where
    further : (o p t : ℕ) → o + p + t ≡ o + (p + t)
    further o p t = omega arith

total-next : (ps : List ℕ) (k : ℕ) → k < length ps → total (take (suc k) ps) ≡ total (take k ps) + get_or ps k 0
total-next [] k h = absurd (omega arith)
total-next (p ∷ ps) zero h = omega arith
total-next (p ∷ ps) (suc k) h = let t = total-next ps k (omega arith) in omega (arith, t)

pub begins-more : (ps : List ℕ) (k : ℕ) → k < length ps → begins 0 (take k ps) ++ total (take k ps) ∷ [] ≡ begins 0 (take (k + 1) ps)
begins-more ps k h = ap (λ v. begins 0 (take k ps) ++ v ∷ []) (none (total (take k ps))) ∙ sym (begins-next 0 ps k h) ∙ ap (λ j. begins 0 (take j ps)) (sym (add-one k))
  where
    none : (n : ℕ) → n ≡ 0 + n
    none n = omega arith

pub total-more : (ps : List ℕ) (k : ℕ) → k < length ps → total (take k ps) + get_or ps k 0 ≡ total (take (k + 1) ps)
total-more ps k h = sym (total-next ps k h) ∙ ap (λ j. total (take j ps)) (sym (add-one k))

-- rates, port by port
pub rates-fit : {T : Type 0} (rs : List ℕ) (out : Streams T) → length rs ≡ length out → ((k : ℕ) → k < length rs → length (at out k) ≡ get_or rs k 0) → has_rates rs out ≡ true
rates-fit [] [] e h = refl
rates-fit [] (x ∷ out) e h = absurd (omega arith)
rates-fit (r ∷ rs) [] e h = absurd (omega arith)
rates-fit (r ∷ rs) (x ∷ out) e h = rw (eq-eqb r (length x) (sym (h 0 (omega arith))), rates-fit rs out (omega arith) (λ k l. h (suc k) (omega arith))) refl

either-false : (a b : Bool) → b ≡ false → (a && b) ≡ false
either-false true b e = e
either-false false b e = refl

not-equal : (m n : ℕ) → (n ≡ m → ⊥) → nat_eq m n ≡ false
not-equal m n h = whether (nat_eq m n) refl
  where
    whether : (b : Bool) → nat_eq m n ≡ b → nat_eq m n ≡ false
    whether false e = e
    whether true e = absurd (h (sym (eqb-true m n e)))

pub rates-differ : {T : Type 0} (rs : List ℕ) (out : Streams T) (k : ℕ) → k < length rs → k < length out → (length (at out k) ≡ get_or rs k 0 → ⊥) → has_rates rs out ≡ false
rates-differ [] out k h l n = absurd (omega arith)
rates-differ (r ∷ rs) [] k h l n = absurd (omega arith)
rates-differ (r ∷ rs) (x ∷ out) zero h l n = ap (λ b. b && has_rates rs out) (not-equal r (length x) n)
rates-differ (r ∷ rs) (x ∷ out) (suc k) h l n = either-false (nat_eq r (length x)) (has_rates rs out) (rates-differ rs out k (omega arith) (omega arith) n)

pub rates-short : {T : Type 0} (rs : List ℕ) (out : Streams T) → (length rs ≡ length out → ⊥) → has_rates rs out ≡ false
rates-short [] [] n = absurd (n refl)
rates-short [] (x ∷ out) n = refl
rates-short (r ∷ rs) [] n = refl
rates-short (r ∷ rs) (x ∷ out) n = either-false (nat_eq r (length x)) (has_rates rs out) (rates-short rs out (λ e. n (ap (λ k. suc k) e)))

-- rates that aren't those of one port don't fit one list
pub one-list-lacks : {T : Type 0} (ns : List ℕ) (xs : List T) → (length ns ≡ 1 → ⊥) → nat_eq (length ns) 1 ≡ has_rates ns (xs ∷ [])
one-list-lacks [] xs e = refl
one-list-lacks (n ∷ []) xs e = absurd (e refl)
one-list-lacks (n ∷ (m ∷ ns)) xs e = let long : nat_eq (length (n ∷ (m ∷ ns))) 1 ≡ false = grind (arith, nat_tests, e) in long ∙ nothing (nat_eq n (length xs))
  where
    nothing : (b : Bool) → false ≡ (b && false)
    nothing true = refl
    nothing false = refl

-- rates that aren't those of one port don't fit one token
pub one-lacks : {T : Type 0} (ns : List ℕ) (t : T) → (length ns ≡ 1 → ⊥) → nat_eq (length ns) 1 ≡ has_rates ns ((t ∷ []) ∷ [])
one-lacks [] t e = refl
one-lacks (n ∷ []) t e = absurd (e refl)
one-lacks (n ∷ (m ∷ ns)) t e = let long : nat_eq (length (n ∷ (m ∷ ns))) 1 ≡ false = grind (arith, nat_tests, e) in long ∙ nothing (nat_eq n 1)
  where
    nothing : (b : Bool) → false ≡ (b && false)
    nothing true = refl
    nothing false = refl

-- where the places of a child begin
pub begins-at : (o : ℕ) (ps : List ℕ) (i : ℕ) → i < length ps → get_or (begins o ps) i 0 ≡ o + place_of ps i
begins-at o [] i h = absurd (omega arith)
begins-at o (p ∷ ps) zero h = omega arith
begins-at o (p ∷ ps) (suc i) h = let k = begins-at (o + p) ps i (omega arith) in omega (arith, k)

pub begins-long : (o : ℕ) (ps : List ℕ) → length (begins o ps) ≡ length ps
begins-long o [] = refl
begins-long o (p ∷ ps) = ap (λ k. suc k) (begins-long (o + p) ps)
