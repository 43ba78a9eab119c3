-- Where the places of children begin, as they are counted one after another.
use Rattle.std.proofs.Common.{◌≡◌, ℕ, zero, suc, ◌+◌, ◌<◌, ◌≤◌, List, [], ◌∷◌, ◌++◌, length, take, get_or, Bool, true, false, nat_eq, refl, sym, ap, subst, ◌∙◌, arith, eqb-true}
use Rattle.std.proofs.lemmas.Bool.{eqb-false}
use Rattle.std.proofs.lemmas.List.{length-append, get_or_append_left, take_all}
use Rattle.pt_meaning.specs.Running.{total}
use Rattle.pt_block_laws.specs.Iteration.{first_place}
use Rattle.pt_block_work.specs.Work.{AreOffsets}

-- so it is of the first k children, and the next one begins there
pub record OffsetsTo (places : List ℕ) (k : ℕ) (offsets : List ℕ) (next : ℕ) : Type 0 where
  pub count : length offsets ≡ k
  pub begins : next ≡ total (take k places)
  pub each : (i : ℕ) → i < k → get_or offsets i 0 ≡ first_place places i

total-more : (places : List ℕ) (k : ℕ) → k < length places → total (take k places) + get_or places k 0 ≡ total (take (suc k) places)
total-more [] k l = absurd (omega (arith, l))
total-more (n ∷ ns) zero l = omega arith
total-more (n ∷ ns) (suc k) l = let h = total-more ns k (omega (arith, l)) in omega (arith, h)

at-end : (xs : List ℕ) (x : ℕ) → get_or (xs ++ x ∷ []) (length xs) 0 ≡ x
at-end [] x = refl
at-end (y ∷ xs) x = at-end xs x

apart-less : (i k : ℕ) → i ≤ k → (i ≡ k → ⊥) → i < k
apart-less zero zero m d = absurd (d refl)
apart-less zero (suc k) m d = omega arith
apart-less (suc i) zero m d = absurd (omega (arith, m))
apart-less (suc i) (suc k) m d = let h = apart-less i k (omega (arith, m)) (λ e. d (ap (λ n. suc n) e)) in omega (arith, h)

pub offsets-begin : (places offsets : List ℕ) (next : ℕ) → offsets ≡ [] → next ≡ 0 → OffsetsTo places 0 offsets next
offsets-begin places offsets next e z = record { count = ap (λ v. length v) e; begins = z; each = λ i l. absurd (omega (arith, l)) }

-- one more
pub offsets-more : (places offsets all : List ℕ) (k next after : ℕ) → OffsetsTo places k offsets next → k < length places → all ≡ offsets ++ next ∷ [] → after ≡ next + get_or places k 0 → OffsetsTo places (k + 1) all after
offsets-more places offsets all k next after h l e a =
    let one : suc k ≡ k + 1 = omega arith in
    let long : length (offsets ++ next ∷ []) ≡ length offsets + 1 = length-append offsets (next ∷ []) in
    let known : OffsetsTo places (suc k) (offsets ++ next ∷ []) after = record {
      count = (let c = h.count in omega (arith, long, c));
      begins = (let t = total-more places k l in let b = h.begins in omega (arith, t, b, a));
      each = λ i m. each i m;
    } in
    subst (λ n. OffsetsTo places n all after) one (subst (λ v. OffsetsTo places (suc k) v after) (sym e) known)
  where
    last : (i : ℕ) → i ≡ k → get_or (offsets ++ next ∷ []) i 0 ≡ first_place places i
    last i same = ap (λ n. get_or (offsets ++ next ∷ []) n 0) (same ∙ sym h.count) ∙ at-end offsets next ∙ h.begins ∙ ap (λ n. first_place places n) (sym same)

    each : (i : ℕ) → i < suc k → get_or (offsets ++ next ∷ []) i 0 ≡ first_place places i
    each i m = by-number (nat_eq i k) refl
      where
        by-number : (b : Bool) → nat_eq i k ≡ b → get_or (offsets ++ next ∷ []) i 0 ≡ first_place places i
        by-number true e = last i (eqb-true i k e)
        by-number false e = let few = apart-less i k (omega (arith, m)) (eqb-false i k e) in get_or_append_left offsets (next ∷ []) 0 i (let c = h.count in omega (arith, few, c)) ∙ h.each i few

pub offsets-all : (places offsets : List ℕ) (k next : ℕ) → OffsetsTo places k offsets next → length places ≤ k → k ≤ length places → (next ≡ total places) × AreOffsets places offsets
offsets-all places offsets k next h l m =
    let whole : k ≡ length places = omega (arith, l, m) in
    let all : take (length places) places ≡ places = take_all (length places) places (omega arith) in
    (h.begins ∙ ap (λ n. total (take n places)) whole ∙ ap (λ v. total v) all, record { count = h.count ∙ whole; each = λ i few. h.each i (omega (arith, few, whole)) })
