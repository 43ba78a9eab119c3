-- Where the places of each child begin.
use Rattle.std.proofs.Common.{◌≡◌, ℕ, zero, suc, ◌+◌, ◌<◌, ◌≤◌, List, [], ◌∷◌, ◌++◌, length, get_or, take, replicate, refl, ap, ap₂, sym, ◌∙◌, arith, add-one, append_assoc, append-nil, zero-add, length-append}
use Rattle.std.proofs.lemmas.List.{length-replicate}
use Rattle.pt_meaning.specs.Running.{total}
use Rattle.pt_reaction.specs.Offsets.{begins, readers}

pub begins-long : (o : ℕ) (ps : List ℕ) → length (begins o ps) ≡ suc (length ps)
begins-long o [] = refl
begins-long o (p ∷ ps) = ap (λ n. suc n) (begins-long (o + p) ps)

further : (o p t : ℕ) → o + p + t ≡ o + (p + t)
further o p t = omega arith

pub begins-at : (o : ℕ) (ps : List ℕ) (i : ℕ) → i ≤ length ps → get_or (begins o ps) i 0 ≡ o + total (take i ps)
begins-at o [] zero h = omega arith
begins-at o [] (suc i) h = absurd (omega (arith, h))
begins-at o (p ∷ ps) zero h = omega arith
begins-at o (p ∷ ps) (suc i) h = begins-at (o + p) ps i (omega (arith, h)) ∙ further o p (total (take i ps))

total-next : (ps : List ℕ) (k : ℕ) → k < length ps → total (take (suc k) ps) ≡ total (take k ps) + get_or ps k 0
total-next [] k h = absurd (omega (arith, h))
total-next (p ∷ ps) zero h = omega arith
total-next (p ∷ ps) (suc k) h = let t = total-next ps k (omega (arith, h)) in omega (arith, t)

pub total-more : (ps : List ℕ) (k : ℕ) → k < length ps → total (take k ps) + get_or ps k 0 ≡ total (take (k + 1) ps)
total-more ps k h = sym (total-next ps k h) ∙ ap (λ j. total (take j ps)) (sym (add-one k))

begins-next : (o : ℕ) (ps : List ℕ) (k : ℕ) → k < length ps → begins o (take k ps) ++ (o + total (take (suc k) ps)) ∷ [] ≡ begins o (take (suc k) ps)
begins-next o [] k h = absurd (omega (arith, h))
begins-next o (p ∷ ps) zero h = ap (λ n. o ∷ n ∷ []) (alone o p)
  where
    alone : (o p : ℕ) → o + (p + 0) ≡ o + p
    alone o p = omega arith
begins-next o (p ∷ ps) (suc k) h = ap (λ v. o ∷ v) (ap (λ n. begins (o + p) (take k ps) ++ n ∷ []) (sym (further o p (total (take (suc k) ps)))) ∙ begins-next (o + p) ps k (omega (arith, h)))

-- one child more
pub begins-more : (ps : List ℕ) (k : ℕ) (before : List ℕ) (from n : ℕ) → k < length ps → before ++ from ∷ [] ≡ begins 0 (take k ps) → from ≡ total (take k ps) → n ≡ get_or ps k 0 → (before ++ from ∷ []) ++ (from + n) ∷ [] ≡ begins 0 (take (k + 1) ps)
begins-more ps k before from n h e f g =
    ap (λ v. v ++ (from + n) ∷ []) e ∙ ap (λ m. begins 0 (take k ps) ++ m ∷ []) (sum (total-next ps k h)) ∙ begins-next 0 ps k h ∙ ap (λ j. begins 0 (take j ps)) (sym (add-one k))
  where
    sum : total (take (suc k) ps) ≡ total (take k ps) + get_or ps k 0 → from + n ≡ 0 + total (take (suc k) ps)
    sum t = omega (arith, f, g, t)

pub total-within : (ps : List ℕ) (i : ℕ) → i < length ps → total (take i ps) + get_or ps i 0 ≤ total ps
total-within [] i h = absurd (omega (arith, h))
total-within (p ∷ ps) zero h = omega arith
total-within (p ∷ ps) (suc i) h = let t = total-within ps i (omega (arith, h)) in omega (arith, t)

pub total-all : (ps : List ℕ) → total (take (length ps) ps) ≡ total ps
total-all [] = refl
total-all (p ∷ ps) = ap (λ n. p + n) (total-all ps)

-- one child more reads
readers-next : (j : ℕ) (ps : List ℕ) (k : ℕ) → k < length ps → readers j (take k ps) ++ replicate (get_or ps k 0) (j + k) ≡ readers j (take (suc k) ps)
readers-next j [] k h = absurd (omega (arith, h))
readers-next j (p ∷ ps) zero h = ap (λ m. replicate p m) (omega arith) ∙ sym (append-nil (replicate p j))
readers-next j (p ∷ ps) (suc k) h =
    append_assoc (replicate p j) (readers (suc j) (take k ps)) (replicate (get_or ps k 0) (j + suc k)) ∙ ap (λ m. replicate p j ++ (readers (suc j) (take k ps) ++ replicate (get_or ps k 0) m)) (further-on j k) ∙
    ap (λ v. replicate p j ++ v) (readers-next (suc j) ps k (omega (arith, h)))
  where
    further-on : (j k : ℕ) → j + suc k ≡ suc j + k
    further-on j k = omega arith

pub readers-more : (ps before after : List ℕ) (k n : ℕ) → k < length ps → before ≡ readers 0 (take k ps) → n ≡ get_or ps k 0 → after ≡ before ++ replicate n k → after ≡ readers 0 (take (k + 1) ps)
readers-more ps before after k n h e f g = g ∙ ap₂ (λ x m. x ++ replicate m k) e f ∙ ap (λ m. readers 0 (take k ps) ++ replicate (get_or ps k 0) m) (sym (zero-add k)) ∙ readers-next 0 ps k h ∙ ap (λ j. readers 0 (take j ps)) (sym (add-one k))

pub readers-long : (j : ℕ) (ps : List ℕ) → length (readers j ps) ≡ total ps
readers-long j [] = refl
readers-long j (p ∷ ps) = let a = length-append (replicate p j) (readers (suc j) ps) in let b = length-replicate p j in let r = readers-long (suc j) ps in omega (arith, a, b, r)
