-- Where the places of each child begin.
use Rattle.std.proofs.Common.{◌≡◌, ℕ, zero, suc, ◌+◌, ◌<◌, ◌≤◌, List, [], ◌∷◌, ◌++◌, length, get_or, set, take, drop, refl, ap, sym, ◌∙◌, arith, add-one}
use Rattle.pt_meaning.specs.Running.{total}
use Rattle.pt_sr.specs.State.{unheard}
use Rattle.pt_sr.specs.Tick.{begins}

pub begins-long : (o : ℕ) (ps : List ℕ) → length (begins o ps) ≡ suc (length ps)
begins-long o [] = refl
begins-long o (p ∷ ps) = ap (λ n. suc n) (begins-long (o + p) ps)

further : (o p t : ℕ) → o + p + t ≡ o + (p + t)
further o p t = omega arith

pub begins-at : (o : ℕ) (ps : List ℕ) (i : ℕ) → i ≤ length ps → get_or (begins o ps) i 0 ≡ o + total (take i ps)
begins-at o [] zero h = omega arith
begins-at o [] (suc i) h = absurd (omega (arith, h))
begins-at o (p ∷ ps) zero h = omega arith
begins-at o (p ∷ ps) (suc i) h = begins-at (o + p) ps i (omega (arith, h)) ∙ further o p (total (take i ps))

total-next : (ps : List ℕ) (k : ℕ) → k < length ps → total (take (suc k) ps) ≡ total (take k ps) + get_or ps k 0
total-next [] k h = absurd (omega (arith, h))
total-next (p ∷ ps) zero h = omega arith
total-next (p ∷ ps) (suc k) h = let t = total-next ps k (omega (arith, h)) in omega (arith, t)

pub total-more : (ps : List ℕ) (k : ℕ) → k < length ps → total (take k ps) + get_or ps k 0 ≡ total (take (k + 1) ps)
total-more ps k h = sym (total-next ps k h) ∙ ap (λ j. total (take j ps)) (sym (add-one k))

begins-next : (o : ℕ) (ps : List ℕ) (k : ℕ) → k < length ps → begins o (take k ps) ++ (o + total (take (suc k) ps)) ∷ [] ≡ begins o (take (suc k) ps)
begins-next o [] k h = absurd (omega (arith, h))
begins-next o (p ∷ ps) zero h = ap (λ n. o ∷ n ∷ []) (alone o p)
  where
    alone : (o p : ℕ) → o + (p + 0) ≡ o + p
    alone o p = omega arith
begins-next o (p ∷ ps) (suc k) h = ap (λ v. o ∷ v) (ap (λ n. begins (o + p) (take k ps) ++ n ∷ []) (sym (further o p (total (take (suc k) ps)))) ∙ begins-next (o + p) ps k (omega (arith, h)))

-- one child more
pub begins-more : (ps : List ℕ) (k : ℕ) (before : List ℕ) (from n : ℕ) → k < length ps → before ++ from ∷ [] ≡ begins 0 (take k ps) → from ≡ total (take k ps) → n ≡ get_or ps k 0 → (before ++ from ∷ []) ++ (from + n) ∷ [] ≡ begins 0 (take (k + 1) ps)
begins-more ps k before from n h e f g =
    ap (λ v. v ++ (from + n) ∷ []) e ∙ ap (λ m. begins 0 (take k ps) ++ m ∷ []) (sum (total-next ps k h)) ∙ begins-next 0 ps k h ∙ ap (λ j. begins 0 (take j ps)) (sym (add-one k))
  where
    sum : total (take (suc k) ps) ≡ total (take k ps) + get_or ps k 0 → from + n ≡ 0 + total (take (suc k) ps)
    sum t = omega (arith, f, g, t)

pub total-within : (ps : List ℕ) (i : ℕ) → i < length ps → total (take i ps) + get_or ps i 0 ≤ total ps
total-within [] i h = absurd (omega (arith, h))
total-within (p ∷ ps) zero h = omega arith
total-within (p ∷ ps) (suc i) h = let t = total-within ps i (omega (arith, h)) in omega (arith, t)

pub total-all : (ps : List ℕ) → total (take (length ps) ps) ≡ total ps
total-all [] = refl
total-all (p ∷ ps) = ap (λ n. p + n) (total-all ps)

-- one number more than each has places, child by child
pub unheard-more : (ps hs now : List ℕ) (k n : ℕ) → k < length ps → length hs ≡ length ps → now ≡ unheard (take k ps) ++ drop k hs → n ≡ suc (get_or ps k 0) → set now k n ≡ unheard (take (k + 1) ps) ++ drop (k + 1) hs
unheard-more ps hs now k n h e f g = ap (λ v. set v k n) f ∙ ap (λ m. set (unheard (take k ps) ++ drop k hs) k m) g ∙ front ps hs k h e ∙ ap (λ j. unheard (take j ps) ++ drop j hs) (sym (add-one k))
  where
    front : (ps hs : List ℕ) (k : ℕ) → k < length ps → length hs ≡ length ps → set (unheard (take k ps) ++ drop k hs) k (suc (get_or ps k 0)) ≡ unheard (take (suc k) ps) ++ drop (suc k) hs
    front [] hs k h e = absurd (omega (arith, h))
    front (p ∷ ps) [] k h e = absurd (omega (arith, e))
    front (p ∷ ps) (x ∷ hs) zero h e = refl
    front (p ∷ ps) (x ∷ hs) (suc k) h e = ap (λ v. suc p ∷ v) (front ps hs k (omega (arith, h)) (omega (arith, e)))

pub unheard-all : (ps hs now : List ℕ) (k : ℕ) → length ps ≤ k → length hs ≡ length ps → now ≡ unheard (take k ps) ++ drop k hs → now ≡ unheard ps
unheard-all ps hs now k h e f = f ∙ all ps hs k h e
  where
    all : (ps hs : List ℕ) (k : ℕ) → length ps ≤ k → length hs ≡ length ps → unheard (take k ps) ++ drop k hs ≡ unheard ps
    all [] [] zero h e = refl
    all [] [] (suc k) h e = refl
    all [] (x ∷ hs) k h e = absurd (omega (arith, e))
    all (p ∷ ps) [] k h e = absurd (omega (arith, e))
    all (p ∷ ps) (x ∷ hs) zero h e = absurd (omega (arith, h))
    all (p ∷ ps) (x ∷ hs) (suc k) h e = ap (λ v. suc p ∷ v) (all ps hs k (omega (arith, h)) (omega (arith, e)))

pub unheard-push : (ps : List ℕ) (k : ℕ) → k < length ps → unheard (take k ps) ++ (get_or ps k 0 + 1) ∷ [] ≡ unheard (take (k + 1) ps)
unheard-push ps k h = next ps k h ∙ ap (λ n. unheard (take n ps)) (sym (add-one k))
  where
    next : (ps : List ℕ) (k : ℕ) → k < length ps → unheard (take k ps) ++ (get_or ps k 0 + 1) ∷ [] ≡ unheard (take (suc k) ps)
    next [] k h = absurd (omega (arith, h))
    next (p ∷ ps) zero h = ap (λ n. n ∷ []) (add-one p)
    next (p ∷ ps) (suc k) h = ap (λ v. suc p ∷ v) (next ps k (omega (arith, h)))
