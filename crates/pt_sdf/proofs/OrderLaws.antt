-- How often each child fired, by the place in the order.
use Rattle.std.proofs.Common.{◌≡◌, ℕ, zero, suc, ◌+◌, ◌*◌, ◌<◌, ◌≤◌, List, [], ◌∷◌, ◌++◌, true, false, length, get_or, set, take, map, nat_eq, if◌then◌else◌, refl, ap, ap₂, sym, ◌∙◌, arith, zero-add}
use Rattle.std.proofs.lemmas.List.{take_more}
use Rattle.std.proofs.lemmas.Bool.Decides.{nat_tests}
use Rattle.pt_meaning.specs.Running.{zeros}
use Rattle.pt_sdf_parts.specs.Lawful.{occurs}
use Rattle.pt_sdf.specs.Core.{fired_from}

pub occurs-append : (n : ℕ) (xs ys : List ℕ) → occurs n (xs ++ ys) ≡ occurs n xs + occurs n ys
occurs-append n [] ys = sym (zero-add (occurs n ys))
occurs-append n (x ∷ xs) ys = let h = occurs-append n xs ys in omega (arith, h)

pub occurs-one : (n : ℕ) → occurs n (n ∷ []) ≡ 1
occurs-one n = let t : nat_eq n n ≡ true = grind (arith, nat_tests) in ap (λ b. (if b then 1 else 0) + 0) t

pub occurs-other : (n m : ℕ) → (m ≡ n → ⊥) → occurs n (m ∷ []) ≡ 0
occurs-other n m h = let t : nat_eq m n ≡ false = grind (arith, nat_tests) in ap (λ b. (if b then 1 else 0) + 0) t

-- one firing further in the order
pub occurs-more : (n i k : ℕ) (order : List ℕ) → k < length order → get_or order k 0 ≡ i → occurs n (take (k + 1) order) ≡ occurs n (take k order) + occurs n (i ∷ [])
occurs-more n i k order h e = ap (λ v. occurs n v) (take_more order k 0 h) ∙ occurs-append n (take k order) (get_or order k 0 ∷ []) ∙ ap (λ v. occurs n (take k order) + occurs n (v ∷ [])) e

-- a beginning has no more
pub occurs-begin : (n k : ℕ) (order : List ℕ) → occurs n (take k order) ≤ occurs n order
occurs-begin n zero order = omega arith
occurs-begin n (suc k) [] = omega arith
occurs-begin n (suc k) (x ∷ order) = let h = occurs-begin n k order in omega (arith, h)

-- where child i is next, it has fired less often than in the whole
pub occurs-next : (i k : ℕ) (order : List ℕ) → k < length order → get_or order k 0 ≡ i → occurs i (take k order) + 1 ≤ occurs i order
occurs-next i k order h e = omega (arith, occurs-more i i k order h e, occurs-one i, occurs-begin i (k + 1) order)

pub fired-long : (w : ℕ) (b : List ℕ) (o : ℕ) (qs : List ℕ) → length (fired_from w b o qs) ≡ length qs
fired-long w b o [] = refl
fired-long w b o (q ∷ qs) = ap (λ k. suc k) (fired-long w b (suc o) qs)

pub fired-at : (w : ℕ) (b : List ℕ) (o : ℕ) (qs : List ℕ) (i : ℕ) → i < length qs → get_or (fired_from w b o qs) i 0 ≡ w * get_or qs i 0 + occurs (o + i) b
fired-at w b o [] i h = absurd (omega arith)
fired-at w b o (q ∷ qs) zero h = ap (λ k. w * q + occurs k b) (omega arith)
fired-at w b o (q ∷ qs) (suc i) h = fired-at w b (suc o) qs i (omega arith) ∙ ap (λ k. w * get_or qs i 0 + occurs k b) (next o i)
  where
    next : (o i : ℕ) → suc o + i ≡ o + suc i
    next o i = omega arith

-- children that aren't in the beginning fired as often as in the whole turns
fired-but : (w : ℕ) (b : List ℕ) (i o : ℕ) (qs : List ℕ) → i < o → fired_from w (b ++ i ∷ []) o qs ≡ fired_from w b o qs
fired-but w b i o [] h = refl
fired-but w b i o (q ∷ qs) h = ap₂ (λ k v. (w * q + k) ∷ v) (occurs-append o b (i ∷ []) ∙ ap (λ v. occurs o b + v) (occurs-other o i (λ e. omega arith)) ∙ none (occurs o b)) (fired-but w b i (suc o) qs (omega arith))
  where
    none : (n : ℕ) → n + 0 ≡ n
    none n = omega arith

fired-next : (w : ℕ) (b : List ℕ) (i o : ℕ) (qs : List ℕ) → i < length qs → set (fired_from w b o qs) i (get_or (fired_from w b o qs) i 0 + 1) ≡ fired_from w (b ++ (o + i) ∷ []) o qs
fired-next w b i o [] h = absurd (omega arith)
fired-next w b zero o (q ∷ qs) h =
    ap₂ (λ k v. k ∷ v) (one-more (w * q) (occurs o b) ∙ ap (λ v. w * q + v) (ap (λ v. occurs o b + v) (sym (occurs-one o)) ∙ sym (occurs-append o b (o ∷ []))) ∙ ap (λ k. w * q + occurs o (b ++ k ∷ [])) (sym (none o)))
    (sym (fired-but w b o (suc o) qs (omega arith)) ∙ ap (λ k. fired_from w (b ++ k ∷ []) (suc o) qs) (sym (none o)))
  where
    one-more : (x y : ℕ) → x + y + 1 ≡ x + (y + 1)
    one-more x y = omega arith

    none : (n : ℕ) → n + 0 ≡ n
    none n = omega arith
fired-next w b (suc i) o (q ∷ qs) h =
    ap₂ (λ k v. (w * q + k) ∷ v) (sym (occurs-append o b ((o + suc i) ∷ []) ∙ ap (λ v. occurs o b + v) (occurs-other o (o + suc i) (λ e. omega arith)) ∙ none (occurs o b)))
    (fired-next w b i (suc o) qs (omega arith) ∙ ap (λ k. fired_from w (b ++ k ∷ []) (suc o) qs) (next o i))
  where
    none : (n : ℕ) → n + 0 ≡ n
    none n = omega arith

    next : (o i : ℕ) → suc o + i ≡ o + suc i
    next o i = omega arith

-- one firing further
pub fired-more : (w k i : ℕ) (order qs : List ℕ) → k < length order → get_or order k 0 ≡ i → i < length qs → set (fired_from w (take k order) 0 qs) i (get_or (fired_from w (take k order) 0 qs) i 0 + 1) ≡ fired_from w (take (k + 1) order) 0 qs
fired-more w k i order qs h e l =
    fired-next w (take k order) i 0 qs l ∙ ap (λ v. fired_from w (take k order ++ v ∷ []) 0 qs) (zero-add i ∙ sym e) ∙ ap (λ v. fired_from w v 0 qs) (sym (take_more order k 0 h))

-- a whole turn further
pub fired-turn : (w o : ℕ) (order qs : List ℕ) → ((i : ℕ) → i < length qs → occurs (o + i) order ≡ get_or qs i 0) → fired_from w order o qs ≡ fired_from (w + 1) [] o qs
fired-turn w o order [] h = refl
fired-turn w o order (q ∷ qs) h =
    let a : occurs o order ≡ q = ap (λ k. occurs k order) (none o) ∙ h 0 (omega arith) in
    ap₂ (λ k v. k ∷ v) (ap (λ v. w * q + v) a ∙ turn w q) (fired-turn w (suc o) order qs (λ i l. ap (λ k. occurs k order) (next o i) ∙ h (suc i) (omega arith)))
  where
    none : (n : ℕ) → n ≡ n + 0
    none n = omega arith

    turn : (w q : ℕ) → w * q + q ≡ (w + 1) * q + 0
    turn w q = omega arith

    next : (o i : ℕ) → suc o + i ≡ o + suc i
    next o i = omega arith

-- nothing fired yet, and all turns made
pub fired-none : (o : ℕ) (qs ps : List ℕ) → length qs ≡ length ps → fired_from 0 [] o qs ≡ zeros ps
fired-none o [] [] e = refl
fired-none o [] (p ∷ ps) e = absurd (omega arith)
fired-none o (q ∷ qs) [] e = absurd (omega arith)
fired-none o (q ∷ qs) (p ∷ ps) e = ap₂ (λ k v. k ∷ v) (none q) (fired-none (suc o) qs ps (omega arith))
  where
    none : (q : ℕ) → 0 * q + 0 ≡ 0
    none q = omega arith

pub fired-whole : (m o : ℕ) (qs : List ℕ) → fired_from m [] o qs ≡ map (λ q. m * q) qs
fired-whole m o [] = refl
fired-whole m o (q ∷ qs) = ap₂ (λ k v. k ∷ v) (none (m * q)) (fired-whole m (suc o) qs)
  where
    none : (n : ℕ) → n + 0 ≡ n
    none n = omega arith
