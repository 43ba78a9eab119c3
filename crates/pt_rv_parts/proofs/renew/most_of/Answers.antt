use Rattle.std.proofs.Common.{◌≡◌, ◌⊎◌, inl, inr, ℕ, zero, suc, ◌+◌, ◌<◌, ◌≤◌, List, [], ◌∷◌, max, length, get_or, refl, sym, subst, arith}
use Rattle.pt_rv_parts.proofs.renew.most_of.Goals as goal

more : (ns : List ℕ) (k most : ℕ) → ((r : ℕ) → r < k → get_or ns r 0 ≤ most) → (r : ℕ) → r < k + 1 → get_or ns r 0 ≤ max most (get_or ns k 0)
more ns k most h r l = by (split r k l)
  where
    split : (r k : ℕ) → r < k + 1 → (r < k) ⊎ (k ≡ r)
    split r k l = grind arith

    by : (r < k) ⊎ (k ≡ r) → get_or ns r 0 ≤ max most (get_or ns k 0)
    by (inl w) = let a = h r w in omega (arith, a)
    by (inr e) = subst (λ j. get_or ns j 0 ≤ max most (get_or ns k 0)) e (omega arith)

past : (ns : List ℕ) (k most : ℕ) → length ns ≤ k → ((r : ℕ) → r < k → get_or ns r 0 ≤ most) → (r : ℕ) → get_or ns r 0 ≤ most
past ns k most l h r = by (split r k)
  where
    split : (r k : ℕ) → (r < k) ⊎ (k ≤ r)
    split r k = grind arith

    none : (ns : List ℕ) (r : ℕ) → length ns ≤ r → get_or ns r 0 ≡ 0
    none [] r l = refl
    none (n ∷ ns) zero l = absurd (omega (arith, l))
    none (n ∷ ns) (suc r) l = none ns r (omega (arith, l))

    by : (r < k) ⊎ (k ≤ r) → get_or ns r 0 ≤ most
    by (inl w) = h r w
    by (inr w) = let e = none ns r (omega (arith, w, l)) in omega (arith, e)

pub loop-count-preserved : goal.loop-count-preserved
loop-count-preserved c r l = subst (λ m. get_or c.args.counts.now r 0 ≤ m) (sym c.max-most.ensures) (more c.args.counts.now c.loop-count.count-index c.loop-count.most c.loop-count.invariant r l)

pub returns : goal.returns
returns c = past c.args.counts.now c.loop-count.count-index c.loop-count.most c.loop-count-test.false c.loop-count.invariant
