-- Something always comes: the least deep of the children that are due, or one that fires last, or the end.
use Rattle.std.proofs.Common.{◌≡◌, ◌⊎◌, inl, inr, ⊎_elim, ℕ, zero, suc, ◌<◌, ◌≤◌, Bool, true, false, length, get_or, refl, sym, ap, subst, ◌∙◌, arith}
use Rattle.pt_de_laws.specs.State.{is_due_child, is_last_child, depth_of, IsFirst}
use Rattle.pt_de_laws.specs.Comes.{SomethingComes, AlwaysComes}
use Rattle.pt_de_laws.proofs.ReadyLaws.{clash}
use Rattle.pt_de_laws.proofs.ToldLaws.{below-or}

-- of the first n numbers none passes a test, or one does that has the least depth of those that do
record IsLeast (test : ℕ → Bool) (depth : ℕ → ℕ) (n i : ℕ) : Type 0 where
  within : i < n
  passes : test i ≡ true
  least : (j : ℕ) → j < n → test j ≡ true → depth i ≤ depth j

module _ (test : ℕ → Bool) (depth : ℕ → ℕ) where
  split-last : (n j : ℕ) → j < suc n → (j < n) ⊎ (j ≡ n)
  split-last n j h = ⊎_elim (λ (l : j < n). inl l) (λ (g : n ≤ j). inr (omega (arith, g, h))) (below-or j n)

  none-more : (n : ℕ) → ((j : ℕ) → j < n → test j ≡ false) → test n ≡ false → (j : ℕ) → j < suc n → test j ≡ false
  none-more n h f j l = ⊎_elim (λ (m : j < n). h j m) (λ (e : j ≡ n). ap test e ∙ f) (split-last n j l)

  first-one : (n : ℕ) → ((j : ℕ) → j < n → test j ≡ false) → test n ≡ true → IsLeast test depth (suc n) n
  first-one n h t = record { within = omega arith; passes = t; least = λ j l e. ⊎_elim (λ (m : j < n). clash (sym e ∙ h j m)) (λ (q : j ≡ n). subst (λ k. depth n ≤ depth k) (sym q) (omega arith)) (split-last n j l) }

  same-one : (n i : ℕ) → IsLeast test depth n i → (test n ≡ true → depth i ≤ depth n) → IsLeast test depth (suc n) i
  same-one n i m h = record {
    within = let w = m.within in omega (arith, w);
    passes = m.passes;
    least = λ j l e. ⊎_elim (λ (b : j < n). m.least j b e) (λ (q : j ≡ n). subst (λ k. depth i ≤ depth k) (sym q) (h (ap test (sym q) ∙ e))) (split-last n j l);
  }

  next-one : (n i : ℕ) → IsLeast test depth n i → test n ≡ true → depth n ≤ depth i → IsLeast test depth (suc n) n
  next-one n i m t d = record {
    within = omega arith;
    passes = t;
    least = λ j l e. ⊎_elim (λ (b : j < n). let k = m.least j b e in omega (arith, k, d)) (λ (q : j ≡ n). subst (λ k. depth n ≤ depth k) (sym q) (omega arith)) (split-last n j l);
  }

  found : (n : ℕ) → ((j : ℕ) → j < n → test j ≡ false) ⊎ ((i : ℕ) × IsLeast test depth n i)
  found zero = inl (λ j h. absurd (omega (arith, h)))
  found (suc n) = with_last (found n) (test n) refl
    where
      with_last : ((j : ℕ) → j < n → test j ≡ false) ⊎ ((i : ℕ) × IsLeast test depth n i) → (b : Bool) → test n ≡ b → ((j : ℕ) → j < suc n → test j ≡ false) ⊎ ((i : ℕ) × IsLeast test depth (suc n) i)
      with_last (inl h) true t = inr (n, first-one n h t)
      with_last (inl h) false t = inl (none-more n h t)
      with_last (inr m) false t = inr (m.0, same-one n m.0 m.1 (λ e. clash (sym e ∙ t)))
      with_last (inr m) true t = ⊎_elim (λ (d : depth m.0 < depth n). inr (m.0, same-one n m.0 m.1 (λ e. omega (arith, d)))) (λ (d : depth n ≤ depth m.0). inr (n, next-one n m.0 m.1 t d)) (below-or (depth m.0) (depth n))

pub always-comes : {T : Type 0} → AlwaysComes T
always-comes s = by (found (λ j. is_due_child s j) (λ j. depth_of s j) (length s.plan.net.places))
  where
    early : (i : ℕ) → IsFirst s i → (b : Bool) → get_or s.roles.early i false ≡ b → SomethingComes s
    early i f true e = inl (i, inr (f, e))
    early i f false e = inl (i, inl (inl (f, e)))

    last : ((j : ℕ) → j < length s.plan.net.places → is_due_child s j ≡ false) → ((j : ℕ) → j < length s.plan.net.places → is_last_child s j ≡ false) ⊎ ((i : ℕ) × IsLeast (λ j. is_last_child s j) (λ j. j) (length s.plan.net.places) i) → SomethingComes s
    last none (inl h) = inr (record { none_due = none; none_last = h })
    last none (inr m) = inl (m.0, inl (inr (record { there = m.1.within; last = m.1.passes; none = none })))

    by : ((j : ℕ) → j < length s.plan.net.places → is_due_child s j ≡ false) ⊎ ((i : ℕ) × IsLeast (λ j. is_due_child s j) (λ j. depth_of s j) (length s.plan.net.places) i) → SomethingComes s
    by (inl h) = last h (found (λ j. is_last_child s j) (λ j. j) (length s.plan.net.places))
    by (inr m) = early m.0 (record { there = m.1.within; due = m.1.passes; least = m.1.least }) (get_or s.roles.early m.0 false) refl
