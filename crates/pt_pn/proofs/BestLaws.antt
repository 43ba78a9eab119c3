-- The best of the channels that the first processes wait to put on, process by process.
use Rattle.std.proofs.Common.{◌≡◌, ℕ, ◌+◌, ◌<◌, ◌≤◌, List, [], ◌∷◌, length, Option, Some, None, IfSome, IsSome, sym, ap, subst, ◌∙◌, arith}
use Rattle.std.proofs.lemmas.Bool.{false≢true}
use Rattle.pt_meaning.specs.Streams.{at}
use Rattle.pt_meaning.specs.Process.{Put}
use Rattle.pt_value.specs.declared.token.Token.{Token}
use Rattle.pt_pn_laws.specs.State.{least_full, capacity_of, greatest_of}
use Rattle.pt_pn_work.specs.Core.{State, PutsOn}
use Rattle.pt_pn_work.specs.Least.{IsBest, IsNoWorse}
use Rattle.pt_pn_work.proofs.LeastLaws.{skip-best, keep-best, take-best, best-is}

abbrev pub channel_of : List (Put Token) → ℕ
channel_of [] = 0
channel_of (w ∷ ws) = w.channel

module _ (s : State) (i : ℕ) where
  -- the next process has no put to make
  pub none-better : (o : Option (ℕ × ℕ)) → at s.halfway.puts i ≡ [] → IsBest s i o → IsBest s (i + 1) o
  none-better o e h = skip-best s i o h (λ c p b. clash p.first p.rest (sym e ∙ p.next))
    where
      clash : (u : Put Token) (us : List (Put Token)) → [] ≡ u ∷ us → ⊥
      clash u us e = cc

  -- its channel may not grow
  pub full-grown : (channel capacity greatest : ℕ) (o : Option (ℕ × ℕ)) → PutsOn s i channel → capacity ≡ capacity_of s channel → greatest ≡ greatest_of s channel → greatest ≤ capacity → IsBest s i o → IsBest s (i + 1) o
  full-grown channel capacity greatest o p k g l h = skip-best s i o h never
    where
      same : (c : ℕ) → PutsOn s i c → channel ≡ c
      same c q = sym p.on ∙ ap channel_of (sym p.next ∙ q.next) ∙ q.on

      never : (c : ℕ) → PutsOn s i c → capacity_of s c < greatest_of s c → ⊥
      never c q b =
          let x = ap (λ d. capacity_of s d) (same c q) in
          let y = ap (λ d. greatest_of s d) (same c q) in
          omega (arith, x, y, k, g, l, b)

  -- what was best stays so
  pub stays-best : (channel capacity : ℕ) (o : Option (ℕ × ℕ)) → PutsOn s i channel → capacity ≡ capacity_of s channel → IsSome o → IfSome o (λ best. IsNoWorse best.0 best.1 channel capacity) → IsBest s i o → IsBest s (i + 1) o
  stays-best channel capacity None p k some w h = absurd (false≢true some)
  stays-best channel capacity (Some best) p k some w h = keep-best s i channel best h p (subst (λ m. IsNoWorse best.0 best.1 channel m) k w)

  -- the next is the best
  pub next-best : (channel capacity greatest : ℕ) (o : Option (ℕ × ℕ)) → PutsOn s i channel → capacity ≡ capacity_of s channel → greatest ≡ greatest_of s channel → capacity < greatest → IfSome o (λ best. IsNoWorse channel capacity best.0 best.1) → IsBest s i o → IsBest s (i + 1) (Some (channel, capacity))
  next-best channel capacity greatest o p k g l w h =
      subst (λ m. IsBest s (i + 1) (Some (channel, m))) (sym k)
      (take-best s i channel o h p (omega (arith, k, g, l)) (λ best e. subst (λ m. IsNoWorse channel m best.0 best.1) k (worse o best w e)))
    where
      worse : (o : Option (ℕ × ℕ)) (best : ℕ × ℕ) → IfSome o (λ best. IsNoWorse channel capacity best.0 best.1) → o ≡ Some best → IsNoWorse channel capacity best.0 best.1
      worse None best w e = absurd (cc)
      worse (Some x) best w e = subst (λ (y : ℕ × ℕ). IsNoWorse channel capacity y.0 y.1) (some-is x best e) w
        where
          some-is : (x y : ℕ × ℕ) → Option.Some x ≡ Option.Some y → x ≡ y
          some-is x y e = cc

-- the best of all grows
pub best-of-all : (s : State) (o : Option (ℕ × ℕ)) (i m : ℕ) → length s.halfway.puts ≤ i → length s.capacity ≡ m → IfSome o (λ best. best.0 < m) → IsBest s i o → o ≡ least_full s
best-of-all s o i m l e w h = sym (best-is s o i l (λ best z. within o best w z) h)
  where
    within : (o : Option (ℕ × ℕ)) (best : ℕ × ℕ) → IfSome o (λ best. best.0 < m) → o ≡ Some best → best.0 < length s.capacity
    within None best w z = absurd (cc)
    within (Some x) best w z = let q = some-is x best z in let a = ap (λ (y : ℕ × ℕ). y.0) q in omega (arith, a, w, e)
      where
        some-is : (x y : ℕ × ℕ) → Option.Some x ≡ Option.Some y → x ≡ y
        some-is x y e = cc
