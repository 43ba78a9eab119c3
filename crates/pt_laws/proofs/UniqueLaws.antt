-- There is one least solution, and a tick comes to it.
use Rattle.std.proofs.Common.{◌≡◌, ℕ, zero, suc, ◌≤◌, ◌<◌, ◌+◌, List, [], ◌∷◌, Bool, true, false, length, refl, sym, ap, subst, arith, ◌⊎◌, inl, inr}
use Rattle.pt_meaning.specs.Basics.{Tag, Streams}
use Rattle.pt_meaning.specs.Machine.{Stepping, Partial, Unknown, Known}
use Rattle.pt_meaning.specs.Rounds.{Source, Net}
use Rattle.pt_meaning.specs.Tick as tick
use Rattle.pt_meaning.specs.Tick.{Activity, Earliness, Reaction, is_known, no_more, valued, reactions, react_all, valuation, is_least}
use Rattle.pt_meaning.specs.Laws.{KnownBelow, KeepsEarly}
use Rattle.pt_laws.specs.Uniqueness.{LeastIsOne, ValuationsSettle, SettledIsLeast, LeastIsSettled, LeastSolutionIsOne, SettledIsLeastSolution}
use Rattle.pt_laws.proofs.Order.{Below-antisym}
use Rattle.pt_laws.proofs.RoundLaws.{grows-refl}
use Rattle.pt_laws.proofs.TickLaws.{KnownBelow-refl, KnownBelow-antisym, valuation-below, no-more-same, no-more-refl}
use Rattle.pt_laws.proofs.LeastLaws.{valuation-least, least-fixed, rounds-least, settled-solution}

pub least-is-one : {T S : Type 0} → LeastIsOne T S
least-is-one early active turn tag net kids inputs V W v w = KnownBelow-antisym V W (v.least W w.fixed) (w.least V v.fixed)

pub settled-is-least : {T S : Type 0} → SettledIsLeast T S
settled-is-least early active turn tag keeps net kids inputs k e = record {
  fixed = sym (least-fixed early active turn tag keeps net kids inputs k e);
  least = λ V h. valuation-least early active turn tag keeps net kids inputs V (subst (λ W. KnownBelow W V) (sym h) (KnownBelow-refl V)) k;
}

pub least-is-settled : {T S : Type 0} → LeastIsSettled T S
least-is-settled early active turn tag keeps net kids inputs W w k e = least-is-one early active turn tag net kids inputs W _ w (settled-is-least early active turn tag keeps net kids inputs k e)

pub least-solution-is-one : {T S : Type 0} → LeastSolutionIsOne T S
least-solution-is-one facts step tag net limits kids X V W v w = Below-antisym V W (v.least W w.solution) (w.least V v.solution)

pub settled-is-least-solution : {T S : Type 0} → SettledIsLeastSolution T S
settled-is-least-solution facts step tag net limits kids X k e = record { solution = settled-solution facts step tag net limits kids X k e; least = λ V h. rounds-least facts step tag net limits kids X V h k }

-- how many channels are known
one_if : Bool → ℕ
one_if true = 1
one_if false = 0

known_count : {T : Type 0} → List (Partial T) → ℕ
known_count [] = 0
known_count (v ∷ vs) = one_if (is_known v) + known_count vs

count-long : {T : Type 0} (vs : List (Partial T)) → known_count vs ≤ length vs
unfolding known_count one_if
count-long [] = omega arith
count-long (Unknown ∷ vs) = omega (arith, count-long vs)
count-long (Known xs ∷ vs) = omega (arith, count-long vs)

-- where more becomes known, the count rises
count-rises : {T : Type 0} (vs ws : List (Partial T)) → KnownBelow vs ws → (known_count vs ≤ known_count ws) × ((no_more vs ws ≡ true) ⊎ (known_count vs < known_count ws))
unfolding known_count one_if
count-rises [] [] h = (omega arith, inl refl)
count-rises (v ∷ vs) [] h = absurd h
count-rises [] (w ∷ ws) h = absurd h
count-rises (Unknown ∷ vs) (Unknown ∷ ws) h = let r = count-rises vs ws h.1 in (omega (arith, r.0), elim r.1 [ inl e ↦ inl e | inr l ↦ inr (omega (arith, l)) ])
count-rises (Unknown ∷ vs) (Known ys ∷ ws) h = let r = count-rises vs ws h.1 in (omega (arith, r.0), inr (omega (arith, r.0)))
count-rises (Known xs ∷ vs) (Known ys ∷ ws) h = let r = count-rises vs ws h.1 in (omega (arith, r.0), elim r.1 [ inl e ↦ inl e | inr l ↦ inr (omega (arith, l)) ])
count-rises (Known xs ∷ vs) (Unknown ∷ ws) h = absurd (clash h.0)
  where
    clash : Unknown ≡ Known xs → ⊥
    clash e = cc

-- where all are known no more becomes known
all-known : {T : Type 0} (vs ws : List (Partial T)) → KnownBelow vs ws → known_count vs ≡ length vs → no_more vs ws ≡ true
unfolding known_count one_if
all-known [] [] h e = refl
all-known (v ∷ vs) [] h e = absurd h
all-known [] (w ∷ ws) h e = absurd h
all-known (Unknown ∷ vs) (w ∷ ws) h e = absurd (omega (arith, count-long vs, e))
all-known (Known xs ∷ vs) (w ∷ ws) h e = all-known vs ws h.1 (omega (arith, e))

module _ {T S : Type 0} (early : Earliness T S) (active : Activity T S) (turn : Stepping T S) (tag : Tag) (keeps : KeepsEarly early active turn) (net : Net) (kids : List S) (inputs : Streams T) where
  known-at : ℕ → List (Partial T)
  known-at k = valuation early active turn tag net kids inputs k

  grows-one : (k : ℕ) → KnownBelow (known-at k) (known-at (suc k))
  unfolding known-at
  grows-one k = valuation-below early active turn turn tag (grows-refl turn) keeps net kids inputs k (suc k) (omega arith)

  -- settled once, settled later
  pub least-later : (k : ℕ) → is_least early active turn tag net kids inputs k ≡ true → is_least early active turn tag net kids inputs (suc k) ≡ true
  unfolding valuation known-at
  least-later k e =
      let same : known-at k ≡ known-at (suc k) = no-more-same (known-at k) (known-at (suc k)) (grows-one k) e in
      let next : known-at (suc k) ≡ known-at (suc (suc k)) = ap (λ V. react_all early active turn tag net kids inputs V) same in
      subst (λ V. no_more (known-at (suc k)) V ≡ true) next (no-more-refl (known-at (suc k)))

  width : (cs : List Source) (rs : List (Reaction T S)) → length (valued rs inputs cs) ≡ length cs
  width [] rs = refl
  width (c ∷ cs) rs = ap (λ v. suc v) (width cs rs)

  pub width-at : (k : ℕ) → length (valuation early active turn tag net kids inputs k) ≡ length net.sources
  unfolding valuation known-at
  width-at zero = none net.sources
    where
      none : (cs : List Source) → length (tick.unknowns {T = T} cs) ≡ length cs
      none [] = refl
      none (c ∷ cs) = ap (λ v. suc v) (none cs)
  width-at (suc k) = width net.sources (reactions early active turn tag net.places kids (known-at k))

  -- either it is settled, or each round has made one more known
  counted : (k : ℕ) → (is_least early active turn tag net kids inputs k ≡ true) ⊎ (k < known_count (known-at (suc k)))
  unfolding known-at
  counted zero = elim (count-rises (known-at 0) (known-at 1) (grows-one 0)).1 [ inl e ↦ inl e | inr l ↦ inr (omega (arith, l)) ]
  counted (suc k) = go (counted k)
    where
      go : (is_least early active turn tag net kids inputs k ≡ true) ⊎ (k < known_count (known-at (suc k))) → (is_least early active turn tag net kids inputs (suc k) ≡ true) ⊎ (suc k < known_count (known-at (suc (suc k))))
      go (inl e) = inl (least-later k e)
      go (inr l) = elim (count-rises (known-at (suc k)) (known-at (suc (suc k))) (grows-one (suc k))).1 [ inl e ↦ inl e | inr m ↦ inr (omega (arith, l, m)) ]

  pub settles : (k : ℕ) → length net.sources ≤ k → is_least early active turn tag net kids inputs k ≡ true
  unfolding known-at
  settles k h = elim (counted k) [ inl e ↦ e | inr l ↦ absurd (omega (arith, h, l, count-long (known-at (suc k)), width-at (suc k))) ]

pub valuations-settle : {T S : Type 0} → ValuationsSettle T S
valuations-settle early active turn tag keeps net kids inputs k h = settles early active turn tag keeps net kids inputs k h
