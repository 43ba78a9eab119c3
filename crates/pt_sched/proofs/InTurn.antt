-- One firing of each child in order, where each channel leads on.
use Rattle.std.proofs.Common.{◌≡◌, ℕ, zero, suc, ◌+◌, ◌-◌, ◌*◌, ◌<◌, ◌≤◌, inl, inr, Bool, true, false, List, [], ◌∷◌, ◌++◌, ◌&&◌, length, get_or, take, map, replicate, refl, sym, ap, subst, ◌∙◌, arith, All}
use Rattle.std.proofs.lemmas.Bool.{cases_eq, cases_lt, eqb-true, ltb-true}
use Rattle.std.proofs.lemmas.List.{append-nil, length_push, length-map, get_or-map, get_or_default, get_or_past, take_all, take-append-le}
use Rattle.std.proofs.Math.Nat.{mul-le-mul_right}
use Rattle.pt_rates.specs.Balance.{IsChannel}
use Rattle.pt_sched.specs.Channels.{IsSchedEdge}
use Rattle.pt_sched.specs.Forward.{leads_on, IsForward, upto}
use Rattle.pt_sched.specs.Runs.{firings, put_on, taken_from, length_after, HasTokens, IsRun, at_first, fires, IsSchedule, IsGreatestLength, AreGreatestLengths}
use Rattle.pt_sched.specs.Stretches.{spread}
use Rattle.pt_sched.specs.declared.edge.SchedEdge.{SchedEdge}
use Rattle.pt_sched.specs.declared.stretch.Stretch.{Stretch}
use Rattle.pt_sched.proofs.Counts.{firings-push_same, firings-push_other}
use Rattle.pt_sched.proofs.Spreading.{spread-times}

-- ---- an order of children

pub upto-more : (order : List Stretch) (child : ℕ) → spread order ≡ upto child → spread (order ++ (record { child = child; again = 0 }) ∷ []) ≡ upto (child + 1)
upto-more order child so_far =
    spread-times order child 1 0 (omega arith) (omega arith) ∙ ap (λ xs. xs ++ child ∷ []) so_far ∙ ap upto (let e : suc child ≡ child + 1 = omega arith in e)

length-upto : (n : ℕ) → length (upto n) ≡ n
length-upto zero = refl
length-upto (suc n) = length_push (upto n) n ∙ omega (arith, length-upto n)

take-upto : (n k : ℕ) → k ≤ n → take k (upto n) ≡ upto k
take-upto zero k le = ap (λ j. take j []) (let e : k ≡ 0 = omega (arith, le) in e) ∙ sym (ap upto (let e : k ≡ 0 = omega (arith, le) in e))
take-upto (suc n) k le = elim (cases_eq k (suc n)) [
  | inl e ↦ take_all k (upto (suc n)) (omega (arith, e, length-upto (suc n))) ∙ ap upto (sym e)
  | inr ne ↦ take-append-le k (upto n) (n ∷ []) (omega (arith, length-upto n)) ∙ take-upto n k (omega arith)
]

-- ---- how often each child fires in it

fired-not : (n child : ℕ) → n ≤ child → firings (upto n) child ≡ 0
fired-not zero child le = refl
fired-not (suc n) child le = firings-push_other (upto n) n child (λ e. omega (arith, e, le)) ∙ fired-not n child (omega arith)

fired-once : (n child : ℕ) → child < n → firings (upto n) child ≡ 1
fired-once zero child lt = absurd (omega (arith, lt))
fired-once (suc n) child lt = elim (cases_eq n child) [
  | inl e ↦ firings-push_same (upto n) n child e ∙ ap (λ f. f + 1) (fired-not n child (omega (arith, e)))
  | inr ne ↦ firings-push_other (upto n) n child ne ∙ fired-once n child (omega (arith, lt))
]

both : (a b : Bool) → (a && b) ≡ true → (a ≡ true) × (b ≡ true)
both true true e = (refl, refl)
both true false e = let f : false ≡ true = e in cc
both false b e = let f : false ≡ true = e in cc

module _ (n : ℕ) (channels : List SchedEdge) (q : List ℕ) (edges : All (IsSchedEdge n) channels) (counted : length q ≡ n) (forward : IsForward channels q) where
  onward : (k : ℕ) (d : SchedEdge) → k < length channels → (get_or channels k d).edge.from < (get_or channels k d).edge.to
  onward k d within = let e = get_or channels k d in ltb-true e.edge.from e.edge.to (both _ _ (forward.onward k d within)).0

  even : (k : ℕ) (d : SchedEdge) → k < length channels → (get_or channels k d).edge.produced ≡ (get_or channels k d).edge.consumed
  even k d within = let e = get_or channels k d in eqb-true e.edge.produced e.edge.consumed (both _ _ (forward.onward k d within)).1

  once : (child : ℕ) → child < n → get_or q child 0 ≡ 1
  once child lt = forward.once child 0 (omega (arith, lt, counted))

  run : (k : ℕ) → k ≤ n → IsRun channels q (upto k)
  run zero le = at_first
  run (suc k) le = fires (upto k) k (run k (omega arith)) (omega (arith, fired-not k k (omega arith), once k (omega (arith, le)))) tokens
    where
      tokens : HasTokens channels (firings (upto k)) k
      tokens j d within to =
          let e = get_or channels j d in
          let given : firings (upto k) e.edge.from * e.edge.produced ≡ e.edge.produced = ap (λ f. f * e.edge.produced) (fired-once k e.edge.from (omega (arith, onward j d within, to))) ∙ (let same : 1 * e.edge.produced ≡ e.edge.produced = omega arith in same) in
          let taken : firings (upto k) e.edge.to * e.edge.consumed ≡ 0 = ap (λ f. f * e.edge.consumed) (fired-not k e.edge.to (omega (arith, to))) ∙ (let same : 0 * e.edge.consumed ≡ 0 = omega arith in same) in
          omega (arith, given, taken, even j d within)

  complete : (child : ℕ) → firings (upto n) child ≡ get_or q child 0
  complete child = elim (cases_lt child n) [
    | inl lt ↦ fired-once n child lt ∙ sym (once child lt)
    | inr le ↦ fired-not n child le ∙ sym (get_or_past q child 0 (omega (arith, le, counted)))
  ]

  pub turn-schedule : (order : List ℕ) → order ≡ upto n → IsSchedule channels q order
  turn-schedule order is = subst (IsSchedule channels q) (sym is) (record { run = run n (omega arith); complete = complete })

  few : (k child : ℕ) → firings (upto k) child ≤ 1
  few k child = elim (cases_lt child k) [
    | inl lt ↦ omega (arith, fired-once k child lt)
    | inr le ↦ omega (arith, fired-not k child le)
  ]

  -- most tokens stand on a channel when its sender has fired, and its receiver hasn't
  greatest : (j : ℕ) (d : SchedEdge) → j < length channels → IsGreatestLength (get_or channels j d) (upto n) ((get_or channels j d).initial + (get_or channels j d).edge.produced)
  greatest j d within = record { met = (suc e.edge.from, omega (arith, length-upto n, starts), most); bound = bound }
    where
      e : SchedEdge
      e = get_or channels j d

      starts : e.edge.from < n
      starts = (edges j d within).between.starts

      most : length_after e (firings (take (suc e.edge.from) (upto n))) ≡ e.initial + e.edge.produced
      most =
          ap (λ order. length_after e (firings order)) (take-upto n (suc e.edge.from) (omega (arith, starts)))
          ∙ ap (λ f. e.initial + f * e.edge.produced - firings (upto (suc e.edge.from)) e.edge.to * e.edge.consumed) (fired-once (suc e.edge.from) e.edge.from (omega arith))
          ∙ ap (λ f. e.initial + 1 * e.edge.produced - f * e.edge.consumed) (fired-not (suc e.edge.from) e.edge.to (omega (arith, onward j d within)))
          ∙ (let same : e.initial + 1 * e.edge.produced - 0 * e.edge.consumed ≡ e.initial + e.edge.produced = omega arith in same)

      bound : (k : ℕ) → k ≤ length (upto n) → length_after e (firings (take k (upto n))) ≤ e.initial + e.edge.produced
      bound k le =
          let there : take k (upto n) ≡ upto k = take-upto n k (omega (arith, le, length-upto n)) in
          let given : firings (upto k) e.edge.from * e.edge.produced ≤ 1 * e.edge.produced = mul-le-mul_right e.edge.produced (few k e.edge.from) in
          subst (λ order. length_after e (firings order) ≤ e.initial + e.edge.produced) (sym there) (omega (arith, given))

  pub turn-lengths : (order lengths : List ℕ) → order ≡ upto n → lengths ≡ map (λ (channel : SchedEdge). channel.initial + channel.edge.produced) channels → AreGreatestLengths channels order lengths
  turn-lengths order lengths is are = subst (λ ls. AreGreatestLengths channels order ls) (sym are) (subst (λ xs. AreGreatestLengths channels xs all) (sym is) (record {
    counted = length-map channels length_of;
    greatest = λ j d within. subst (IsGreatestLength (get_or channels j d) (upto n)) (sym (get_or-map length_of channels j d 0 within)) (greatest j d within);
  }))
    where
      length_of : SchedEdge → ℕ
      length_of channel = channel.initial + channel.edge.produced

      all : List ℕ
      all = map length_of channels
