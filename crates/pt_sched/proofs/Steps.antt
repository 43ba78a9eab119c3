-- The tests of a child, and the run after it fires some times.
use Rattle.std.proofs.Common.{◌≡◌, ℕ, zero, suc, ◌+◌, ◌*◌, ◌<◌, ◌≤◌, inl, inr, List, [], ◌∷◌, ◌++◌, length, get_or, set, sum, replicate, true, false, refl, sym, ap, subst, ◌∙◌, arith}
use Rattle.std.proofs.lemmas.Bool.{cases_eq, cases_lt, false≢true}
use Rattle.std.proofs.lemmas.List.{append-nil, length-set, get_or-set_same, get_or-set_other, get_or_default, get_or_past, get_or-replicate, length-replicate}
use Rattle.std.proofs.lemmas.List.Elements.{Contains-get_or}
use Rattle.std.proofs.lemmas.List.Sums.{get_or-le-sum_by}
use Rattle.pt_sched.specs.Channels.{AreSmall}
use Rattle.pt_sched.specs.Lists.{AreAt}
use Rattle.pt_sched.specs.Next.{IsReady, IsReadyFor, HasTokensFor}
use Rattle.pt_sched.specs.Runs.{firings, put_on, taken_from, HasTokens, IsRun, at_first, fires, IsSchedule, IsStuck, AreGreatestLengths}
use Rattle.pt_sched.specs.State.{IsCounted, left}
use Rattle.pt_sched.specs.declared.edge.SchedEdge.{SchedEdge}
use Rattle.pt_sched.specs.declared.lists.Side.TheVariants.{End}
use Rattle.pt_sched.proofs.Counts.{firings-push_same, firings-push_le, put_on-le, one-first, firings-times_same, firings-times_other, run-bounded}
use Rattle.pt_sched.proofs.Greatest.{greatest-start}
use Rattle.pt_sched.proofs.Listing.{no_channel}

-- the channel holds what its receiver's next firing takes
abbrev pub IsFilled : (ℕ → ℕ) → SchedEdge → Type 0
IsFilled fired channel = taken_from channel fired + channel.edge.consumed ≤ put_on channel fired

-- the first of the numbered channels are filled
abbrev pub AreFilled : List SchedEdge → (ℕ → ℕ) → List ℕ → ℕ → Type 0
AreFilled channels fired numbers index = (j : ℕ) → j < index → IsFilled fired (get_or channels (get_or numbers j 0) no_channel)

pub filled-from : (fired : ℕ → ℕ) (channel : SchedEdge) → (put_on channel fired < taken_from channel fired + channel.edge.consumed → false ≡ true) → IsFilled fired channel
filled-from fired channel h = elim (cases_lt (put_on channel fired) (taken_from channel fired + channel.edge.consumed)) [
  | inl short ↦ absurd (false≢true (h short))
  | inr filled ↦ filled
]

module _ (channels : List SchedEdge) (fired : ℕ → ℕ) (child : ℕ) (numbers : List ℕ) (at : AreAt End channels child numbers) where
  pub has-tokens : (index : ℕ) → length numbers ≤ index → AreFilled channels fired numbers index → HasTokens channels fired child
  has-tokens index over filled k d short to =
      let c = at.every k d short to in
      let here : get_or numbers c.0 0 ≡ k = get_or_default numbers c.0 0 k c.1 ∙ c.2 in
      subst (IsFilled fired) (ap (λ m. get_or channels m no_channel) here ∙ get_or_default channels k no_channel d short) (filled c.0 (omega (arith, c.1)))

  pub lacks-tokens : (index : ℕ) → index < length numbers → put_on (get_or channels (get_or numbers index 0) no_channel) fired < taken_from (get_or channels (get_or numbers index 0) no_channel) fired + (get_or channels (get_or numbers index 0) no_channel).edge.consumed → HasTokens channels fired child → ⊥
  lacks-tokens index inside less tokens =
      let o = at.only (get_or numbers index 0) (Contains-get_or numbers index 0 inside) in
      omega (arith, less, tokens (get_or numbers index 0) no_channel o.0 (o.1 no_channel))

-- the numbers of firings after some more of a child
module _ (order fired : List ℕ) (child times : ℕ) (same : (other : ℕ) → get_or fired other 0 ≡ firings order other) (inside : child < length fired) where
  pub fired-more : (other : ℕ) → get_or (set fired child (get_or fired child 0 + times)) other 0 ≡ firings (order ++ replicate times child) other
  fired-more other = elim (cases_eq child other) [
    | inl e ↦ subst (λ o. get_or (set fired child (get_or fired child 0 + times)) o 0 ≡ firings (order ++ replicate times child) o) e (get_or-set_same fired child (get_or fired child 0 + times) 0 inside ∙ ap (λ n. n + times) (same child) ∙ sym (firings-times_same order child child times refl))
    | inr d ↦ get_or-set_other fired child other (get_or fired child 0 + times) 0 (λ e. d (sym e)) ∙ same other ∙ sym (firings-times_other order child other times d)
  ]

-- the counts of a run within the limit
pub small-run : (channels : List SchedEdge) (q order fired : List ℕ) → sum q ≤ 1000000 → IsRun channels q order → ((other : ℕ) → get_or fired other 0 ≡ firings order other) → AreSmall fired
small-run channels q order fired small run same child =
    omega (arith, same child, run-bounded channels q run child, cap q child small)
  where
    cap : (q : List ℕ) (child : ℕ) → sum q ≤ 1000000 → get_or q child 0 ≤ 1000000
    cap q child small = elim (cases_lt child (length q)) [
      | inl inside ↦ omega (arith, get_or-le-sum_by (λ x. x) q child 0 inside)
      | inr past ↦ omega (arith, get_or_past q child 0 past)
    ]

-- a child that has the tokens of so many firings may make them next
pub run-times : (channels : List SchedEdge) (q order : List ℕ) (child times : ℕ) → IsRun channels q order → firings order child + times ≤ get_or q child 0 → HasTokensFor channels (firings order) child times → IsRun channels q (order ++ replicate times child)
run-times channels q order child zero run lacking tokens = subst (IsRun channels q) (sym (append-nil order)) run
run-times channels q order child (suc times) run lacking tokens =
    subst (IsRun channels q) (one-first order child times) (run-times channels q (order ++ child ∷ []) child times (fires order child run (omega (arith, lacking)) (λ k d short to. omega (arith, tokens k d short to))) (omega (arith, lacking, firings-push_same order child child refl)) later)
  where
    later : HasTokensFor channels (firings (order ++ child ∷ [])) child times
    later k d short to =
        let channel : SchedEdge = get_or channels k d in
        let put : put_on channel (firings order) ≤ put_on channel (firings (order ++ child ∷ [])) = put_on-le channel (firings order) (firings (order ++ child ∷ [])) (firings-push_le order child channel.edge.from) in
        omega (arith, put, tokens k d short to, ap (λ n. n * channel.edge.consumed) (firings-push_same order child channel.edge.to (sym to)))

-- and so may one that has them by the counts
pub run-more : (channels : List SchedEdge) (q order fired : List ℕ) (child times : ℕ) → IsRun channels q order → ((other : ℕ) → get_or fired other 0 ≡ firings order other) → IsReadyFor channels q (λ other. get_or fired other 0) child times → IsRun channels q (order ++ replicate times child)
run-more channels q order fired child times run same ready =
    run-times channels q order child times run (omega (arith, same child, ready.lacking)) (subst (λ f. HasTokensFor channels f child times) (λ i other. same other i) ready.tokens)

-- a child with firings left is one of those that q counts
pub lacking-inside : (q : List ℕ) (child n : ℕ) → n < get_or q child 0 → child < length q
lacking-inside q child n less = elim (cases_lt child (length q)) [
  | inl inside ↦ inside
  | inr past ↦ absurd (omega (arith, less, get_or_past q child 0 past))
]

-- it makes no more than q says
pub few-times : (q : List ℕ) (child fired times : ℕ) → sum q ≤ 1000000 → fired + times ≤ get_or q child 0 → fired + times ≤ 1000000
few-times q child fired times small lacking = elim (cases_lt child (length q)) [
  | inl inside ↦ omega (arith, lacking, get_or-le-sum_by (λ x. x) q child 0 inside)
  | inr past ↦ omega (arith, lacking, get_or_past q child 0 past)
]

-- so the counts stay within the limit
pub small-times : (q fired : List ℕ) (child times : ℕ) → sum q ≤ 1000000 → AreSmall fired → get_or fired child 0 + times ≤ get_or q child 0 → AreSmall (set fired child (get_or fired child 0 + times))
small-times q fired child times cap small lacking other = elim (cases_eq child other) [
  | inl e ↦ subst (λ o. get_or (set fired child (get_or fired child 0 + times)) o 0 ≤ 1000000) e here
  | inr d ↦ omega (arith, get_or-set_other fired child other (get_or fired child 0 + times) 0 (λ e. d (sym e)), small other)
]
  where
    here : get_or (set fired child (get_or fired child 0 + times)) child 0 ≤ 1000000
    here = elim (cases_lt child (length fired)) [
      | inl inside ↦ omega (arith, get_or-set_same fired child (get_or fired child 0 + times) 0 inside, few-times q child (get_or fired child 0) times cap lacking)
      | inr past ↦ omega (arith, get_or_past (set fired child (get_or fired child 0 + times)) child 0 (omega (arith, past, length-set fired child (get_or fired child 0 + times))))
    ]

-- before the first firing
pub none-fired : (n child : ℕ) → get_or (replicate n 0) child 0 ≡ firings [] child
none-fired n child = elim (cases_lt child n) [
  | inl inside ↦ get_or-replicate {A = ℕ} n child 0 0 inside ∙ (let none : 0 ≡ firings [] child = omega arith in none)
  | inr past ↦ get_or_past (replicate n 0) child 0 (omega (arith, length-replicate {A = ℕ} n 0)) ∙ (let none : 0 ≡ firings [] child = omega arith in none)
]

-- firings take their number from what is left
pub left-fired : (q fired : List ℕ) (child times : ℕ) → length fired ≡ length q → 0 < times → get_or fired child 0 + times ≤ get_or q child 0 → left q (set fired child (get_or fired child 0 + times)) < left q fired
left-fired [] fired child times e some h = absurd (omega arith)
left-fired (m ∷ q) [] child times e some h = absurd (omega (arith, e))
left-fired (m ∷ q) (k ∷ fired) zero times e some h = omega (arith, some, h)
left-fired (m ∷ q) (k ∷ fired) (suc child) times e some h = omega (arith, left-fired q fired child times (omega (arith, e)) some h)

-- no child lacks firings
pub complete : (channels : List SchedEdge) (q order fired : List ℕ) → IsRun channels q order → ((other : ℕ) → get_or fired other 0 ≡ firings order other) → ((child : ℕ) → get_or q child 0 ≤ get_or fired child 0) → IsSchedule channels q order
complete channels q order fired run same over = record {
  run = run;
  complete = λ child. omega (arith, same child, over child, run-bounded channels q run child);
}

-- no child that lacks firings is ready
pub stuck-run : (channels : List SchedEdge) (q order fired : List ℕ) → IsRun channels q order → ((other : ℕ) → get_or fired other 0 ≡ firings order other) → ((child : ℕ) → IsReady channels q (λ other. get_or fired other 0) child → ⊥) → IsStuck channels q order
stuck-run channels q order fired run same none = record {
  run = run;
  none = λ child lacking tokens. none child (omega (arith, same child, lacking), subst (λ f. HasTokens channels f child) (λ i other. sym (same other) i) tokens);
}

-- no run has begun
pub held-start : (channels : List SchedEdge) (q order fired lengths : List ℕ) (n : ℕ) → order ≡ [] → fired ≡ replicate n 0 → length q ≡ n → length lengths ≡ length channels → ((k : ℕ) → k < length channels → get_or lengths k 0 ≡ (get_or channels k no_channel).initial) → IsRun channels q order × (length fired ≡ length q) × IsCounted fired order × AreSmall fired × AreGreatestLengths channels order lengths
held-start channels q order fired lengths n none zeros counted many first = (
  subst (IsRun channels q) (sym none) at_first,
  ap length zeros ∙ length-replicate {A = ℕ} n 0 ∙ sym counted,
  λ child. ap (λ xs. get_or xs child 0) zeros ∙ none-fired n child ∙ ap (λ o. firings o child) (sym none),
  λ child. omega (arith, ap (λ xs. get_or xs child 0) zeros ∙ none-fired n child),
  subst (λ o. AreGreatestLengths channels o lengths) (sym none) (record {
    counted = many;
    greatest = λ k d short. greatest-start (get_or channels k d) (get_or lengths k 0) (first k short ∙ ap (λ (c : SchedEdge). c.initial) (get_or_default channels k no_channel d short));
  }),
)

-- the run after some firings
pub held-fired : (channels : List SchedEdge) (q order order' fired fired' lengths' : List ℕ) (child times : ℕ) → sum q ≤ 1000000 → IsRun channels q order → IsCounted fired order → length fired ≡ length q → IsReadyFor channels q (λ other. get_or fired other 0) child times → order' ≡ order ++ replicate times child → IsCounted fired' (order ++ replicate times child) → length fired' ≡ length fired → AreGreatestLengths channels (order ++ replicate times child) lengths' → IsRun channels q order' × (length fired' ≡ length q) × IsCounted fired' order' × AreSmall fired' × AreGreatestLengths channels order' lengths'
held-fired channels q order order' fired fired' lengths' child times small run same counted ready longer more long greatest =
    let next : IsRun channels q (order ++ replicate times child) = run-more channels q order fired child times run same ready in (
      subst (IsRun channels q) (sym longer) next,
      long ∙ counted,
      subst (IsCounted fired') (sym longer) more,
      small-run channels q (order ++ replicate times child) fired' small next more,
      subst (λ o. AreGreatestLengths channels o lengths') (sym longer) greatest,
    )
