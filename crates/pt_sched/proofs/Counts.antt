-- How often each child fires in an order.
use Rattle.std.proofs.Common.{◌≡◌, ℕ, zero, suc, ◌+◌, ◌*◌, ◌<◌, ◌≤◌, inl, inr, cond, eqb, List, [], ◌∷◌, ◌++◌, get_or, replicate, sym, ap, subst, ◌∙◌, arith, eq-eqb}
use Rattle.std.proofs.lemmas.Bool.{cases_eq, ne_eqb}
use Rattle.std.proofs.lemmas.List.{append_assoc, append-nil}
use Rattle.std.proofs.lemmas.List.Sums.{sum_by_push}
use Rattle.std.proofs.Math.Nat.{mul-le-mul_right}
use Rattle.pt_sched.specs.Runs.{firings, put_on, taken_from, IsRun, at_first, fires}
use Rattle.pt_sched.specs.declared.edge.SchedEdge.{SchedEdge}

pub firings-push : (order : List ℕ) (child other : ℕ) → firings (order ++ child ∷ []) other ≡ firings order other + cond (eqb child other) 1 0
firings-push order child other = sum_by_push (λ c. cond (eqb c other) 1 0) order child

pub firings-push_same : (order : List ℕ) (child other : ℕ) → child ≡ other → firings (order ++ child ∷ []) other ≡ firings order other + 1
firings-push_same order child other e = firings-push order child other ∙ ap (λ b. firings order other + cond b 1 0) (eq-eqb child other e)

pub firings-push_other : (order : List ℕ) (child other : ℕ) → (child ≡ other → ⊥) → firings (order ++ child ∷ []) other ≡ firings order other
firings-push_other order child other d = firings-push order child other ∙ ap (λ b. firings order other + cond b 1 0) (ne_eqb child other d) ∙ (let none : firings order other + 0 ≡ firings order other = omega arith in none)

pub firings-push_le : (order : List ℕ) (child other : ℕ) → firings order other ≤ firings (order ++ child ∷ []) other
firings-push_le order child other = elim (cases_eq child other) [
  | inl e ↦ omega (arith, firings-push_same order child other e)
  | inr d ↦ omega (arith, firings-push_other order child other d)
]

-- a child fires so many times, of which one comes first
pub one-first : (order : List ℕ) (child times : ℕ) → (order ++ child ∷ []) ++ replicate times child ≡ order ++ replicate (suc times) child
one-first order child times = append_assoc order (child ∷ []) (replicate times child)

pub firings-times_same : (order : List ℕ) (child other times : ℕ) → child ≡ other → firings (order ++ replicate times child) other ≡ firings order other + times
firings-times_same order child other zero e = ap (λ xs. firings xs other) (append-nil order) ∙ (let none : firings order other ≡ firings order other + 0 = omega arith in none)
firings-times_same order child other (suc times) e =
    let rest = firings-times_same (order ++ child ∷ []) child other times e in
    ap (λ xs. firings xs other) (sym (one-first order child times)) ∙ rest ∙ (let more : firings (order ++ child ∷ []) other + times ≡ firings order other + suc times = omega (arith, firings-push_same order child other e) in more)

pub firings-times_other : (order : List ℕ) (child other times : ℕ) → (child ≡ other → ⊥) → firings (order ++ replicate times child) other ≡ firings order other
firings-times_other order child other zero d = ap (λ xs. firings xs other) (append-nil order)
firings-times_other order child other (suc times) d = ap (λ xs. firings xs other) (sym (one-first order child times)) ∙ firings-times_other (order ++ child ∷ []) child other times d ∙ firings-push_other order child other d

-- what each of these firings puts on a channel, and takes from it
abbrev pub puts_each : SchedEdge → ℕ → ℕ
puts_each channel child = cond (eqb child channel.edge.from) channel.edge.produced 0

abbrev pub takes_each : SchedEdge → ℕ → ℕ
takes_each channel child = cond (eqb child channel.edge.to) channel.edge.consumed 0

pub put_on-times : (channel : SchedEdge) (order : List ℕ) (child times : ℕ) → put_on channel (firings (order ++ replicate times child)) ≡ put_on channel (firings order) + times * puts_each channel child
put_on-times channel order child times = elim (cases_eq child channel.edge.from) [
  | inl e ↦ omega (arith, ap (λ n. n * channel.edge.produced) (firings-times_same order child channel.edge.from times e), ap (λ b. times * cond b channel.edge.produced 0) (eq-eqb child channel.edge.from e))
  | inr d ↦ omega (arith, ap (λ n. n * channel.edge.produced) (firings-times_other order child channel.edge.from times d), ap (λ b. times * cond b channel.edge.produced 0) (ne_eqb child channel.edge.from d))
]

pub taken_from-times : (channel : SchedEdge) (order : List ℕ) (child times : ℕ) → taken_from channel (firings (order ++ replicate times child)) ≡ taken_from channel (firings order) + times * takes_each channel child
taken_from-times channel order child times = elim (cases_eq child channel.edge.to) [
  | inl e ↦ omega (arith, ap (λ n. n * channel.edge.consumed) (firings-times_same order child channel.edge.to times e), ap (λ b. times * cond b channel.edge.consumed 0) (eq-eqb child channel.edge.to e))
  | inr d ↦ omega (arith, ap (λ n. n * channel.edge.consumed) (firings-times_other order child channel.edge.to times d), ap (λ b. times * cond b channel.edge.consumed 0) (ne_eqb child channel.edge.to d))
]

-- more firings put and take no less
pub put_on-le : (channel : SchedEdge) (f g : ℕ → ℕ) → f channel.edge.from ≤ g channel.edge.from → put_on channel f ≤ put_on channel g
put_on-le channel f g h = omega (arith, mul-le-mul_right channel.edge.produced h)

pub taken_from-le : (channel : SchedEdge) (f g : ℕ → ℕ) → f channel.edge.to ≤ g channel.edge.to → taken_from channel f ≤ taken_from channel g
taken_from-le channel f g h = mul-le-mul_right channel.edge.consumed h

-- in a run no child fires more often than q says
pub run-bounded : (channels : List SchedEdge) (q : List ℕ) {order : List ℕ} → IsRun channels q order → (child : ℕ) → firings order child ≤ get_or q child 0
run-bounded channels q at_first child = omega arith
run-bounded channels q (fires order c r lacking tokens) child = elim (cases_eq c child) [
  | inl e ↦ omega (arith, firings-push_same order c child e, subst (λ k. firings order k < get_or q k 0) e lacking)
  | inr d ↦ omega (arith, firings-push_other order c child d, run-bounded channels q r child)
]
