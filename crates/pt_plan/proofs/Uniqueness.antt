-- An inside has one plan, and then no fault but a limit.
use Rattle.std.proofs.Common.{◌≡◌, ℕ, List, ◌++◌, length, take, drop, ap, sym, subst, ◌∙◌, refl}
use Rattle.std.proofs.lemmas.List.{take_at, drop_at}
use Rattle.pt_rates.proofs.Uniqueness.{unique, excludes}
use Rattle.pt_sched.specs.Runs.{IsSchedule}
use Rattle.pt_plan.specs.Channels.{nodes_of, edges_of, between}
use Rattle.pt_plan.specs.Fault.{IsPastLimit, firings, tokens}
use Rattle.pt_plan.specs.Laws.{PlansAreUnique, PlansExcludeFaults}
use Rattle.pt_plan.specs.PlanOf.{repetitions_of, IsPlanOf, IsWithinLimits}
use Rattle.pt_plan.specs.declared.inside.Inside.{Inside}
use Rattle.pt_meaning.specs.Sdf.{SdfPlan}

same-parts : (first second xs ys : List ℕ) → length first ≡ length second → first ++ xs ≡ second ++ ys → (first ≡ second) × (xs ≡ ys)
same-parts first second xs ys e h = (
  sym (take_at first xs (length second) e) ∙ ap (λ (l : List ℕ). take (length second) l) h ∙ take_at second ys (length second) refl,
  sym (drop_at first xs (length second) e) ∙ ap (λ (l : List ℕ). drop (length second) l) h ∙ drop_at second ys (length second) refl,
)

pub plans-unique : PlansAreUnique
plans-unique x p q a b =
    let same : p.repetitions ++ (p.takes ++ p.gives) ≡ q.repetitions ++ (q.takes ++ q.gives) = unique (nodes_of x) (edges_of x) (p.repetitions ++ (p.takes ++ p.gives)) (q.repetitions ++ (q.takes ++ q.gives)) a.solution b.solution in
    let r : (p.repetitions ≡ q.repetitions) × (p.takes ++ p.gives ≡ q.takes ++ q.gives) = same-parts p.repetitions q.repetitions (p.takes ++ p.gives) (q.takes ++ q.gives) (a.repetitions ∙ sym b.repetitions) same in
    let s : (p.takes ≡ q.takes) × (p.gives ≡ q.gives) = same-parts p.takes q.takes p.gives q.gives (a.takes ∙ sym b.takes) r.1 in
    λ i. record { net = (a.net ∙ sym b.net) i; repetitions = r.0 i; takes = s.0 i; gives = s.1 i; rates = (a.rates ∙ sym b.rates) i }

pub plans-exclude : PlansExcludeFaults
plans-exclude = record {
  rates = λ x p a fault. fault (repetitions_of p) a.solution.solution;
  deadlock = λ x p a fault.
      let same : repetitions_of p ≡ fault.q = unique (nodes_of x) (edges_of x) (repetitions_of p) fault.q a.solution fault.least in
      let firings : p.repetitions ≡ take (length x.places) fault.q = sym (take_at p.repetitions (p.takes ++ p.gives) (length x.places) a.repetitions) ∙ ap (λ (l : List ℕ). take (length x.places) l) same in
      fault.none a.schedule.0 (subst (λ (r : List ℕ). IsSchedule (between x) r a.schedule.0) firings a.schedule.1);
  limit = within;
}
  where
    within : (x : Inside) (p : SdfPlan) → IsPlanOf x p → IsWithinLimits x p → IsPastLimit x → ⊥
    within x p a w (firings total h) = excludes.sums (nodes_of x) (edges_of x) (repetitions_of p) total a.solution w.firings h
    within x p a w (tokens q channel least h) = excludes.tokens (nodes_of x) (edges_of x) (repetitions_of p) q channel a.solution w.tokens least h
