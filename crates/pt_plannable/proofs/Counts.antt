-- What actors, cores and declarations count: each needs and gives from 1 to 1,000,000 tokens.
use Rattle.std.proofs.Common.{◌≡◌, inl, inr, ℕ, zero, suc, List, [], ◌∷◌, ◌++◌, true, Option, Some, None, replicate, sym, ap, subst, ◌∙◌, arith}
use Rattle.std.specs.Prelude.{option_map, IfSome}
use Rattle.std.specs.List.{AllByRecursion, All}
use Rattle.std.proofs.lemmas.List.Elements.{recursion_from_All}
use Rattle.std.proofs.lemmas.List.Sums.{get_or-le-sum_by}
use Rattle.std.proofs.lemmas.Option.{none-some, same_Some}
use Rattle.pt_meaning.specs.Machine.{Need, Counts}
use Rattle.pt_meaning.specs.Sdf.{SdfPlan}
use Rattle.pt_flow_base.specs.declared.params.Params.{Params}
use Rattle.pt_flow_base.specs.Rates as flow_rates
use Rattle.pt_lib_flow.specs.FlowActor as flow_actor
use Rattle.pt_lib_flow.proofs.Bounds as flow_bounds
use Rattle.pt_lib_data.specs.DataActor as data_actor
use Rattle.pt_lib_data.specs.Laws as data_laws
use Rattle.pt_lib_data.proofs.Bounds as data_bounds
use Rattle.pt_lib_time.specs.TimeActor as time_actor
use Rattle.pt_lib_timed.specs.TimedActor as timed_actor
use Rattle.pt_library.specs.declared.library_actor.LibraryActor.{LibraryActor}
use Rattle.pt_library.specs.declared.library_actor.LibraryActor.TheVariants.{Flow, Data, Time, Timed}
use Rattle.pt_library.specs.LibraryActor as library
use Rattle.pt_order.proofs.Blocks.{all-by}
use Rattle.pt_plan.specs.declared.inside.Inside.{Inside}
use Rattle.pt_plan.specs.Inside.{IsRate}
use Rattle.pt_plan.specs.PlanOf.{repetitions_of, IsPlanOf, IsWithinLimits}
use Rattle.pt_stated.specs.Laws as stated_laws
use Rattle.pt_typed.proofs.PortFacts.{all-front, all-back}
use Rattle.pt_typed.proofs.RowsMet.{one-of-four}

-- each of these numbers is one of tokens that a firing may move
abbrev pub AreRates : List ℕ → Type 0
AreRates ns = AllByRecursion IsRate ns

pub ones-rates : (n : ℕ) → AreRates (replicate n 1)
ones-rates zero = tt
ones-rates (suc n) = ((omega arith, omega arith), ones-rates n)

of-count : (n : ℕ) → flow_rates.IsCount n → IsRate n
of-count n h = let least = h.least in let most = h.most in (omega (arith, least), most)

of-stated : (n : ℕ) → stated_laws.IsRate n → IsRate n
of-stated n h = let least = h.least in let most = h.most in (omega (arith, least), most)

of-data : (n : ℕ) → data_laws.IsRate n → IsRate n
of-data n h = let least = h.0 in let most = h.1 in (omega (arith, least), most)

pub stated-rates : (ns : List ℕ) → All stated_laws.IsRate ns → AreRates ns
stated-rates ns h = all-by stated_laws.IsRate IsRate of-stated ns (recursion_from_All stated_laws.IsRate ns h)

-- ---- actors

counts-same : (ms ns : List ℕ) → Counts ms ≡ Counts ns → ms ≡ ns
counts-same ms ns e = cc

counted-rates : (need : Need) (ns : List ℕ) → flow_rates.IsCounted need → need ≡ Counts ns → AreRates ns
counted-rates need ns h e = all-by flow_rates.IsCount IsRate of-count ns (subst flow_rates.IsCounted e h)

one-rates : (o : Option ℕ) (rs : List ℕ) → IfSome o flow_rates.IsCount → option_map (λ n. n ∷ []) o ≡ Some rs → AreRates rs
one-rates None rs h e = absurd (none-some rs e)
one-rates (Some n) rs h e = subst AreRates (same_Some (n ∷ []) rs e) (of-count n h, tt)

-- a steady actor whose rates don't vary, once it is started, needs such numbers
pub actor-needs : (params : Params) (a : LibraryActor) (ns : List ℕ) → library.start params ≡ Some a → library.is_steady a ≡ true → (library.rates a ≡ None → ⊥) → library.need a ≡ Counts ns → AreRates ns
actor-needs params a ns started steady rated needs = elim (one-of-four Flow Data Time Timed (flow_actor.start params) (data_actor.start params.class params.values params.ports) (time_actor.start params) (timed_actor.start params) a started) [
  | inl w ↦ counted-rates (flow_actor.need w.0) ns (flow_bounds.started-needs params w.0 w.1 (ap library.is_steady w.2 ∙ steady)) (ap library.need w.2 ∙ needs)
  | inr (inl w) ↦ (
      let same : w.0.needed ≡ ns = counts-same w.0.needed ns (ap library.need w.2 ∙ needs) in
      subst AreRates same (all-by data_laws.IsRate IsRate of-data w.0.needed (data_bounds.needs-bounded params.class params.values params.ports w.0 w.1)))
  | inr (inr (inl w)) ↦ absurd (rated (sym (ap library.rates w.2)))
  | inr (inr (inr w)) ↦ absurd (rated (sym (ap library.rates w.2)))
]

-- and gives such
pub actor-rates : (params : Params) (a : LibraryActor) (rs : List ℕ) → library.start params ≡ Some a → library.rates a ≡ Some rs → AreRates rs
actor-rates params a rs started rated = elim (one-of-four Flow Data Time Timed (flow_actor.start params) (data_actor.start params.class params.values params.ports) (time_actor.start params) (timed_actor.start params) a started) [
  | inl w ↦ one-rates (flow_actor.rate w.0) rs (flow_bounds.started-gives params w.0 w.1) (ap library.rates w.2 ∙ rated)
  | inr (inl w) ↦ (
      let same : data_actor.rates w.0 ≡ rs = same_Some (data_actor.rates w.0) rs (ap library.rates w.2 ∙ rated) in
      subst AreRates same (all-by data_laws.IsRate IsRate of-data (data_actor.rates w.0) (data_bounds.rates-bounded params.class params.values params.ports w.0 w.1)))
  | inr (inr (inl w)) ↦ absurd (none-some rs (ap library.rates w.2 ∙ rated))
  | inr (inr (inr w)) ↦ absurd (none-some rs (ap library.rates w.2 ∙ rated))
]

-- ---- plans

-- the numbers of a plan within the limits are such
plan-rates : (x : Inside) (p : SdfPlan) → IsPlanOf x p → IsWithinLimits x p → AreRates (repetitions_of p)
plan-rates x p plan within =
    let all : All IsRate (repetitions_of p) = (λ k d h. (plan.solution.solution.positive k d h, (let one = get_or-le-sum_by (λ n. n) (repetitions_of p) k d h in let most = within.firings in omega (arith, one, most)))) in
    recursion_from_All IsRate (repetitions_of p) all

own-rates : (x : Inside) (p : SdfPlan) → IsPlanOf x p → IsWithinLimits x p → AreRates (p.takes ++ p.gives)
own-rates x p plan within = all-back IsRate p.repetitions (p.takes ++ p.gives) (plan-rates x p plan within)

pub takes-rates : (x : Inside) (p : SdfPlan) → IsPlanOf x p → IsWithinLimits x p → AreRates p.takes
takes-rates x p plan within = all-front IsRate p.takes p.gives (own-rates x p plan within)

pub gives-rates : (x : Inside) (p : SdfPlan) → IsPlanOf x p → IsWithinLimits x p → AreRates p.gives
gives-rates x p plan within = all-back IsRate p.takes p.gives (own-rates x p plan within)
