-- The plan from the repetition vector, a schedule and the lengths of the channels.
use Rattle.std.proofs.Common.{◌≡◌, ℕ, ◌+◌, ◌-◌, ◌≤◌, List, [], ◌∷◌, ◌++◌, length, get_or, take, drop, map, sum, All, refl, ap, ap₂, sym, subst, ◌∙◌, arith, length-drop}
use Rattle.std.proofs.lemmas.List.{take-append-drop, drop-drop, length-take-le, take_rest}
use Rattle.pt_meaning.specs.Sdf.{SdfPlan}
use Rattle.pt_rates.specs.Balance.{IsRepetitionVector, tokens_on}
use Rattle.pt_rates.specs.declared.edge.Edge.{Edge}
use Rattle.pt_sched.specs.Runs.{IsSchedule, AreGreatestLengths}
use Rattle.pt_sched.specs.declared.edge.SchedEdge.{SchedEdge}
use Rattle.pt_plan.specs.Channels.{nodes_of, channels_of, edges_of, between}
use Rattle.pt_core.specs.Source.{source_of}
use Rattle.pt_core.specs.declared.source.Source.{Source}
use Rattle.pt_plan.specs.Iteration.{IsCut}
use Rattle.pt_plan.specs.PlanOf.{IsPlanOf, IsWithinLimits, put_by, AreRooms}
use Rattle.pt_plan.specs.Unfed.{own, unfed, sources_of}
use Rattle.pt_plan.specs.Rooms.{rooms_of}
use Rattle.pt_plan.specs.declared.inside.Inside.{Inside}
use Rattle.pt_plan.proofs.RoomLaws.{are-rooms}

-- a list in three parts
whole : (q : List ℕ) (a m : ℕ) → take a q ++ (take m (drop a q) ++ drop (a + m) q) ≡ q
whole q a m =
    ap (λ xs. take a q ++ (take m (drop a q) ++ xs)) (sym (drop-drop m a q)) ∙ ap (λ xs. take a q ++ xs) (take-append-drop m (drop a q)) ∙ take-append-drop a q

-- a number for each own input
taken-long : (x : Inside) (q : List ℕ) → length q ≡ nodes_of x → length (take x.inputs (drop (length x.places) q)) ≡ x.inputs
taken-long x q counted = length-take-le {A = ℕ} x.inputs (drop (length x.places) q) (omega (arith, counted, length-drop {A = ℕ} (length x.places) q))

-- the numbers as the planner cuts them
pub is-cut : (x : Inside) (n : ℕ) (q reps takes gives : List ℕ) → n ≡ length x.places → reps ≡ take n q → takes ≡ take (n + x.inputs - n) (drop n q) → gives ≡ take (length q - (n + x.inputs)) (drop (n + x.inputs) q) → IsCut x q reps takes gives
is-cut x n q reps takes gives many r t g =
    let own : length x.places + x.inputs - length x.places ≡ x.inputs = omega arith in
    record {
      children = r ∙ (λ i. take (many i) q);
      inputs = t ∙ (λ i. take (many i + x.inputs - many i) (drop (many i) q)) ∙ ap (λ k. take k (drop (length x.places) q)) own;
      outputs = g ∙ (λ i. take (length q - (many i + x.inputs)) (drop (many i + x.inputs) q)) ∙ take_rest q (length x.places + x.inputs);
    }

-- the room of a channel that ends nowhere is what an iteration puts there
kept-same : (x : Inside) (q ports : List ℕ) → map (λ port. get_or q (length x.places + port) 0) ports ≡ map (λ port. put_by x q (own port)) ports
kept-same x q [] = refl
kept-same x q (port ∷ ports) =
    let one : get_or q (length x.places + port) 0 ≡ put_by x q (own port) = omega arith in
    ap₂ (λ v vs. v ∷ vs) one (kept-same x q ports)

module _ (x : Inside) (q order reps takes gives : List ℕ) (cut : IsCut x q reps takes gives) where
  abbrev planned : List Source → SdfPlan
  planned sources = record { net = record { sources = map source_of sources; places = x.places }; repetitions = reps; takes = takes; gives = gives; rates = x.rates.items }

  parts : reps ++ (takes ++ gives) ≡ q
  parts = (λ i. cut.children i ++ (cut.inputs i ++ cut.outputs i)) ∙ whole q (length x.places) x.inputs

  pub schedule-is : IsSchedule (between x) (take (length x.places) q) order → IsSchedule (between x) reps order
  schedule-is schedule = subst (λ (rs : List ℕ). IsSchedule (between x) rs order) (sym cut.children) schedule

  pub plan-is : (sources : List Source) → sources ≡ sources_of x → IsRepetitionVector (nodes_of x) (edges_of x) q → IsSchedule (between x) (take (length x.places) q) order → IsPlanOf x (planned sources)
  plan-is sources e least schedule =
      let counted : length q ≡ length x.places + x.inputs + x.outputs = least.solution.counted in
      record {
        net = ap (λ (v : List Source). record { sources = map source_of v; places = x.places }) e;
        rates = refl;
        repetitions = ap (λ (xs : List ℕ). length xs) cut.children ∙ length-take-le {A = ℕ} (length x.places) q (omega (arith, counted));
        takes = ap (λ (xs : List ℕ). length xs) cut.inputs ∙ taken-long x q counted;
        gives = omega (arith, counted, ap (λ (xs : List ℕ). length xs) cut.outputs, length-drop {A = ℕ} (length x.places + x.inputs) q);
        solution = subst (IsRepetitionVector (nodes_of x) (edges_of x)) (sym parts) least;
        schedule = (order, schedule-is schedule);
      }

  pub limits-are : (sources : List Source) → sum q ≤ 1000000 → All (λ (edge : Edge). tokens_on q edge ≤ 1000000) (edges_of x) → IsWithinLimits x (planned sources)
  limits-are sources firings tokens = record {
    firings = subst (λ (xs : List ℕ). sum xs ≤ 1000000) (sym parts) firings;
    tokens = subst (λ (xs : List ℕ). All (λ (edge : Edge). tokens_on xs edge ≤ 1000000) (edges_of x)) (sym parts) tokens;
  }

  pub rooms-is : (q' lengths lengths' room : List ℕ) (channels : List SchedEdge) → room ≡ rooms_of (length x.places) q' channels lengths' ++ map (λ port. get_or q' (length x.places + port) 0) (unfed x) → q' ≡ q → channels ≡ channels_of x → lengths' ≡ lengths → AreGreatestLengths (between x) order lengths → AreRooms x order (reps ++ (takes ++ gives)) room
  rooms-is q' lengths lengths' room channels e eq ec el greatest =
      let all : List ℕ = reps ++ (takes ++ gives) in
      let same : room ≡ rooms_of (length x.places) all (channels_of x) lengths ++ map (λ port. get_or all (length x.places + port) 0) (unfed x) =
      e ∙ (λ i. rooms_of (length x.places) (eq i) (ec i) (el i) ++ map (λ port. get_or (eq i) (length x.places + port) 0) (unfed x)) ∙ ap (λ (v : List ℕ). rooms_of (length x.places) v (channels_of x) lengths ++ map (λ port. get_or v (length x.places + port) 0) (unfed x)) (sym parts)
      in
      are-rooms x order all room lengths (same ∙ ap (λ (v : List ℕ). rooms_of (length x.places) all (channels_of x) lengths ++ v) (kept-same x all (unfed x))) greatest
