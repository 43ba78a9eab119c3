-- The SDF composite that is built is fresh, and it is the one of the definitions.
use Rattle.std.proofs.Common.{◌≡◌, ℕ, ◌+◌, ◌≤◌, List, [], ◌∷◌, ◌++◌, length, map, None, refl, sym, ap, ap₂, ◌∙◌, subst, arith}
use Rattle.std.proofs.lemmas.List.{length-map}
use Rattle.pt_meaning.specs.Basics.{Streams}
use Rattle.pt_meaning.specs.Net as net
use Rattle.pt_meaning.specs.Net.{Source}
use Rattle.pt_meaning.specs.NodeFacts.{facts_of}
use Rattle.pt_meaning.specs.Running.{total}
use Rattle.pt_meaning.specs.Start.{first_held, IsAtStart}
use Rattle.pt_meaning.specs.Tree as tree
use Rattle.pt_laws.specs.Heights.{IsFitting}
use Rattle.pt_laws.specs.StartedRuns.{ArePlans}
use Rattle.pt_value.specs.declared.token.Token.{Token}
use Rattle.pt_core.specs.Source.{source_of}
use Rattle.pt_sdf_parts.specs.declared.plan.CorePlan.{CorePlan}
use Rattle.pt_sdf_parts.specs.ByNeed.{needs_of, planned}
use Rattle.pt_sdf.specs.Chain.{IsFor}
use Rattle.pt_sdf.specs.Clauses.{State}
use Rattle.pt_sdf_parts.specs.Plan.{plan_of}
use Rattle.pt_sdf.specs.SdfActs.{Fits, AllSteady}
use Rattle.pt_sdf.specs.State.{started}
use Rattle.pt_plan.specs.declared.inside.Inside.{Inside}
use Rattle.pt_plan.specs.Inside.{IsInside}
use Rattle.pt_plan.specs.declared.planning.PlanFault.{PlanFault}
use Rattle.pt_plan.specs.Fault.{FaultStands}
use Rattle.pt_plan.specs.PlanOf.{IsPlanOf, IsWithinLimits}
use Rattle.pt_plan.specs.Unfed.{own, unfed, sources_of, no_tokens, first_of}
use Rattle.pt_plan.proofs.UnfedLaws.{sources-long}
use Rattle.pt_library.specs.LibraryActor.{rows}
use Rattle.pt_directors.specs.Directors.{of_sdf}
use Rattle.pt_past.specs.Recorded.{RecordedPort}
use Rattle.pt_node.specs.Shown.{Shown, all_of}
use Rattle.pt_node.specs.View.{Tree, node_of, nodes_of}
use Rattle.pt_trees.specs.Around.{Around}
use Rattle.pt_trees.specs.Sdf.{sdf, first_counts, IsInsideOf}
use Rattle.pt_trees.specs.Fresh.{AreEmpty, AllFresh}
use Rattle.pt_trees.specs.declared.composite_fault.CompositeFault.{CompositeFault}
use Rattle.pt_trees.specs.declared.composite_fault.CompositeFault.TheVariants.{Unbuilt, Refused, Memory}
use Rattle.pt_trees.specs.Composite.{trees_of, IsComposed, IsUncomposed}
use Rattle.pt_composite_node.specs.Nodes.{built}
use Rattle.pt_flow_composites.specs.Unplanned.{IsToldAs}
use Rattle.pt_flow_composites.proofs.ChildLaws.{all-steady}
use Rattle.pt_trees.proofs.FreshLaws.{list-again, nodes-list, nodes-are, all-fit, all-start, all-fitting, all-plans, all-unrecorded}
use Rattle.pt_trees.proofs.NeedLaws.{needs-length, planned-length}
use Rattle.pt_inside.proofs.HeldLaws.{held-length, held-append}
use Rattle.pt_trees.proofs.NodeLaws.{map-append}

-- ---- first tokens

-- a channel of an own input holds nothing at first
own-held : (kids : List Tree) (ports : List ℕ) → map (λ (xs : List Token). length xs) (first_held rows kids (map source_of (map own ports))) ≡ map no_tokens ports
own-held kids [] = refl
own-held kids (port ∷ ports) = ap (λ v. 0 ∷ v) (own-held kids ports)

-- the first tokens of the plan's channels are as many as it says
pub first-counted : (around : Around) (kids : List Tree) (x : Inside) (sources : List Source) → IsInsideOf around kids x → sources ≡ map source_of (sources_of x) → map (λ (xs : List Token). length xs) (first_held rows kids sources) ≡ first_of x
first-counted around kids x sources is e =
    let xs : List Source = map source_of x.sources.items in
    let ys : List Source = map source_of (map own (unfed x)) in
    let first : first_counts kids xs ≡ x.first = ap (first_counts kids) is.sources ∙ sym is.first in
    ap (first_counts kids) (e ∙ map-append source_of x.sources.items (map own (unfed x))) ∙ ap (map (λ (ts : List Token). length ts)) (held-append rows kids xs ys) ∙
    map-append (λ (ts : List Token). length ts) (first_held rows kids xs) (first_held rows kids ys) ∙ ap₂ (λ (v w : List ℕ). v ++ w) first (own-held kids (unfed x))

-- ---- no plan

-- a fault of the plan is told as it is to be
pub fault-stands : (around : Around) (kids : List Shown) (x : Inside) (fault : PlanFault) (answer : CompositeFault) → IsInsideOf around (trees_of kids) x → FaultStands x fault → IsToldAs fault answer → IsUncomposed sdf around kids answer
fault-stands around kids x fault Unbuilt is stands told = absurd told
fault-stands around kids x fault (Refused code) is stands told = record { inside = x; is_inside = is; fault = fault; stands = stands; code_is = told }
fault-stands around kids x fault Memory is stands told = tt

-- ---- the composite

module _ (around : Around) (kids : List Shown) (path : List ℕ) (records : List RecordedPort) (labels : List (List ℕ)) (x : Inside) (p : CorePlan) (first : Streams Token) (is : IsInsideOf around (trees_of kids) x) (formed : IsInside x) (plan : IsPlanOf x (plan_of p)) (limits : IsWithinLimits x (plan_of p)) (needs : p.needs ≡ x.needs)
    (held : first ≡ first_held rows (trees_of kids) (plan_of p).net.sources) (fresh : AllFresh kids) (empty : AreEmpty records) where
  abbrev core : State
  core = started (plan_of p) p.needs first

  abbrev made : Shown
  made = built (of_sdf core) None kids path records labels

  sources-are : (plan_of p).net.sources ≡ map source_of (sources_of x)
  sources-are = ap (λ (n : net.Net). n.sources) plan.net

  places-in : p.places ≡ x.places
  places-in = ap (λ (n : net.Net). n.places) plan.net

  places-are : p.places ≡ around.places
  places-are = places-in ∙ is.places

  many : length p.places ≡ length x.places
  many = ap (λ (v : List ℕ). length v) places-in

  long : length first ≡ length (plan_of p).net.sources
  long = ap (λ (v : Streams Token). length v) held ∙ held-length rows (trees_of kids) (plan_of p).net.sources

  counted : length (plan_of p).net.sources ≡ length x.sources.items + length (unfed x)
  counted = ap (λ (v : List Source). length v) sources-are ∙ length-map (sources_of x) source_of ∙ sources-long x

  enough : total p.places ≤ length (plan_of p).net.sources
  enough = omega (arith, formed.channels, counted, ap (λ (v : List ℕ). total v) places-in)

  needs-are : needs_of (facts_of rows) (trees_of kids) ≡ planned p.places p.needs
  needs-are = is.needs ∙ ap₂ (λ v w. planned v w) (sym places-are) (sym needs)

  fits : IsFor (facts_of rows) core (tree.list_of (nodes_of (all_of kids)))
  fits = record {
    repetitions = plan.repetitions ∙ sym many;
    rates = ap (λ (v : List (List ℕ)). length v) plan.rates ∙ formed.rated ∙ sym many;
    channels = omega (arith, enough, long);
    needs = subst (λ (v : List Tree). needs_of (facts_of rows) v ≡ planned p.places p.needs) (sym (nodes-list kids)) needs-are;
  }

  ready : Fits rows core (tree.list_of (nodes_of (all_of kids)))
  ready = record {
    idle = refl;
    fitting = fits;
    starts = omega (arith, enough, long);
    steady = subst (λ (v : List Tree). AllSteady rows v) (sym (nodes-list kids)) (all-steady kids fresh is.steady);
  }

  entries : length p.places ≡ length (tree.list_of (nodes_of (all_of kids)))
  entries = sym (planned-length p.places p.needs) ∙ sym (ap (λ v. length v) fits.needs) ∙ needs-length (facts_of rows) (tree.list_of (nodes_of (all_of kids)))

  node : node_of made ≡ tree.composite (tree.Sdf (plan_of p) (first_held rows (trees_of kids) (plan_of p).net.sources)) (trees_of kids)
  node = ap₂ (λ (v : Streams Token) ks. tree.Composite tree.unfired (tree.Sdf (plan_of p) v) (tree.Sdf (plan_of p) v) ks) held (nodes-are kids)

  start : IsAtStart rows (node_of made)
  start = (refl, refl, subst (λ (v : List Tree). first ≡ first_held rows v (plan_of p).net.sources) (sym (nodes-list kids)) held, all-start kids fresh)

  fitting : IsFitting (node_of made)
  fitting =
      let has : (length p.places ≡ length (tree.list_of (nodes_of (all_of kids)))) × (length p.repetitions ≡ length (tree.list_of (nodes_of (all_of kids)))) × (length p.rates.items ≡ length (tree.list_of (nodes_of (all_of kids)))) = (entries, fits.repetitions ∙ entries, fits.rates ∙ entries) in
      (has, has, all-fitting kids fresh)

  plans : ArePlans (node_of made)
  plans = (enough, all-plans kids fresh)

  pub composite-is : IsComposed sdf around kids path records labels made
  composite-is = record {
    core = tree.Sdf (plan_of p) (first_held rows (trees_of kids) (plan_of p).net.sources);
    is_core = record { inside = x; is_inside = is; plan = plan_of p; planned = plan; within = limits; is = refl };
    depths = tt;
    maximum_is = refl;
    node = node;
    children = list-again kids;
    path_is = refl;
    records_are = refl;
    labels_are = refl;
    meetings_are = refl;
    fresh = record { live = refl; fit = (ready, all-fit kids fresh, tt); start = start; fitting = fitting; plans = plans; unrecorded = (empty, tt, all-unrecorded kids fresh) };
  }
