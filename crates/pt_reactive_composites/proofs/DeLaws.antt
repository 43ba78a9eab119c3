-- The DE composite that is built is fresh, and it is the one of the definitions.
use Rattle.std.proofs.Common.{◌≡◌, ◌↔◌, ℕ, zero, suc, List, [], ◌∷◌, length, map, None, Bool, true, false, refl, sym, ap, ap₂, ◌∙◌, subst, arith}
use Rattle.std.specs.List.{All}
use Rattle.pt_meaning.specs.Start.{IsAtStart}
use Rattle.pt_meaning.specs.Tree as tree
use Rattle.pt_meaning.specs.Valuation.{TickPlan}
use Rattle.pt_laws.specs.Heights.{IsFitting}
use Rattle.pt_laws.specs.StartedRuns.{IsWhole}
use Rattle.pt_core.specs.declared.source.Source.{Source}
use Rattle.pt_core.specs.Source.{source_of}
use Rattle.pt_de_laws.specs.DeActs.{State, de_acts}
use Rattle.pt_de_laws.specs.State.{started}
use Rattle.pt_de_plan.specs.declared.planning.DePlan.{DePlan}
use Rattle.pt_de_plan.specs.Inside.{plan_of, roles_of}
use Rattle.pt_library.specs.LibraryActor.{rows}
use Rattle.pt_directors.specs.Directors.{of_de}
use Rattle.pt_past.specs.Recorded.{RecordedPort}
use Rattle.pt_node.specs.Shown.{Shown, all_of}
use Rattle.pt_node.specs.View.{Tree, node_of, nodes_of}
use Rattle.pt_trees.specs.declared.wiring.Wiring.{Wiring}
use Rattle.pt_trees.specs.Around.{Around, around_of}
use Rattle.pt_trees.specs.De.{de, BeginsAtOutput, IsDeWiredIf}
use Rattle.pt_trees.specs.Sr.{tick_plan, IsWired}
use Rattle.pt_trees.specs.Composite.{trees_of, IsComposed}
use Rattle.pt_trees.specs.Fresh.{AreEmpty, AllFresh}
use Rattle.pt_trees.proofs.FreshLaws.{list-again, nodes-list, nodes-are, all-fit, all-start, all-fitting, all-plans, all-unrecorded}
use Rattle.pt_de_inside.specs.Laws.{IsForCore}
use Rattle.pt_de_inside.specs.Planned.{IsPlanOf}
use Rattle.pt_de_inside.proofs.PlannedLaws.{plans-fit}
use Rattle.pt_composite_node.specs.Nodes.{built}

-- ---- the wiring

-- a fact of each source, as one of each as the code has it
begin-from : (kids : List Tree) (sources : List Source) → All (λ (source : Source). BeginsAtOutput kids (source_of source)) sources → All (BeginsAtOutput kids) (map source_of sources)
begin-from kids [] all k d h = absurd (omega (arith, h))
begin-from kids (s ∷ sources) all zero d h = all 0 s (omega arith)
begin-from kids (s ∷ sources) all (suc k) d h = begin-from kids sources (λ j e g. all (suc j) e (omega (arith, g))) k d (omega (arith, h))

begin-to : (kids : List Tree) (sources : List Source) → All (BeginsAtOutput kids) (map source_of sources) → All (λ (source : Source). BeginsAtOutput kids (source_of source)) sources
begin-to kids [] all k d h = absurd (omega (arith, h))
begin-to kids (s ∷ sources) all zero d h = all 0 (source_of s) (omega arith)
begin-to kids (s ∷ sources) all (suc k) d h = begin-to kids sources (λ j e g. all (suc j) e (omega (arith, g))) k d (omega (arith, h))

pub wired-by : (w : Wiring) (kids : List Tree) (begins : Bool) → IsWired (around_of w) kids → ((begins ≡ true) ↔ All (λ (source : Source). BeginsAtOutput kids (source_of source)) w.sources.items) → IsDeWiredIf (around_of w) kids begins
wired-by w kids true wired iff = record { wired = wired; begin = begin-from kids w.sources.items (iff.0 refl) }
wired-by w kids false wired iff = λ is. let t : false ≡ true = iff.1 (begin-to kids w.sources.items is.begin) in cc

-- ---- the composite

module _ (around : Around) (kids : List Shown) (path : List ℕ) (records : List RecordedPort) (labels : List (List ℕ)) (p : DePlan) (plan : IsPlanOf around (trees_of kids) p) (fresh : AllFresh kids) (empty : AreEmpty records) where
  abbrev core : State
  core = started (plan_of p.inside) (roles_of p.inside p.depths.items)

  abbrev made : Shown
  made = built (of_de core) None kids path records labels

  same : plan_of p.inside ≡ tick_plan around
  same = plan.inside.plan

  for_core : IsForCore (trees_of kids) p
  for_core = plans-fit around (trees_of kids) p plan

  node : node_of made ≡ tree.composite (tree.De (tick_plan around)) (trees_of kids)
  node = ap₂ (λ (q : TickPlan) ks. tree.Composite tree.unfired (tree.De q) (tree.De q) ks) same (nodes-are kids)

  start : IsAtStart rows (node_of made)
  start = (refl, refl, tt, all-start kids fresh)

  long : length (plan_of p.inside).net.places ≡ length (tree.list_of (nodes_of (all_of kids)))
  long = ap (λ (q : TickPlan). length q.net.places) same ∙ sym plan.suits.children ∙ ap (λ (v : List Tree). length v) (sym (nodes-list kids))

  fitting : IsFitting (node_of made)
  fitting = (long, long, all-fitting kids fresh)

  whole : IsWhole (plan_of p.inside).net (plan_of p.inside).inputs
  whole = subst (λ (q : TickPlan). IsWhole q.net q.inputs) (sym same) (record { channels = omega (arith, plan.core.wired.wired.channels); there = plan.core.wired.wired.there })

  pub composite-is : IsComposed de around kids path records labels made
  composite-is = record {
    core = tree.De (tick_plan around);
    is_core = plan.core;
    depths = plan.depths;
    maximum_is = refl;
    node = node;
    children = list-again kids;
    path_is = refl;
    records_are = refl;
    labels_are = refl;
    meetings_are = refl;
    fresh = record {
      live = refl;
      fit = (subst (λ (v : List Tree). (de_acts rows).Fits core v) (sym (nodes-list kids)) for_core.fits, all-fit kids fresh, tt);
      start = start;
      fitting = fitting;
      plans = (whole, all-plans kids fresh);
      unrecorded = (empty, tt, all-unrecorded kids fresh);
    };
  }
