-- The SR composite that is built is fresh, and it is the one of the definitions.
use Rattle.std.proofs.Common.{◌≡◌, ℕ, zero, suc, List, [], ◌∷◌, length, map, None, get_or, Bool, true, false, not, Some, refl, sym, ap, ◌∙◌, subst, arith}
use Rattle.pt_meaning.specs.NodeFacts.{facts_of, core_need}
use Rattle.pt_meaning.specs.Start.{IsAtStart}
use Rattle.pt_meaning.specs.Streams.{get}
use Rattle.pt_meaning.specs.Tree as tree
use Rattle.pt_meaning.specs.Tree.{Core, Past, Nodes, Actor, Composite}
use Rattle.pt_laws.specs.Heights.{IsFitting}
use Rattle.pt_laws.specs.StartedRuns.{IsWhole}
use Rattle.pt_value.specs.declared.token.Token.{Token}
use Rattle.pt_core.specs.Reached.{Always, AllAlways}
use Rattle.pt_core.proofs.ReachedLaws as reached
use Rattle.pt_sr.specs.Clauses.{State}
use Rattle.pt_sr.specs.Chain.{IsStrict}
use Rattle.pt_sr.specs.SrActs.{IsStrictIf, HasPlaces, Suits}
use Rattle.pt_sr.specs.State.{started}
use Rattle.pt_library.specs.declared.library_actor.LibraryActor.{LibraryActor}
use Rattle.pt_library.specs.LibraryActor as library
use Rattle.pt_library.specs.LibraryActor.{rows}
use Rattle.pt_library.proofs.StrictLaws.{told-strict}
use Rattle.pt_directors.specs.Directors.{of_sr}
use Rattle.pt_past.specs.Recorded.{RecordedPort}
use Rattle.pt_node.specs.Shown.{Shown, all_of}
use Rattle.pt_node.specs.View.{Tree, node_of, nodes_of}
use Rattle.pt_trees.specs.Around.{Around}
use Rattle.pt_trees.specs.Sr.{sr, tick_plan, IsWired}
use Rattle.pt_trees.specs.Composite.{trees_of, IsComposed}
use Rattle.pt_trees.specs.Fresh.{AreEmpty, AllFresh}
use Rattle.pt_composite_node.specs.Nodes.{built}
use Rattle.pt_wired.specs.Nonstrict.{is_nonstrict}
use Rattle.pt_trees.proofs.ChildLaws.{actor-always, placed-child}
use Rattle.pt_trees.proofs.FreshLaws.{list-again, nodes-list, nodes-are, all-fit, all-start, all-fitting, all-plans, all-unrecorded, start-at}
use Rattle.pt_trees.proofs.NeedLaws.{needs-length, planned-length, need-at, get-length}
use Rattle.pt_trees.proofs.NodeLaws.{get-at}

-- ---- a child, whatever it fires

false-not : (b : Bool) → false ≡ not b → b ≡ true
false-not true e = refl
false-not false e = cc

-- a composite gives nothing early
quiet : (h : Past) (c d : Core Token) (kids : Nodes Token LibraryActor) → core_need c ≡ core_need d → Always rows (λ node. IsStrict (facts_of rows) node) (Composite h c d kids)
quiet h c d kids same later t =
    let i = reached.composite-becomes rows (Composite h c d kids) later t h c d kids refl same in
    subst (λ (node : Tree). IsStrict (facts_of rows) node) (sym i.is) (λ tag vs k port. refl)

strict-child : (kid : Tree) → IsAtStart rows kid → false ≡ is_nonstrict kid → Always rows (λ node. IsStrict (facts_of rows) node) kid
strict-child (Actor h a b) start e =
    let strict = told-strict a (ap library.is_strict (sym start.1) ∙ false-not (library.is_strict b) e) in
    actor-always h a b start.1 (λ node. IsStrict (facts_of rows) node) (λ fs past c g tag vs k port. strict fs c g tag vs k port)
strict-child (Composite h c d kids) start e = quiet h c d kids (ap core_need (sym start.1))

strict-if : (nonstrict : Bool) (kid : Tree) → IsAtStart rows kid → nonstrict ≡ is_nonstrict kid → Always rows (λ node. IsStrictIf rows nonstrict node) kid
strict-if true kid start e = λ later t. tt
strict-if false kid start e = strict-child kid start e

-- ---- the children of a composite

flag-at : (kids : List Tree) (i : ℕ) (kid : Tree) → get kids i ≡ Some kid → get_or (map is_nonstrict kids) i false ≡ is_nonstrict kid
flag-at [] i kid e = absurd (cc)
flag-at (k ∷ kids) zero kid e = let same : k ≡ kid = cc in ap is_nonstrict same
flag-at (k ∷ kids) (suc i) kid e = flag-at kids i kid e

module _ (around : Around) (kids : List Shown) (path : List ℕ) (records : List RecordedPort) (labels : List (List ℕ)) (wired : IsWired around (trees_of kids)) (fresh : AllFresh kids) (empty : AreEmpty records) where
  abbrev core : State
  core = started (tick_plan around) (map is_nonstrict (trees_of kids))

  abbrev made : Shown
  made = built (of_sr core) None kids path records labels

  entries : length (trees_of kids) ≡ length around.places
  entries = sym (needs-length (facts_of rows) (trees_of kids)) ∙ ap (λ v. length v) wired.needed ∙ planned-length around.places wired.needs

  strict-each : AllAlways rows (λ i node. IsStrictIf rows (get_or (map is_nonstrict (trees_of kids)) i false) node) (trees_of kids)
  strict-each i kid e = strict-if (get_or (map is_nonstrict (trees_of kids)) i false) kid (start-at kids fresh i kid e) (flag-at (trees_of kids) i kid e)

  placed-each : AllAlways rows (λ i node. HasPlaces rows (get_or around.places i 0) node) (trees_of kids)
  placed-each i kid e =
      let h = get-length (trees_of kids) i kid e in
      let n = need-at (facts_of rows) (trees_of kids) around.places wired.needs wired.needed wired.counted i kid (get_or around.places i 0) e (get-at around.places i 0 (omega (arith, h, entries))) in
      placed-child (get_or around.places i 0) kid (start-at kids fresh i kid e) n.0 n.1 n.2

  suits : Suits rows (tick_plan around) (map is_nonstrict (trees_of kids)) (trees_of kids)
  suits = record { children = entries; channels = omega (arith, wired.channels); strict = strict-each; places = placed-each }

  node : node_of made ≡ tree.composite (tree.Sr (tick_plan around)) (trees_of kids)
  node = ap (λ ks. tree.Composite tree.unfired (tree.Sr (tick_plan around)) (tree.Sr (tick_plan around)) ks) (nodes-are kids)

  start : IsAtStart rows (node_of made)
  start = (refl, refl, tt, all-start kids fresh)

  long : length around.places ≡ length (tree.list_of (nodes_of (all_of kids)))
  long = sym entries ∙ ap (λ (v : List Tree). length v) (sym (nodes-list kids))

  fitting : IsFitting (node_of made)
  fitting = (long, long, all-fitting kids fresh)

  whole : IsWhole (tick_plan around).net around.inputs
  whole = record { channels = omega (arith, wired.channels); there = wired.there }

  pub composite-is : IsComposed sr around kids path records labels made
  composite-is = record {
    core = tree.Sr (tick_plan around);
    is_core = record { wired = wired; is = refl };
    depths = tt;
    maximum_is = refl;
    node = node;
    children = list-again kids;
    path_is = refl;
    records_are = refl;
    labels_are = refl;
    meetings_are = refl;
    fresh = record {
      live = refl;
      fit = ((refl, subst (λ (v : List Tree). Suits rows (tick_plan around) (map is_nonstrict (trees_of kids)) v) (sym (nodes-list kids)) suits), all-fit kids fresh, tt);
      start = start;
      fitting = fitting;
      plans = (whole, all-plans kids fresh);
      unrecorded = (empty, tt, all-unrecorded kids fresh);
    };
  }
