-- The PN composite that is built is fresh, and it is the one of the definitions.
use Rattle.std.proofs.Common.{◌≡◌, ℕ, zero, suc, ◌<◌, ◌≤◌, List, [], ◌∷◌, length, map, get_or, Some, None, refl, sym, ap, subst, ◌∙◌, arith}
use Rattle.std.proofs.lemmas.List.{length-map}
use Rattle.std.proofs.lemmas.Option.{none-some, same_Some}
use Rattle.std.specs.List.{All}
use Rattle.pt_meaning.specs.Basics.{Streams}
use Rattle.pt_meaning.specs.Machine.{Need, Over, Counts, Any}
use Rattle.pt_meaning.specs.Net as net
use Rattle.pt_meaning.specs.NodeFacts.{facts_of, need_of}
use Rattle.pt_meaning.specs.Start.{first_held, IsAtStart}
use Rattle.pt_meaning.specs.Running.{total}
use Rattle.pt_meaning.specs.Streams.{get}
use Rattle.pt_meaning.specs.Tree as tree
use Rattle.pt_meaning.specs.Tree.{reset_of}
use Rattle.pt_laws.specs.Heights.{IsFitting}
use Rattle.pt_laws.specs.StartedRuns.{AllThere, IsWhole}
use Rattle.pt_value.specs.declared.token.Token.{Token}
use Rattle.pt_core.specs.Reached.{AllAlways}
use Rattle.pt_core.specs.Source.{source_of}
use Rattle.pt_pn_laws.specs.Lawful.{AllCount, HasPlaces, IsFor, IsLawful}
use Rattle.pt_pn_laws.specs.PnActs.{State, Suits, pn_acts}
use Rattle.pt_pn_laws.specs.State.{Network, started}
use Rattle.pt_pn_laws.proofs.ListLaws.{joined-nothing}
use Rattle.pt_pn_laws.proofs.StartLaws.{calls-start}
use Rattle.pt_process.specs.declared.plan.CorePlan.{CorePlan}
use Rattle.pt_process.specs.Plan.{network_of, IsSoundNetwork}
use Rattle.pt_puts.specs.Fans.{IsNamed}
use Rattle.pt_process.specs.Process.{need_in, IsKept}
use Rattle.pt_library.specs.LibraryActor.{rows}
use Rattle.pt_directors.specs.Directors.{of_pn}
use Rattle.pt_past.specs.Recorded.{RecordedPort}
use Rattle.pt_node.specs.Shown.{Shown, all_of}
use Rattle.pt_node.specs.View.{Tree, node_of, nodes_of}
use Rattle.pt_stated.specs.declared.capacities.Capacities.{Capacities}
use Rattle.pt_stated.specs.declared.stated.Stated.{Stated}
use Rattle.pt_trees.specs.declared.wiring.Wiring.{Wiring}
use Rattle.pt_trees.specs.Around.{Around, around_of}
use Rattle.pt_trees.specs.Composite.{trees_of, IsComposed}
use Rattle.pt_trees.specs.Fresh.{AllFresh, AreEmpty}
use Rattle.pt_trees.specs.Pn.{pn, pn_plan, most_of, most_stated, IsStatedFor, IsPnWired}
use Rattle.pt_trees.specs.Sr.{IsWired}
use Rattle.pt_trees.proofs.ChildLaws.{placed-child}
use Rattle.pt_trees.proofs.FreshLaws.{list-again, nodes-list, nodes-are, all-fit, all-start, all-fitting, all-plans, all-unrecorded, start-at}
use Rattle.pt_trees.proofs.NeedLaws.{needs-length, planned-length, need-at, get-length}
use Rattle.pt_trees.proofs.NodeLaws.{get-at}
use Rattle.pt_de_inside.proofs.FlagLaws.{told-at}
use Rattle.pt_flow_composites.specs.Networks.{network_round}
use Rattle.pt_composite_node.specs.Nodes.{built}
use Rattle.pt_inside.specs.Kept.{AreKept}
use Rattle.pt_inside.proofs.HeldLaws.{held-length}
use Rattle.pt_inside.proofs.KeptLaws.{kept-stays, needs-again}

-- ---- the wiring

-- what is looked at of the numbers that are stated
abbrev pub AreLawful : Wiring → Stated → Capacities → Type 0
AreLawful w stated capacities = (0 < capacities.initial) × (capacities.initial ≤ capacities.maximum) × (length stated.takes ≡ w.inputs) × (length stated.gives ≡ w.outputs)

-- with what is stated, which is lawful
abbrev pub wired-with : (w : Wiring) (kids : List Tree) (stated : Stated) (capacities : Capacities) → IsWired (around_of w) kids → w.stated ≡ Some stated → stated.capacities ≡ Some capacities → AreLawful w stated capacities → IsPnWired (around_of w) kids
wired-with w kids stated capacities wired is are lawful =
    record { wired = wired; stated = stated; is = is; lawful = record { capacities = capacities; are = are; holds = lawful.0; grows = lawful.1; takes = lawful.2; gives = lawful.3 } }

-- where nothing is stated, it is none
pub none-stated : (w : Wiring) (kids : List Tree) → w.stated ≡ None → IsPnWired (around_of w) kids → ⊥
none-stated w kids none wired = none-some wired.stated (sym none ∙ wired.is)

lawful-as : (w : Wiring) (kids : List Tree) (stated : Stated) → w.stated ≡ Some stated → IsPnWired (around_of w) kids → IsStatedFor w.inputs w.outputs stated
lawful-as w kids stated is wired = subst (λ (s : Stated). IsStatedFor w.inputs w.outputs s) (same_Some wired.stated stated (sym wired.is ∙ is)) wired.lawful

-- nor where no capacities are
pub none-capacities : (w : Wiring) (kids : List Tree) (stated : Stated) → w.stated ≡ Some stated → stated.capacities ≡ None → IsPnWired (around_of w) kids → ⊥
none-capacities w kids stated is none wired = let l = lawful-as w kids stated is wired in none-some l.capacities (sym none ∙ l.are)

-- nor where what is stated isn't lawful
pub none-lawful : (w : Wiring) (kids : List Tree) (stated : Stated) (capacities : Capacities) → w.stated ≡ Some stated → stated.capacities ≡ Some capacities → (AreLawful w stated capacities → ⊥) → IsPnWired (around_of w) kids → ⊥
none-lawful w kids stated capacities is are not wired =
    let l = lawful-as w kids stated is wired in
    let same : l.capacities ≡ capacities = same_Some l.capacities capacities (sym l.are ∙ are) in
    not (subst (λ (c : Capacities). 0 < c.initial) same l.holds, subst (λ (c : Capacities). c.initial ≤ c.maximum) same l.grows, l.takes, l.gives)

-- each channel begins at what is there
named-from : (inputs children : ℕ) (cs : List net.Source) → AllThere inputs children cs → All (IsNamed children) cs
named-from inputs children [] all k d h = absurd (omega (arith, h))
named-from inputs children (net.Own port ∷ cs) all zero d h = tt
named-from inputs children (net.Output child port ∷ cs) all zero d h = all.0
named-from inputs children (c ∷ cs) all (suc k) d h = named-from inputs children cs all.1 k d (omega (arith, h))

-- ---- needs

has-places : (places : ℕ) (need : Need) → IsKept need → ((ns : List ℕ) → need ≡ Counts ns → length ns ≡ places) → HasPlaces places need
has-places places Over kept counted = tt
has-places places (Counts ns) kept counted = counted ns refl
has-places places Any kept counted = absurd kept

there : {A : Type 0} (xs : List A) (i : ℕ) → i < length xs → (x : A) × (get xs i ≡ Some x)
there [] i h = absurd (omega (arith, h))
there (x ∷ xs) zero h = (x, refl)
there (x ∷ xs) (suc i) h = there xs i (omega (arith, h))

-- ---- the network

module _ (around : Around) (kids : List Tree) (wired : IsPnWired around kids) where
  abbrev network : Network Token
  network = network_round around.sources around.places wired.stated.takes wired.lawful.capacities kids

  entries : length kids ≡ length around.places
  entries = sym (needs-length (facts_of rows) kids) ∙ ap (λ v. length v) wired.wired.needed ∙ planned-length around.places wired.wired.needs

  needs-at : (i : ℕ) (kid : Tree) → get kids i ≡ Some kid → (ms : List ℕ) × (need_of rows kid ≡ Counts ms) × (length ms ≡ get_or around.places i 0)
  needs-at i kid e =
      let h = get-length kids i kid e in
      need-at (facts_of rows) kids around.places wired.wired.needs wired.wired.needed wired.wired.counted i kid (get_or around.places i 0) e (get-at around.places i 0 (omega (arith, h, entries)))

  lawful : IsLawful network
  lawful = record {
    channels = omega (arith, wired.wired.channels);
    first = held-length rows kids around.sources;
    starts = length-map kids (need_of rows) ∙ entries;
    holds = wired.lawful.holds;
    grows = wired.lawful.grows;
  }

  counts : AllCount (started network)
  counts i h =
      let it = there kids i (omega (arith, h, entries)) in
      let n = needs-at i it.0 it.1 in
      let same : get_or (map (need_of rows) kids) i Over ≡ Counts n.0 = told-at (need_of rows) kids i it.0 Over it.1 ∙ n.1 in
      subst (λ (need : Need). HasPlaces (get_or around.places i 0) need) (sym same) n.2

  pub sound : IsSoundNetwork network
  sound = record {
    lawful = lawful;
    few = wired.wired.few;
    fewer = wired.wired.fewer;
    named = named-from around.inputs (length around.places) around.sources wired.wired.there;
    counts = counts;
  }

-- of its children none waits for a token at any one place
has-kept : (places : ℕ) (need : Need) → HasPlaces places need → IsKept need
has-kept places Over has = tt
has-kept places (Counts ns) has = tt
has-kept places Any has = has

pub all-kept : (sources : List net.Source) (places takes : List ℕ) (capacities : Capacities) (kids : List Tree) → IsSoundNetwork (network_round sources places takes capacities kids) → AreKept kids
all-kept sources places takes capacities kids sound i kid e =
    let within : i < length places = omega (arith, get-length kids i kid e, sound.lawful.starts, length-map kids (need_of rows)) in
    has-kept (get_or places i 0) (need_of rows kid) (subst (λ (need : Need). HasPlaces (get_or places i 0) need) (told-at (need_of rows) kids i kid Over e) (sound.counts i within))

-- the plan of the code has this network
pub network-is : (sources : List net.Source) (places takes : List ℕ) (capacities : Capacities) (kids : List Tree) (p : CorePlan) → map source_of p.sources.items ≡ sources → p.places ≡ places → p.takes ≡ takes → p.initial ≡ capacities.initial → p.maximum ≡ capacities.maximum → p.first.items ≡ first_held rows kids sources →
    map need_in p.starts.items ≡ map (need_of rows) kids → network_of p ≡ network_round sources places takes capacities kids
network-is sources places takes capacities kids p sources_are places_are takes_are initial maximum first starts =
    λ i. record { plan = record { net = record { sources = sources_are i; places = places_are i }; takes = takes_are i }; initial = initial i; maximum = maximum i; first = first i; starts = starts i }

-- ---- the composite

module _ (around : Around) (kids : List Shown) (path : List ℕ) (records : List RecordedPort) (labels : List (List ℕ)) (wired : IsPnWired around (trees_of kids)) (fresh : AllFresh kids) (empty : AreEmpty records) where
  abbrev its : List Tree
  its = trees_of kids

  abbrev core : State
  core = started (network around its wired)

  abbrev made : Shown
  made = built (of_pn core) None kids path records labels

  abbrev first : Streams Token
  first = first_held rows its around.sources

  counts-each : AllAlways rows (λ i node. HasPlaces (get_or around.places i 0) (need_of rows node)) its
  counts-each i kid e = λ later t.
      let n = needs-at around its wired i kid e in
      let start = start-at kids fresh i kid e in
      let kept = kept-stays kid start (subst (λ (need : Need). IsKept need) (sym n.1) tt) later t in
      has-places (get_or around.places i 0) (need_of rows later) kept (placed-child (get_or around.places i 0) kid start n.0 n.1 n.2 later t)

  starts-each : AllAlways rows (λ i node. need_of rows (reset_of node) ≡ get_or (map (need_of rows) its) i Over) its
  starts-each i kid e = λ later t. needs-again kid (start-at kids fresh i kid e) later t ∙ sym (told-at (need_of rows) its i kid Over e)

  suits : Suits rows core its
  suits = record { children = entries around its wired; counts = counts-each; starts = starts-each }

  fitting-core : IsFor (facts_of rows) core its
  fitting-core = calls-start (facts_of rows) (network around its wired) its (lawful around its wired) refl (counts around its wired)

  fits : (pn_acts rows).Fits core its
  fits = record { idle = refl; fitting = fitting-core; suits = suits }

  -- what the channels hold at first is the first tokens
  held : tree.Pn (pn_plan around wired.stated) first ≡ (pn_acts rows).calls.core_of core
  held = sym (ap (λ (v : Streams Token). tree.Pn (pn_plan around wired.stated) v) (joined-nothing (total around.places) first))

  node : node_of made ≡ tree.composite (tree.Pn (pn_plan around wired.stated) first) its
  node =
      ap (λ (d : tree.Core Token). tree.Composite tree.unfired (tree.Pn (pn_plan around wired.stated) first) d (nodes_of (all_of kids))) (sym held) ∙
      ap (λ ks. tree.Composite tree.unfired (tree.Pn (pn_plan around wired.stated) first) (tree.Pn (pn_plan around wired.stated) first) ks) (nodes-are kids)

  start : IsAtStart rows (node_of made)
  start = (refl, sym held, subst (λ (v : List Tree). first ≡ first_held rows v around.sources) (sym (nodes-list kids)) refl, all-start kids fresh)

  long : length around.places ≡ length (tree.list_of (nodes_of (all_of kids)))
  long = sym (entries around its wired) ∙ ap (λ (v : List Tree). length v) (sym (nodes-list kids))

  fitting : IsFitting (node_of made)
  fitting = (long, long, all-fitting kids fresh)

  whole : IsWhole (pn_plan around wired.stated).net (length (pn_plan around wired.stated).takes)
  whole = subst (λ (n : ℕ). IsWhole (pn_plan around wired.stated).net n) (sym wired.lawful.takes) (record { channels = omega (arith, wired.wired.channels); there = wired.wired.there })

  pub composite-is : IsComposed pn around kids path records labels made
  composite-is = record {
    core = tree.Pn (pn_plan around wired.stated) first;
    is_core = record { wired = wired; is = refl };
    depths = tt;
    maximum_is = sym (ap most_stated wired.is ∙ ap most_of wired.lawful.are);
    node = node;
    children = list-again kids;
    path_is = refl;
    records_are = refl;
    labels_are = refl;
    meetings_are = refl;
    fresh = record {
      live = refl;
      fit = (subst (λ (v : List Tree). (pn_acts rows).Fits core v) (sym (nodes-list kids)) fits, all-fit kids fresh, tt);
      start = start;
      fitting = fitting;
      plans = (whole, all-plans kids fresh);
      unrecorded = (empty, tt, all-unrecorded kids fresh);
    };
  }
