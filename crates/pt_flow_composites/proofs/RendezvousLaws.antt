-- The Rendezvous composite that is built is fresh, and it is the one of the definitions.
use Rattle.std.proofs.Common.{◌≡◌, ℕ, zero, suc, ◌<◌, List, [], ◌∷◌, length, map, get_or, Some, None, refl, sym, ap, subst, ◌∙◌, arith}
use Rattle.std.proofs.lemmas.List.{length-map}
use Rattle.std.proofs.lemmas.Option.{none-some, same_Some}
use Rattle.std.specs.List.{All}
use Rattle.pt_meaning.specs.Machine.{Need, Over, Counts, Any}
use Rattle.pt_meaning.specs.Net as net
use Rattle.pt_meaning.specs.NodeFacts.{facts_of, need_of}
use Rattle.pt_meaning.specs.Rendezvous.{RvPlan, first_places}
use Rattle.pt_meaning.specs.Start.{IsAtStart}
use Rattle.pt_meaning.specs.Streams.{get}
use Rattle.pt_meaning.specs.Tree as tree
use Rattle.pt_meaning.specs.Tree.{reset_of}
use Rattle.pt_laws.specs.Heights.{HasEntries, IsFitting}
use Rattle.pt_laws.specs.SoundRuns.{count_at}
use Rattle.pt_laws.specs.StartedRuns.{IsThere, AllThere, IsWhole}
use Rattle.pt_value.specs.declared.token.Token.{Token}
use Rattle.pt_core.specs.Reached.{Always, AllAlways}
use Rattle.pt_core.specs.Source.{source_of}
use Rattle.pt_puts.specs.Fans.{IsNamed}
use Rattle.pt_rv_laws.specs.Lawful.{AllCount, HasPlaces, IsFor, IsLawful}
use Rattle.pt_rv_laws.specs.RvActs.{State, Suits, rv_acts}
use Rattle.pt_rv_laws.specs.State.{Processes, started}
use Rattle.pt_rv_laws.proofs.BeginLaws.{calls-start}
use Rattle.pt_rv_plan.specs.declared.plan.CorePlan.{CorePlan}
use Rattle.pt_rv_plan.specs.Plan.{processes_of, AreSound}
use Rattle.pt_puts.specs.Need.{need_in}
use Rattle.pt_library.specs.LibraryActor.{rows}
use Rattle.pt_directors.specs.Directors.{of_rendezvous}
use Rattle.pt_past.specs.Recorded.{RecordedPort}
use Rattle.pt_node.specs.Shown.{Shown, all_of}
use Rattle.pt_node.specs.View.{Tree, node_of, nodes_of}
use Rattle.pt_stated.specs.declared.stated.Stated.{Stated}
use Rattle.pt_trees.specs.declared.wiring.Wiring.{Wiring}
use Rattle.pt_trees.specs.Around.{Around, around_of}
use Rattle.pt_trees.specs.Composite.{trees_of, IsComposed}
use Rattle.pt_trees.specs.Fresh.{AllFresh, AreEmpty}
use Rattle.pt_trees.specs.Rendezvous.{rendezvous, rv_plan, is_barrier, IsPlaced, HasRates, IsMet, IsRvWired}
use Rattle.pt_trees.proofs.ChildLaws.{placed-child}
use Rattle.pt_trees.proofs.FreshLaws.{list-again, nodes-list, nodes-are, all-fit, all-start, all-fitting, all-plans, all-unrecorded, start-at}
use Rattle.pt_de_inside.proofs.FlagLaws.{told-at}
use Rattle.pt_inside.proofs.KeptLaws.{any-stays, needs-again}
use Rattle.pt_composite_node.specs.Nodes.{built}
use Rattle.pt_flow_composites.specs.Processes.{processes_round}

-- ---- the wiring

-- with what is stated of its own ports
abbrev pub wired-with : (w : Wiring) (kids : List Tree) (stated : Stated) → IsMet (around_of w) kids → w.stated ≡ Some stated → (length stated.takes ≡ w.inputs) × (length stated.gives ≡ w.outputs) → IsRvWired (around_of w) kids
wired-with w kids stated met is rated = record { met = met; stated = stated; is = is; rated = record { takes = rated.0; gives = rated.1 } }

-- where nothing is stated, it is none
pub none-stated : (w : Wiring) (kids : List Tree) → w.stated ≡ None → IsRvWired (around_of w) kids → ⊥
none-stated w kids none wired = none-some wired.stated (sym none ∙ wired.is)

-- nor where what is stated isn't for these own ports
pub none-rated : (w : Wiring) (kids : List Tree) (stated : Stated) → w.stated ≡ Some stated → ((length stated.takes ≡ w.inputs) × (length stated.gives ≡ w.outputs) → ⊥) → IsRvWired (around_of w) kids → ⊥
none-rated w kids stated is not wired =
    let same : wired.stated ≡ stated = same_Some wired.stated stated (sym wired.is ∙ is) in
    let r : HasRates w.inputs w.outputs stated = subst (λ (s : Stated). HasRates w.inputs w.outputs s) same wired.rated in
    not (r.takes, r.gives)

-- ---- where channels begin

named-from : (inputs children : ℕ) (cs : List net.Source) → AllThere inputs children cs → All (IsNamed children) cs
named-from inputs children [] all k d h = absurd (omega (arith, h))
named-from inputs children (net.Own port ∷ cs) all zero d h = tt
named-from inputs children (net.Output child port ∷ cs) all zero d h = all.0
named-from inputs children (c ∷ cs) all (suc k) d h = named-from inputs children cs all.1 k d (omega (arith, h))

own-there : (inputs children : ℕ) (cs : List net.Source) → AllThere inputs children cs → (channel port : ℕ) → get cs channel ≡ Some (net.Own port) → port < inputs
own-there inputs children [] all channel port e = absurd (none-some (net.Own port) e)
own-there inputs children (c ∷ cs) all zero port e = subst (λ (s : net.Source). IsThere inputs children s) (same_Some c (net.Own port) e) all.0
own-there inputs children (c ∷ cs) all (suc k) port e = own-there inputs children cs all.1 k port e

-- ---- needs

has-places : (places : ℕ) (need : Need) → IsPlaced places need → HasPlaces places need
has-places places Over placed = absurd placed
has-places places (Counts ns) placed = placed
has-places places Any placed = tt

kept-places : (places : ℕ) (need : Need) → ((ns : List ℕ) → need ≡ Counts ns → length ns ≡ places) → HasPlaces places need
kept-places places Over counted = tt
kept-places places (Counts ns) counted = counted ns refl
kept-places places Any counted = tt

-- a child at its start keeps its places, whatever it fires
always-placed : (places : ℕ) (kid : Tree) → IsAtStart rows kid → IsPlaced places (need_of rows kid) → Always rows (λ node. HasPlaces places (need_of rows node)) kid
always-placed places kid start placed = by (need_of rows kid) refl placed
  where
    by : (n : Need) → need_of rows kid ≡ n → IsPlaced places n → Always rows (λ node. HasPlaces places (need_of rows node)) kid
    by Over e q = absurd q
    by (Counts ms) e q = λ later t. kept-places places (need_of rows later) (placed-child places kid start ms e q later t)
    by Any e q = λ later t. subst (λ (n : Need). HasPlaces places n) (sym (any-stays kid start e later t)) tt

there : {A : Type 0} (xs : List A) (i : ℕ) → i < length xs → (x : A) × (get xs i ≡ Some x)
there [] i h = absurd (omega (arith, h))
there (x ∷ xs) zero h = (x, refl)
there (x ∷ xs) (suc i) h = there xs i (omega (arith, h))

-- how many places a child has, in the words of the laws
count-as : (ns : List ℕ) (i : ℕ) → count_at ns i ≡ get_or ns i 0
count-as [] i = refl
count-as (n ∷ ns) zero = refl
count-as (n ∷ ns) (suc i) = count-as ns i

-- ---- the processes

module _ (around : Around) (kids : List Tree) (wired : IsRvWired around kids) where
  abbrev processes : Processes
  processes = processes_round around.sources around.places wired.stated.takes kids

  lawful : IsLawful processes
  lawful = record {
    barriers = length-map kids is_barrier ∙ wired.met.children;
    starts = length-map kids (need_of rows) ∙ wired.met.children;
    owns = λ channel port e. subst (λ n. port < n) (sym wired.rated.takes) (own-there around.inputs (length around.places) around.sources wired.met.there channel port e);
  }

  counts : (i : ℕ) → i < length around.places → HasPlaces (get_or around.places i 0) (get_or (map (need_of rows) kids) i Over)
  counts i h =
      let it = there kids i (omega (arith, h, wired.met.children)) in
      subst (λ (need : Need). HasPlaces (get_or around.places i 0) need) (sym (told-at (need_of rows) kids i it.0 Over it.1)) (has-places (get_or around.places i 0) (need_of rows it.0) (wired.met.placed i it.0 it.1))

  pub sound : AreSound processes
  sound = record { lawful = lawful; few = wired.met.few; fewer = wired.met.fewer; named = named-from around.inputs (length around.places) around.sources wired.met.there; counts = counts }

-- the plan of the code has these processes
pub processes-are : (sources : List net.Source) (places takes : List ℕ) (kids : List Tree) (p : CorePlan) → map source_of p.sources.items ≡ sources → p.places ≡ places → p.barriers.items ≡ map is_barrier kids → p.takes ≡ takes → map need_in p.starts.items ≡ map (need_of rows) kids →
    processes_of p ≡ processes_round sources places takes kids
processes-are sources places takes kids p sources_are places_are barriers takes_are starts = λ i. record { plan = record { net = record { sources = sources_are i; places = places_are i }; barriers = barriers i; takes = takes_are i }; starts = starts i }

-- ---- the composite

module _ (around : Around) (kids : List Shown) (path : List ℕ) (records : List RecordedPort) (labels : List (List ℕ)) (wired : IsRvWired around (trees_of kids)) (fresh : AllFresh kids) (empty : AreEmpty records) where
  abbrev its : List Tree
  its = trees_of kids

  abbrev core : State
  core = started (processes around its wired)

  abbrev made : Shown
  made = built (of_rendezvous core) (Some []) kids path records labels

  abbrev plan : RvPlan
  plan = rv_plan around its wired.stated

  abbrev first : tree.Core Token
  first = tree.Rv plan (first_places plan)

  counts-each : AllAlways rows (λ i node. HasPlaces (count_at around.places i) (need_of rows node)) its
  counts-each i kid e = λ later t. subst (λ (n : ℕ). HasPlaces n (need_of rows later)) (sym (count-as around.places i)) (always-placed (get_or around.places i 0) kid (start-at kids fresh i kid e) (wired.met.placed i kid e) later t)

  starts-each : AllAlways rows (λ i node. need_of rows (reset_of node) ≡ get_or (map (need_of rows) its) i Over) its
  starts-each i kid e = λ later t. needs-again kid (start-at kids fresh i kid e) later t ∙ sym (told-at (need_of rows) its i kid Over e)

  suits : Suits rows core its
  suits = record { children = wired.met.children; counts = counts-each; starts = starts-each }

  counts-first : AllCount core
  counts-first i h = subst (λ (n : ℕ). HasPlaces n (get_or (map (need_of rows) its) i Over)) (sym (count-as around.places i)) (counts around its wired i h)

  fitting-core : IsFor (facts_of rows) core its
  fitting-core = calls-start (facts_of rows) (processes around its wired) its (lawful around its wired) refl counts-first

  fits : (rv_acts rows).Fits core its
  fits = record { idle = refl; fitting = fitting-core; suits = suits }

  node : node_of made ≡ tree.composite first its
  node = ap (λ ks. tree.Composite tree.unfired first first ks) (nodes-are kids)

  start : IsAtStart rows (node_of made)
  start = (refl, refl, refl, all-start kids fresh)

  -- there is an entry for each child
  long : (n : ℕ) → n ≡ length around.places → n ≡ length (tree.list_of (nodes_of (all_of kids)))
  long n e = e ∙ sym wired.met.children ∙ ap (λ (v : List Tree). length v) (sym (nodes-list kids))

  entries : HasEntries (length (tree.list_of (nodes_of (all_of kids)))) first
  entries = (long (length plan.barriers) (lawful around its wired).barriers, long (length (first_places {T = Token} plan).got) fitting-core.sized.got, long (length (first_places {T = Token} plan).puts) fitting-core.sized.puts)

  fitting : IsFitting (node_of made)
  fitting = (entries, entries, all-fitting kids fresh)

  whole : IsWhole plan.net (length plan.takes)
  whole = subst (λ (n : ℕ). IsWhole plan.net n) (sym wired.rated.takes) (record { channels = omega (arith, wired.met.channels); there = wired.met.there })

  pub composite-is : IsComposed rendezvous around kids path records labels made
  composite-is = record {
    core = first;
    is_core = record { wired = wired; is = refl };
    depths = tt;
    maximum_is = refl;
    node = node;
    children = list-again kids;
    path_is = refl;
    records_are = refl;
    labels_are = refl;
    meetings_are = refl;
    fresh = record {
      live = refl;
      fit = (subst (λ (v : List Tree). (rv_acts rows).Fits core v) (sym (nodes-list kids)) fits, all-fit kids fresh, (λ k h. refl));
      start = start;
      fitting = fitting;
      plans = (whole, all-plans kids fresh);
      unrecorded = (empty, refl, all-unrecorded kids fresh);
    };
  }
