-- The composite of a Modal entity that is built is fresh, and it is the one of the definitions.
use Rattle.std.proofs.Common.{◌≡◌, ◌↔◌, ℕ, zero, suc, ◌+◌, ◌<◌, List, [], ◌∷◌, ◌++◌, length, take, map, get_or, Bool, true, false, Option, Some, None, refl, sym, ap, ap₂, subst, ◌∙◌, arith}
use Rattle.std.specs.Prelude.{All, if◌then◌else◌}
use Rattle.std.proofs.lemmas.List.{length-map, length-replicate}
use Rattle.std.proofs.lemmas.Option.{none-some, same_Some}
use Rattle.pt_meaning.specs.Modal.{Chart, Modes, first_modes, unentered}
use Rattle.pt_meaning.specs.NodeFacts.{facts_of, next_of}
use Rattle.pt_meaning.specs.Start.{IsAtStart}
use Rattle.pt_meaning.specs.Transitions.{mode_in}
use Rattle.pt_meaning.specs.Tree as tree
use Rattle.pt_meaning.specs.Tree.{reset_of}
use Rattle.pt_laws.specs.Heights.{IsFitting, HasEntries}
use Rattle.pt_laws.specs.StartedRuns.{AllBelow, IsPlanned}
use Rattle.pt_value.specs.declared.token.Token.{Token}
use Rattle.pt_core.specs.Reached.{AllAlways}
use Rattle.pt_chart.specs.declared.written.Mode.{Mode}
use Rattle.pt_chart.specs.declared.written.Ports.{Ports}
use Rattle.pt_chart.specs.declared.written.Written.{Written}
use Rattle.pt_chart.specs.Chart.{chart_of, mode_of}
use Rattle.pt_chart.specs.Machine.{Machine, ModeTree, NameTable, PortMap}
use Rattle.pt_chart.specs.Typed.{is_typed_machine}
use Rattle.pt_chart.specs.Views.{machine_of, mode_view, ports_view}
use Rattle.pt_modal_laws.specs.ModalActs.{State, HasPlaces, Suits, modal_acts}
use Rattle.pt_modal_laws.specs.State.{ModalPlan, started}
use Rattle.pt_directors.specs.Directors.{of_modal}
use Rattle.pt_library.specs.LibraryActor.{rows}
use Rattle.pt_node.specs.declared.node.Node.{Node}
use Rattle.pt_past.specs.Recorded.{RecordedPort}
use Rattle.pt_node.specs.Shown.{Shown, all_of, shown_node}
use Rattle.pt_node.specs.View.{Tree, node_of, nodes_of}
use Rattle.pt_trees.specs.Around.{Around}
use Rattle.pt_trees.specs.Composite.{trees_of, IsComposed}
use Rattle.pt_trees.specs.Fresh.{AllFresh, AreEmpty}
use Rattle.pt_trees.specs.Modal.{modal, taken_by, places_of, is_opaque, AreOpaque, IsMapped, IsOneOf, IsRefined, HasRefinements, HasRefinementsIf, IsModalWired}
use Rattle.pt_trees.proofs.ChildLaws.{placed-child}
use Rattle.pt_trees.proofs.FreshLaws.{list-again, nodes-list, nodes-are, all-fit, all-start, all-fitting, all-plans, all-unrecorded, start-at}
use Rattle.pt_trees.proofs.NeedLaws.{needs-length, planned-length, need-at, get-length}
use Rattle.pt_trees.proofs.NodeLaws.{get-at, trees, trees-more, tree-at}
use Rattle.pt_de_inside.proofs.FlagLaws.{told-at}
use Rattle.pt_de_inside.proofs.SuitLaws.{fitting-at, wake-child}
use Rattle.pt_wired.specs.Needs.{NeedAll}
use Rattle.pt_modal_composite.specs.Machines.{StartsByMachine, IsChartRound}
use Rattle.pt_composite_node.specs.Nodes.{built}

-- ---- the machine, as it is looked at

-- a fact of each element, as one of each in a view of them
all-from : {A B : Type 0} (f : A → B) (P : B → Type 0) (xs : List A) → All (λ x. P (f x)) xs → All P (map f xs)
all-from f P [] all k d h = absurd (omega (arith, h))
all-from f P (x ∷ xs) all zero d h = all 0 x (omega arith)
all-from f P (x ∷ xs) all (suc k) d h = all-from f P xs (λ j e g. all (suc j) e (omega (arith, g))) k d (omega (arith, h))

all-to : {A B : Type 0} (f : A → B) (P : B → Type 0) (xs : List A) → All P (map f xs) → All (λ x. P (f x)) xs
all-to f P [] all k d h = absurd (omega (arith, h))
all-to f P (x ∷ xs) all zero d h = all 0 (f x) (omega arith)
all-to f P (x ∷ xs) all (suc k) d h = all-to f P xs (λ j e g. all (suc j) e (omega (arith, g))) k d (omega (arith, h))

map-map : {A B C : Type 0} (g : B → C) (f : A → B) (xs : List A) → map g (map f xs) ≡ map (λ x. g (f x)) xs
map-map g f [] = refl
map-map g f (x ∷ xs) = ap (λ v. g (f x) ∷ v) (map-map g f xs)

pub places-are : (places : List ℕ) (w : Written) → places ≡ map (λ p. taken_by (ports_view p)) w.ports.items → places ≡ places_of (machine_of w)
places-are places w is = is ∙ sym (map-map taken_by ports_view w.ports.items)

-- what is looked at beside the needs
abbrev pub Fits : Written → (inputs outputs count : ℕ) → Type 0
Fits w inputs outputs count =
    (length w.names.inputs ≡ inputs) × (length w.names.outputs ≡ outputs) × All (λ (p : Ports). All (λ i. i < inputs) p.inputs.items × (length p.outputs.items ≡ outputs)) w.ports.items × All (λ (m : Mode). IsOneOf count m.refinement) w.modes.items

pub refinements-if : (w : Written) (kids : List Tree) (inputs outputs count : ℕ) (needs : List ℕ) (fits : Bool) → count ≡ length kids → AreOpaque kids → NeedAll kids (places_of (machine_of w)) needs → ((fits ≡ true) ↔ Fits w inputs outputs count) → HasRefinementsIf inputs outputs kids (machine_of w) fits
refinements-if w kids inputs outputs count needs true many opaque all iff =
    let h = iff.0 refl in
    record {
      opaque = opaque;
      fits = record {
        inputs_are = h.0;
        outputs_are = h.1;
        mapped = all-from ports_view (IsMapped inputs outputs) w.ports.items h.2;
        refined = subst (λ n. All (IsRefined n) (map mode_view w.modes.items)) many (all-from mode_view (IsRefined count) w.modes.items h.3);
      };
      needs = needs;
      needed = all.needs;
      counted = all.counted;
    }
refinements-if w kids inputs outputs count needs false many opaque all iff = λ has.
    let refined : All (IsRefined count) (map mode_view w.modes.items) = subst (λ n. All (IsRefined n) (map mode_view w.modes.items)) (sym many) has.fits.refined in
    let t : false ≡ true = iff.1 (has.fits.inputs_are, has.fits.outputs_are, all-to ports_view (IsMapped inputs outputs) w.ports.items has.fits.mapped, all-to mode_view (IsRefined count) w.modes.items refined) in
    cc

pub none-needed : (w : Written) (kids : List Tree) (inputs outputs : ℕ) → ((ns : List ℕ) → NeedAll kids (places_of (machine_of w)) ns → ⊥) → HasRefinements inputs outputs kids (machine_of w) → ⊥
none-needed w kids inputs outputs none has = none has.needs (record { needs = has.needed; counted = has.counted })

-- ---- the children

-- one more that is opaque
pub opaque-more : (kids : List Node) (i : ℕ) (d : Node) → i < length kids → d ≡ get_or kids i d → AreOpaque (trees (take i kids)) → is_opaque (node_of (shown_node d)) ≡ true → AreOpaque (trees (take (i + 1) kids))
opaque-more kids i d h is all one = subst (λ (v : List Tree). AreOpaque v) (sym (trees-more kids i d h is)) (snoc (trees (take i kids)) (node_of (shown_node d)) all one)
  where
    snoc : (ts : List Tree) (t : Tree) → AreOpaque ts → is_opaque t ≡ true → AreOpaque (ts ++ t ∷ [])
    snoc [] t all one zero kid e = sym (ap is_opaque (same_Some t kid e)) ∙ one
    snoc [] t all one (suc j) kid e = absurd (none-some kid e)
    snoc (s ∷ ts) t all one zero kid e = all zero kid e
    snoc (s ∷ ts) t all one (suc j) kid e = snoc ts t (λ k x f. all (suc k) x f) one j kid e

-- one that isn't
pub plain-at : (kids : List Node) (i : ℕ) (d : Node) → i < length kids → d ≡ get_or kids i d → is_opaque (node_of (shown_node d)) ≡ false → AreOpaque (trees kids) → ⊥
plain-at kids i d h is not all = let no : true ≡ false = sym (all i (node_of (shown_node d)) (tree-at kids i d h is)) ∙ not in cc

-- ---- no machine

pub none-there : (around : Around) (kids : List Tree) → around.machine ≡ None → IsModalWired around kids → ⊥
none-there around kids none wired = none-some wired.machine (sym none ∙ wired.is)

-- ---- the chart of a machine

-- there is one exactly where the machine has its types
pub charted : (inputs outputs : ℕ) (kids : List Tree) (m : Machine) (o : Option Machine) → HasRefinements inputs outputs kids m → o ≡ (if is_typed_machine m then Some m else None) → IsChartRound inputs outputs kids m o
charted inputs outputs kids m o refined e = by_type (is_typed_machine m) refl o e
  where
    by_type : (b : Bool) → is_typed_machine m ≡ b → (o : Option Machine) → o ≡ (if b then Some m else None) → IsChartRound inputs outputs kids m o
    by_type true t None e = absurd (none-some m e)
    by_type true t (Some x) e = (same_Some x m e, t, refined)
    by_type false t None e = λ typed has. let no : false ≡ true = sym t ∙ typed in cc
    by_type false t (Some x) e = absurd (none-some x (sym e))

pub uncharted : (inputs outputs : ℕ) (kids : List Tree) (m : Machine) → (HasRefinements inputs outputs kids m → ⊥) → IsChartRound inputs outputs kids m None
uncharted inputs outputs kids m none = λ typed has. none has

pub none-charted : (around : Around) (kids : List Tree) (m : Machine) → around.machine ≡ Some m → IsChartRound around.inputs around.outputs kids m None → IsModalWired around kids → ⊥
none-charted around kids m is none wired =
    let same : wired.machine ≡ m = same_Some wired.machine m (sym wired.is ∙ is) in
    none (subst (λ (x : Machine). is_typed_machine x ≡ true) same wired.typed) (subst (λ (x : Machine). HasRefinements around.inputs around.outputs kids x) same wired.refinements)

-- a core that starts with it
pub starts-by : (around : Around) (kids : List Tree) (m x : Machine) (core : State Machine) → around.machine ≡ Some m → IsChartRound around.inputs around.outputs kids m (Some x) → core ≡ started chart_of (record { machine = x; starts = map (next_of rows) kids }) → StartsByMachine around kids core
starts-by around kids m x core is round starts = record {
  wired = record { machine = m; is = is; typed = round.1; refinements = round.2 };
  is = starts ∙ ap (λ (v : Machine). started chart_of (record { machine = v; starts = map (next_of rows) kids })) round.0;
}

-- ---- the chart

-- what a state names as its refinement is one of them
one-of : (n : ℕ) (o : Option ℕ) (i : ℕ) → IsOneOf n o → o ≡ Some i → i < n
one-of n None i h e = absurd (none-some i e)
one-of n (Some j) i h e = subst (λ k. k < n) (same_Some j i e) h

refined-at : (names : NameTable) (n : ℕ) (ms : List ModeTree) (mode i : ℕ) → All (IsRefined n) ms → (mode_in (map (mode_of names) ms) mode).refinement ≡ Some i → i < n
refined-at names n [] mode i all e = absurd (none-some i e)
refined-at names n (m ∷ ms) zero i all e = one-of n m.refinement i (all 0 m (omega arith)) e
refined-at names n (m ∷ ms) (suc k) i all e = refined-at names n ms k i (λ j d h. all (suc j) d (omega (arith, h))) e

all-below : (n : ℕ) (xs : List ℕ) → All (λ i. i < n) xs → AllBelow n xs
all-below n [] all = tt
all-below n (x ∷ xs) all = (all 0 x (omega arith), all-below n xs (λ j d h. all (suc j) d (omega (arith, h))))

abbrev no_ports : PortMap
no_ports = record { inputs = []; outputs = [] }

inputs-below : (inputs outputs : ℕ) (ps : List PortMap) (i : ℕ) → All (IsMapped inputs outputs) ps → AllBelow inputs (get_or ps i no_ports).inputs
inputs-below inputs outputs [] i all = tt
inputs-below inputs outputs (p ∷ ps) zero all = all-below inputs p.inputs (all 0 p (omega arith)).0
inputs-below inputs outputs (p ∷ ps) (suc i) all = inputs-below inputs outputs ps i (λ j d h. all (suc j) d (omega (arith, h)))

outputs-shown : (inputs outputs : ℕ) (ps : List PortMap) (i : ℕ) → All (IsMapped inputs outputs) ps → i < length ps → length (get_or ps i no_ports).outputs ≡ outputs
outputs-shown inputs outputs ps i all h = (all i no_ports h).1

taken-at : (ps : List PortMap) (i : ℕ) → get_or (map taken_by ps) i 0 ≡ length (get_or ps i no_ports).inputs
taken-at [] i = refl
taken-at (p ∷ ps) zero = refl
taken-at (p ∷ ps) (suc i) = taken-at ps i

-- ---- the composite

module _ (around : Around) (kids : List Shown) (path : List ℕ) (records : List RecordedPort) (labels : List (List ℕ)) (wired : IsModalWired around (trees_of kids)) (fresh : AllFresh kids) (empty : AreEmpty records) where
  abbrev its : List Tree
  its = trees_of kids

  abbrev m : Machine
  m = wired.machine

  abbrev chart : Chart Token
  chart = chart_of m

  abbrev plan : ModalPlan Machine
  plan = record { machine = m; starts = map (next_of rows) its }

  abbrev core : State Machine
  core = started chart_of plan

  abbrev made : Shown
  made = built (of_modal core) None kids path records labels

  starts-long : length plan.starts ≡ length its
  starts-long = length-map its (next_of rows)

  entries : length its ≡ length m.ports
  entries =
      sym (needs-length (facts_of rows) its) ∙ ap (λ v. length v) wired.refinements.needed ∙ planned-length (places_of m) wired.refinements.needs ∙ length-map m.ports taken_by

  places-long : length its ≡ length (places_of m)
  places-long = entries ∙ sym (length-map m.ports taken_by)

  starts-each : AllAlways rows (λ i node. next_of rows (reset_of node) ≡ get_or plan.starts i None) its
  starts-each i kid e = λ later t. wake-child kid (start-at kids fresh i kid e) (fitting-at kids fresh i kid e) later t ∙ sym (told-at (λ k. next_of rows k) its i kid None e)

  placed-each : AllAlways rows (λ i node. HasPlaces rows (length (chart.in_ports i)) node) its
  placed-each i kid e =
      let h = get-length its i kid e in
      let n = need-at (facts_of rows) its (places_of m) wired.refinements.needs wired.refinements.needed wired.refinements.counted i kid (get_or (places_of m) i 0) e (get-at (places_of m) i 0 (omega (arith, h, places-long))) in
      placed-child (length (chart.in_ports i)) kid (start-at kids fresh i kid e) n.0 n.1 (n.2 ∙ taken-at m.ports i)

  named : (mode i : ℕ) → chart.refinement mode ≡ Some i → i < length its
  named mode i e = refined-at m.names (length its) m.modes mode i wired.refinements.fits.refined e

  suits : Suits chart_of rows plan its
  suits = record { children = sym starts-long; named = named; starts = starts-each; places = placed-each }

  fits : (modal_acts chart_of rows).Fits core its
  fits = (refl, refl, suits)

  -- as many times are kept as there are refinements
  modes-are : (n : ℕ) → n ≡ length its → first_modes chart (length plan.starts) ≡ first_modes chart n
  modes-are n same = ap (λ k. first_modes chart k) (starts-long ∙ sym same)

  node : node_of made ≡ tree.composite (tree.Modal chart (first_modes chart (length its))) its
  node = ap₂ (λ (x : Modes Token) ks. tree.Composite tree.unfired (tree.Modal chart x) (tree.Modal chart x) ks) (modes-are (length its) refl) (nodes-are kids)

  listed : length (tree.list_of (nodes_of (all_of kids))) ≡ length its
  listed = ap (λ (v : List Tree). length v) (nodes-list kids)

  start : IsAtStart rows (node_of made)
  start = (refl, refl, modes-are (length (tree.list_of (nodes_of (all_of kids)))) listed, all-start kids fresh)

  shown-each : (i : ℕ) → i < length its → length (chart.out_ports i) ≡ chart.outputs
  shown-each i h = outputs-shown around.inputs around.outputs m.ports i wired.refinements.fits.mapped (omega (arith, h, entries)) ∙ sym wired.refinements.fits.outputs_are

  long : HasEntries (length (tree.list_of (nodes_of (all_of kids)))) (tree.Modal chart (first_modes chart (length plan.starts)))
  long = subst (λ n. HasEntries n (tree.Modal chart (first_modes chart (length plan.starts)))) (sym listed) (length-replicate (length plan.starts) unentered ∙ starts-long, record { named = named; outputs = shown-each })

  fitting : IsFitting (node_of made)
  fitting = (long, long, all-fitting kids fresh)

  planned : IsPlanned (tree.Modal chart (first_modes chart (length plan.starts)))
  planned i = subst (λ n. AllBelow n (chart.in_ports i)) (sym wired.refinements.fits.inputs_are) (inputs-below around.inputs around.outputs m.ports i wired.refinements.fits.mapped)

  pub composite-is : IsComposed modal around kids path records labels made
  composite-is = record {
    core = tree.Modal chart (first_modes chart (length its));
    is_core = record { wired = wired; is = refl };
    depths = tt;
    maximum_is = refl;
    node = node;
    children = list-again kids;
    path_is = refl;
    records_are = refl;
    labels_are = refl;
    meetings_are = refl;
    fresh = record {
      live = refl;
      fit = (subst (λ (v : List Tree). (modal_acts chart_of rows).Fits core v) (sym (nodes-list kids)) fits, all-fit kids fresh, tt);
      start = start;
      fitting = fitting;
      plans = (planned, all-plans kids fresh);
      unrecorded = (empty, tt, all-unrecorded kids fresh);
    };
  }
