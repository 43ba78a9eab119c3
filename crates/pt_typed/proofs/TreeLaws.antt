-- The tree of a net is typed by the types of the net.
use Rattle.std.proofs.Common.{◌≡◌, ℕ, zero, suc, ◌+◌, ◌<◌, ◌≤◌, List, [], ◌∷◌, ◌++◌, Bool, true, false, length, map, drop, Option, Some, None, refl, sym, ap, ap₂, subst, arith, ◌∙◌, length-append, append-nil, slice_get, if◌then◌else◌}
use Rattle.std.proofs.lemmas.List.{length-map}
use Rattle.std.proofs.lemmas.List.Sums.{length-filter}
use Rattle.std.proofs.lemmas.List.Elements.{recursion_from_All}
use Rattle.std.proofs.lemmas.Option.{same_Some}
use Rattle.std.proofs.lemmas.Bool.{eqb-true}
use Rattle.std.specs.Prelude.{filter, count_by}
use Rattle.std.specs.List.{AllByRecursion, Contains}
use Rattle.pt_meaning.specs.Streams.{get}
use Rattle.pt_meaning.specs.Net.{Source, Own, Output}
use Rattle.pt_meaning.specs.Running.{total}
use Rattle.pt_meaning.specs.Kahn.{skip_places}
use Rattle.pt_meaning.specs.Sdf.{SdfPlan, unfed}
use Rattle.pt_meaning.specs.Start.{first_of_node, first_of, first_held}
use Rattle.pt_meaning.specs.Modal.{first_modes}
use Rattle.pt_meaning.specs.Rendezvous.{first_places}
use Rattle.pt_meaning.specs.Tree.{Core, list_of, nodes_of, Actor, Composite}
use Rattle.pt_value.specs.declared.token.Token.{Token}
use Rattle.pt_document.specs.declared.classes.Director.{Director}
use Rattle.pt_document.specs.declared.classes.Director.TheVariants.{Sdf, Pn, Rendezvous, Sr, De}
use Rattle.pt_document.specs.declared.job.Port.{Port}
use Rattle.pt_datatypes.specs.Datatype.{Datatype}
use Rattle.pt_datatypes.specs.Order.{IsBelow}
use Rattle.pt_datatypes.proofs.Order.{below-refl}
use Rattle.pt_net.specs.declared.net.Channel.{Channel}
use Rattle.pt_net.specs.declared.net.Net.{Net}
use Rattle.pt_net.specs.declared.net.NetDirector.{NetDirector}
use Rattle.pt_net.specs.declared.net.NetEntity.{NetEntity}
use Rattle.pt_net.specs.Inside.{children_of, place_count, source_of, channels_in, is_within, is_input, is_output}
use Rattle.pt_typing.specs.declared.variable.Variable.TheVariants as variable
use Rattle.pt_scopes.specs.Scopes.{is_composite_class}
use Rattle.pt_typing.specs.Least.{Assignment}
use Rattle.pt_chart.specs.Chart.{chart_of}
use Rattle.pt_library.specs.declared.library_actor.LibraryActor.{LibraryActor}
use Rattle.pt_library.specs.LibraryActor.{rows}
use Rattle.pt_plan.specs.declared.inside.Inside.{Inside}
use Rattle.pt_core.specs.Source as core
use Rattle.pt_plan.specs.PlanOf.{IsPlanOf}
use Rattle.pt_plan.specs.Unfed as own_inputs
use Rattle.pt_plan.proofs.UnfedLaws.{unfed-below}
use Rattle.pt_node.specs.View.{Tree}
use Rattle.pt_trees.specs.declared.directing.Directing.{Directing}
use Rattle.pt_trees.specs.declared.directing.Directing.TheVariants.{By, Modal}
use Rattle.pt_trees.specs.Sdf.{IsInsideOf}
use Rattle.pt_trees.specs.Pn.{pn_plan}
use Rattle.pt_trees.specs.Rendezvous.{is_barrier, rv_plan}
use Rattle.pt_trees.specs.Directors.{IsDirectedBy, composing}
use Rattle.pt_stated.specs.declared.stated.Stated.{Stated}
use Rattle.pt_trees.specs.Rates.{all_given}
use Rattle.pt_trees.specs.Trees.{Starts, around_in, IsTree, of_actor, of_composite, AreTrees, no_trees, more_trees}
use Rattle.pt_trees.specs.Modal.{IsModalCore}
use Rattle.pt_trees.proofs.DirectorLaws.{is-directed}
use Rattle.pt_order.proofs.TreeCover.{directed-class}
use Rattle.pt_kinds.specs.Signature.{Signatures, AreOf}
use Rattle.pt_typed.specs.TokenTypes.{IsTokenOf}
use Rattle.pt_typed.specs.TypedActor.{MeetsRow, IsTypedActor}
use Rattle.pt_kinds.specs.TypedTree.{kind_of, kinds_from, kind_before, kinds_at, kinds_in, AreSized, AreFed, IsTypedNet, IsTypedSdf, IsTypedPn, IsTypedRv, IsTypedModal, IsTypedCore, IsTypedNode, AreTypedNodes}
use Rattle.pt_typed.specs.NetTypes.{number_if, port_numbers, source_type, place_type, TypesGoUp, types_below, IsWired}
use Rattle.pt_typed.specs.TypedNet.{MeetRows, MeetModals, TreesAreTyped}
use Rattle.pt_kinds.proofs.StreamLaws.{all-mono}
use Rattle.pt_typed.proofs.FirstPlaces.{seated-first, none-in-places}
use Rattle.pt_typed.proofs.TypeLaws.{token-wider}
use Rattle.pt_typed.proofs.ActorLaws.{rows-type, first-tokens}
use Rattle.pt_typed.proofs.NetLaws.{map-append, all-filtered, own-places, own-outputs, child-below, source-kind, kinds-are, sized, fed, their-own}
use Rattle.pt_typed.proofs.UnfedLaws.{behind-all, get-there, kinds-length, AreInputs, own-fed}

-- ---- lengths

listed : (ts : List Tree) → length (list_of (nodes_of ts)) ≡ length ts
listed [] = refl
listed (t ∷ ts) = ap (λ n. suc n) (listed ts)

held-length : (ts : List Tree) (cs : List Source) → length (first_held rows ts cs) ≡ length cs
held-length ts [] = refl
held-length ts (c ∷ cs) = ap (λ n. suc n) (held-length ts cs)

given-length : (declared : List (Option (List ℕ))) (kids : List Tree) → length (all_given declared kids) ≡ length kids
given-length declared [] = refl
given-length [] (kid ∷ kids) = ap (λ n. suc n) (given-length [] kids)
given-length (d ∷ declared) (kid ∷ kids) = ap (λ n. suc n) (given-length declared kids)

own-sources : (us : List ℕ) → map core.source_of (map own_inputs.own us) ≡ map Own us
own-sources [] = refl
own-sources (n ∷ us) = ap (λ cs. Own n ∷ cs) (own-sources us)

numbers-count : (test : Port → Bool) (i : ℕ) (ps : List Port) → length (port_numbers test i ps) ≡ length (filter test ps)
numbers-count test i [] = refl
numbers-count test i (p ∷ ps) = by_test (test p) (numbers-count test (suc i) ps)
  where
    by_test : (b : Bool) → length (port_numbers test (suc i) ps) ≡ length (filter test ps) → length (number_if b i (port_numbers test (suc i) ps)) ≡ length (if b then p ∷ filter test ps else filter test ps)
    by_test true rest = ap (λ n. suc n) rest
    by_test false rest = rest

module _ (net : Net) (typing : Assignment) (starts : Starts) (wired : IsWired net) (up : TypesGoUp net typing) (meet : MeetRows net typing starts) (meet_modals : MeetModals net typing starts) where
  trees-length : {cs : List ℕ} {ts : List Tree} → AreTrees net starts cs ts → length ts ≡ length cs
  trees-length no_trees = refl
  trees-length (more_trees k ks t ts a b) = ap (λ n. suc n) (trees-length b)

  -- ---- first tokens

  -- a library actor of the tree meets its row
  FirstMeets : ℕ → Tree → Type 0
  FirstMeets c (Actor h a b) = MeetsRow (types_below net typing c []) a
  FirstMeets c (Composite h a b kids) = Unit {0}

  first-meets : {c : ℕ} {t : Tree} → IsTree net starts c t → FirstMeets c t
  unfolding FirstMeets
  first-meets (of_actor k e a at undirected start) = meet k a start
  first-meets (of_composite k e by kids c at directed trees has) = tt

  kid-at : {cs : List ℕ} {ts : List Tree} → AreTrees net starts cs ts → (i : ℕ) (t : Tree) → get ts i ≡ Some t → (c : ℕ) × (slice_get cs i ≡ Some c) × FirstMeets c t
  kid-at no_trees i t e = absurd (cc)
  kid-at (more_trees k ks s ts a b) zero t e = let same : s ≡ t = same_Some s t e in (k, refl, subst (λ v. FirstMeets k v) same (first-meets a))
  kid-at (more_trees k ks s ts a b) (suc i) t e = kid-at b i t e

  module _ (k : ℕ) (e : NetEntity) (d : NetDirector) (at : slice_get net.entities.items k ≡ Some e) (directed : e.director ≡ Some d) (class : is_composite_class e.class ≡ true) (kids : List Tree) (trees : AreTrees net starts (children_of net.entities.items k) kids) where
    abbrev sigs : Signatures Datatype
    sigs = types_below net typing k

    node-first : (i port : ℕ) (u : Datatype) (o : Option Tree) → get kids i ≡ o → get (sigs (i ∷ [])).outputs port ≡ Some u → AllByRecursion (IsTokenOf u) (first_of_node rows o)
    unfolding FirstMeets
    node-first i port u None g h = tt
    node-first i port u (Some (Composite h' c d' ks)) g h = tt
    node-first i port u (Some (Actor h' a b)) g h =
        let w = kid-at trees i (Actor h' a b) g in
        first-tokens (sigs (i ∷ [])) a port u (subst (λ (s : Signatures Datatype). MeetsRow (s []) a) (sym (child-below net typing wired k e at class i w.0 w.1)) w.2) h

    source-first : (c : Source) (u : Datatype) → kind_of sigs c ≡ Some u → AllByRecursion (IsTokenOf u) (first_of rows kids c)
    source-first (Own port) u h = tt
    source-first (Output child port) u h = node-first child port u (get kids child) refl h

    -- the own ports of the composite
    inputs-count : length (sigs []).places ≡ count_by is_input e.ports.items
    inputs-count = ap length (own-places net typing wired k e at class) ∙ length-map (port_numbers is_input 0 e.ports.items) (λ i. typing.types (variable.Port k i)) ∙ numbers-count is_input 0 e.ports.items ∙ length-filter is_input e.ports.items

    outputs-count : length (sigs []).outputs ≡ count_by is_output e.ports.items
    outputs-count = ap length (own-outputs net typing wired k e at class) ∙ length-map (port_numbers is_output 0 e.ports.items) (λ i. typing.types (variable.Port k i)) ∙ numbers-count is_output 0 e.ports.items ∙ length-filter is_output e.ports.items

    -- where its channels begin that end at a place or at an own output, and how many places its children have
    abbrev ending : List Source
    ending = map (source_of net.entities.items) (channels_in net.channels.items k)

    abbrev places : List ℕ
    places = map (place_count net.channels.items) (children_of net.entities.items k)

    ending-count : length ending ≡ total places + length (sigs []).outputs
    ending-count =
        let all : length (kinds_from sigs [] 0 places) ≡ length (map (place_type typing) (channels_in net.channels.items k) ++ []) = ap length (kinds-are net typing wired k e d at directed class []) in
        omega (
          arith,
          all,
          kinds-length sigs [] 0 places (sized net typing wired k e d at directed class),
          length-append (map (place_type typing) (channels_in net.channels.items k)) [],
          length-map (channels_in net.channels.items k) (place_type typing),
          length-map (channels_in net.channels.items k) (source_of net.entities.items),
        )

    -- with channels from these own inputs, which feed nothing
    module _ (us : List ℕ) (there : AreInputs sigs us) where
      abbrev own : List Source
      own = map Own us

      held-own : (ns : List ℕ) → AreInputs sigs ns → AreOf IsTokenOf (kinds_at sigs (map Own ns)) (first_held rows kids (map Own ns))
      held-own [] h = tt
      held-own (n ∷ ns) h = by_kind (get (sigs []).places n) refl (held-own ns h.1)
        where
          by_kind : (o : Option Datatype) → get (sigs []).places n ≡ o → AreOf IsTokenOf (kinds_at sigs (map Own ns)) (first_held rows kids (map Own ns)) → AreOf IsTokenOf (kind_before o (kinds_at sigs (map Own ns))) ([] ∷ first_held rows kids (map Own ns))
          by_kind None e rest = absurd (get-there (sigs []).places n h.0 e)
          by_kind (Some t) e rest = (tt, rest)

      held-along : (cs : List Channel) → AllByRecursion (λ x. Contains net.channels.items x × (is_within k x ≡ true)) cs → AreOf IsTokenOf (map (place_type typing) cs ++ kinds_at sigs own) (first_held rows kids (map (source_of net.entities.items) cs ++ own))
      held-along [] a = held-own us there
      held-along (x ∷ cs) a = (
        all-mono (IsTokenOf (source_type typing x)) (IsTokenOf (place_type typing x)) (λ t h. token-wider (source_type typing x) (place_type typing x) t (up x a.0.0) h) (first_of rows kids (source_of net.entities.items x))
            (source-first (source_of net.entities.items x) (source_type typing x) (source-kind net typing wired k e d at directed class x (eqb-true x.composite k a.0.1) (wired.begin x a.0.0))),
        held-along cs a.1,
      )

      held-of : AreOf IsTokenOf (kinds_from sigs (kinds_at sigs own) 0 places) (first_held rows kids (ending ++ own))
      held-of = subst (λ ts. AreOf IsTokenOf ts (first_held rows kids (ending ++ own))) (sym (kinds-are net typing wired k e d at directed class (kinds_at sigs own))) (held-along (channels_in net.channels.items k) (all-filtered (Contains net.channels.items) (is_within k) net.channels.items (their-own net typing wired)))

      fed-of : AreFed {A = LibraryActor} IsTokenOf IsBelow IsTypedActor sigs (ending ++ own) (kinds_from sigs (kinds_at sigs own) 0 places)
      fed-of = fed net typing wired k e d at directed class IsTokenOf IsTypedActor up own (kinds_at sigs own) (own-fed IsTokenOf IsBelow IsTypedActor below-refl sigs us there)

      -- a plan of these channels has these kinds
      module _ (p : SdfPlan) (are-places : p.net.places ≡ places) (are-sources : p.net.sources ≡ ending ++ own) (given : length p.gives ≡ length (sigs []).outputs) where
        unfed-are : unfed p ≡ own
        unfed-are =
            let count : length ending ≡ total p.net.places + length p.gives = omega (arith, ending-count, given, ap total are-places) in
            ap (λ cs. drop (length p.gives) (skip_places p.net.places cs)) are-sources ∙ behind-all p.net.places (length p.gives) ending own count

        plan-kinds : kinds_from sigs (kinds_at sigs own) 0 places ≡ kinds_in sigs p
        plan-kinds = ap₂ (λ (cs : List Source) (ns : List ℕ). kinds_from sigs (kinds_at sigs cs) 0 ns) (sym unfed-are) (sym are-places)

        plan-fed : AreFed {A = LibraryActor} IsTokenOf IsBelow IsTypedActor sigs p.net.sources (kinds_in sigs p)
        plan-fed = subst (λ cs. AreFed {A = LibraryActor} IsTokenOf IsBelow IsTypedActor sigs cs (kinds_in sigs p)) (sym are-sources) (subst (λ ts. AreFed {A = LibraryActor} IsTokenOf IsBelow IsTypedActor sigs (ending ++ own) ts) plan-kinds fed-of)

        plan-held : AreOf IsTokenOf (kinds_in sigs p) (first_held rows kids p.net.sources)
        plan-held = subst (λ cs. AreOf IsTokenOf (kinds_in sigs p) (first_held rows kids cs)) (sym are-sources) (subst (λ ts. AreOf IsTokenOf ts (first_held rows kids (ending ++ own))) plan-kinds held-of)

        plan-room : total p.net.places ≤ length (first_held rows kids p.net.sources)
        plan-room = omega (arith, held-length kids p.net.sources, ap length are-sources, length-append ending own, ending-count, ap total are-places)

    unfed-there : (x : Inside) → x.inputs ≡ count_by is_input e.ports.items → AreInputs sigs (own_inputs.unfed x)
    unfed-there x count =
        let us = own_inputs.unfed x in
        subst (λ n. AllByRecursion (λ port. port < n) us) (count ∙ sym inputs-count) (recursion_from_All (λ port. port < x.inputs) us (unfed-below x.sources.items x.inputs))

    sdf-typed : (x : Inside) (p : SdfPlan) → IsInsideOf (around_in net starts k e) kids x → IsPlanOf x p → IsTypedSdf {A = LibraryActor} IsTokenOf IsBelow IsTypedActor sigs (length (list_of (nodes_of kids))) p (first_held rows kids p.net.sources)
    sdf-typed x p inside plan =
        let us = own_inputs.unfed x in
        let there = unfed-there x inside.inputs in
        let are-places : p.net.places ≡ places = ap (λ n. n.places) plan.net ∙ inside.places in
        let are-sources : p.net.sources ≡ ending ++ map Own us = ap (λ n. n.sources) plan.net ∙ map-append core.source_of x.sources.items (map own_inputs.own us) ∙ ap₂ (λ xs ys. xs ++ ys) inside.sources (own-sources us) in
        let given : length p.gives ≡ length (sigs []).outputs = plan.gives ∙ inside.outputs ∙ sym outputs-count in
        let count : length p.net.places ≡ length (list_of (nodes_of kids)) = ap length are-places ∙ length-map (children_of net.entities.items k) (place_count net.channels.items) ∙ sym (trees-length trees) ∙ sym (listed kids) in
        let its : length x.places ≡ length p.net.places = ap (λ n. length n.places) (sym plan.net) in
        let rated : length p.rates ≡ length kids = ap length plan.rates ∙ sym (length-map x.rates.items (λ (rs : List ℕ). Some rs)) ∙ ap length inside.rates ∙ given-length (around_in net starts k e).declared kids in
        record {
          typed_net = record {
            places_counted = count;
            sized = subst (λ ns. AreSized sigs 0 ns) (sym are-places) (sized net typing wired k e d at directed class);
            fed = plan-fed us there p are-places are-sources given;
          };
          repetitions_counted = plan.repetitions ∙ its ∙ count;
          rates_counted = rated ∙ sym (listed kids);
          gives_counted = given;
          room = plan-room us there p are-places are-sources given;
          held = plan-held us there p are-places are-sources given;
        }

    -- a tick along these channels
    tick-typed : IsTypedNet {A = LibraryActor} IsTokenOf IsBelow IsTypedActor sigs (length (list_of (nodes_of kids))) (record { sources = ending; places = places }) []
    tick-typed = record {
      places_counted = length-map (children_of net.entities.items k) (place_count net.channels.items) ∙ sym (trees-length trees) ∙ sym (listed kids);
      sized = sized net typing wired k e d at directed class;
      fed = subst (λ cs. AreFed {A = LibraryActor} IsTokenOf IsBelow IsTypedActor sigs cs (kinds_from sigs [] 0 places)) (append-nil ending) (fed-of [] tt);
    }

    -- a process network with the first tokens on these channels
    pn-typed : (stated : Stated) → IsTypedPn {A = LibraryActor} IsTokenOf IsBelow IsTypedActor sigs (length (list_of (nodes_of kids))) (pn_plan (around_in net starts k e) stated) (first_held rows kids ending)
    pn-typed stated = record {
      typed_net = tick-typed;
      room = omega (arith, held-length kids ending, ending-count);
      held = subst (λ cs. AreOf IsTokenOf (kinds_from sigs [] 0 places) (first_held rows kids cs)) (append-nil ending) (held-of [] tt);
    }

    -- processes that meet along these channels, at their first places
    rv-typed : (stated : Stated) → IsTypedRv {A = LibraryActor} IsTokenOf IsBelow IsTypedActor sigs (length (list_of (nodes_of kids))) (rv_plan (around_in net starts k e) kids stated) (first_places (rv_plan (around_in net starts k e) kids stated))
    rv-typed stated = record {
      typed_net = tick-typed;
      barriers_counted = length-map kids is_barrier ∙ sym (listed kids);
      seated = seated-first (rv_plan (around_in net starts k e) kids stated) (length (list_of (nodes_of kids))) tick-typed.places_counted;
      held = λ c t x stands is. absurd (none-in-places (rv_plan (around_in net starts k e) kids stated) c x stands);
    }

    -- so it is with the core that a director makes
    core-typed : (by : Director) (c : Core Token) → (composing (By by)).IsCore (around_in net starts k e) kids c → IsTypedCore {A = LibraryActor} IsTokenOf IsBelow IsTypedActor sigs (length (list_of (nodes_of kids))) c
    core-typed Sdf c has = subst (λ v. IsTypedCore {A = LibraryActor} IsTokenOf IsBelow IsTypedActor sigs (length (list_of (nodes_of kids))) v) (sym has.is) (sdf-typed has.inside has.plan has.is_inside has.planned)
    core-typed Sr c has = subst (λ v. IsTypedCore {A = LibraryActor} IsTokenOf IsBelow IsTypedActor sigs (length (list_of (nodes_of kids))) v) (sym has.is) tick-typed
    core-typed De c has = subst (λ v. IsTypedCore {A = LibraryActor} IsTokenOf IsBelow IsTypedActor sigs (length (list_of (nodes_of kids))) v) (sym has.is) tick-typed
    core-typed Pn c has = subst (λ v. IsTypedCore {A = LibraryActor} IsTokenOf IsBelow IsTypedActor sigs (length (list_of (nodes_of kids))) v) (sym has.is) (pn-typed has.wired.stated)
    core-typed Rendezvous c has = subst (λ v. IsTypedCore {A = LibraryActor} IsTokenOf IsBelow IsTypedActor sigs (length (list_of (nodes_of kids))) v) (sym has.is) (rv-typed has.wired.stated)

  -- and with that of a Modal entity
  modal-typed : (k : ℕ) (e : NetEntity) (at : slice_get net.entities.items k ≡ Some e) (kids : List Tree) → AreTrees net starts (children_of net.entities.items k) kids → (c : Core Token) → IsDirectedBy e Modal → IsModalCore (around_in net starts k e) kids c →
      IsTypedCore {A = LibraryActor} IsTokenOf IsBelow IsTypedActor (types_below net typing k) (length (list_of (nodes_of kids))) c
  modal-typed k e at kids trees c by has =
      let x = has.wired.machine in
      let met = meet_modals k (length kids) e x at by has.wired.is in
      let count : length (children_of net.entities.items k) ≡ length (list_of (nodes_of kids)) = sym (listed kids ∙ trees-length trees) in
      subst (λ v. IsTypedCore {A = LibraryActor} IsTokenOf IsBelow IsTypedActor (types_below net typing k) (length (list_of (nodes_of kids))) v) (sym has.is)
      (subst (λ (n : ℕ). IsTypedModal {A = LibraryActor} IsTokenOf IsBelow IsTypedActor (types_below net typing k) n (chart_of x) (first_modes (chart_of x) (length kids))) count met)

  -- with what directs it
  composite-typed : (k : ℕ) (e : NetEntity) (at : slice_get net.entities.items k ≡ Some e) (kids : List Tree) → AreTrees net starts (children_of net.entities.items k) kids → (by : Directing) (c : Core Token) → IsDirectedBy e by → (composing by).IsCore (around_in net starts k e) kids c →
      IsTypedCore {A = LibraryActor} IsTokenOf IsBelow IsTypedActor (types_below net typing k) (length (list_of (nodes_of kids))) c
  composite-typed k e at kids trees (By director) c by has = let w = is-directed e director by in core-typed k e w.director at w.has (directed-class e (By director) by) kids trees director c has
  composite-typed k e at kids trees Modal c by has = modal-typed k e at kids trees c by has

  -- ---- the tree

  mutual
    tree-typed : {k : ℕ} {t : Tree} → IsTree net starts k t → IsTypedNode IsTokenOf IsBelow IsTypedActor (types_below net typing k) t
    tree-typed (of_actor k e a at undirected start) = let fits = rows-type (types_below net typing k []) a (meet k a start) in (fits, fits)
    tree-typed (of_composite k e by kids c at directed trees has) =
        let typed = composite-typed k e at kids trees by c directed has in
        (typed, typed, trees-typed trees k e at (directed-class e by directed) 0 (λ j c h. ap (slice_get (children_of net.entities.items k)) (let z : 0 + j ≡ j = omega arith in z) ∙ h))

    trees-typed : {cs : List ℕ} {ts : List Tree} → AreTrees net starts cs ts → (k : ℕ) (e : NetEntity) → slice_get net.entities.items k ≡ Some e → is_composite_class e.class ≡ true → (i : ℕ) → ((j c : ℕ) → slice_get cs j ≡ Some c → slice_get (children_of net.entities.items k) (i + j) ≡ Some c) →
        AreTypedNodes IsTokenOf IsBelow IsTypedActor (types_below net typing k) i (nodes_of ts)
    trees-typed no_trees k e at class i h = tt
    trees-typed (more_trees c cs t ts a b) k e at class i h =
        let here : slice_get (children_of net.entities.items k) i ≡ Some c = ap (slice_get (children_of net.entities.items k)) (let z : i ≡ i + 0 = omega arith in z) ∙ h 0 c refl in (
          subst (λ (s : Signatures Datatype). IsTypedNode IsTokenOf IsBelow IsTypedActor s t) (sym (child-below net typing wired k e at class i c here)) (tree-typed a),
          trees-typed b k e at class (suc i) (λ j n g. ap (slice_get (children_of net.entities.items k)) (let z : suc i + j ≡ i + suc j = omega arith in z) ∙ h (suc j) n g),
        )

pub trees-are-typed : TreesAreTyped
trees-are-typed net typing starts k t wired up meet meet_modals is = tree-typed net typing starts wired up meet meet_modals is
