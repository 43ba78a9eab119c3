-- Each recorded port of a net has its number in the tree that is built from it, once.
use Rattle.std.proofs.Common.{◌≡◌, inl, inr, ◌<◌, ◌+◌, ℕ, suc, List, [], ◌∷◌, ◌++◌, Bool, true, false, nat_eq, Option, Some, None, map, length, codes, bytes_eq, option_map, ◌||◌, refl, sym, ap, ap₂, subst, ◌∙◌, arith}
use Rattle.std.specs.Prelude.{IsTrue}
use Rattle.std.proofs.lemmas.Bool.{cases_eq, eq-eqb, ne_eqb}
use Rattle.std.proofs.lemmas.Option.{none-some, slice_get-map}
use Rattle.std.proofs.lemmas.Slice.Eq.{bytes_eq-Decides}
use Rattle.std.specs.List.{slice_get}
use Rattle.pt_document.specs.Document.{JobTree}
use Rattle.pt_net.specs.declared.net.Net.{Net}
use Rattle.pt_net.specs.declared.net.NetEntity.{NetEntity}
use Rattle.pt_net.specs.declared.net.NetPort.{NetPort}
use Rattle.pt_net.specs.Net.{entity_view, IsNetOf}
use Rattle.pt_scopes.specs.Scopes.{net_view, is_composite_class}
use Rattle.pt_start.specs.Nested.{IsNested}
use Rattle.pt_net.specs.Inside.{is_number}
use Rattle.pt_lib_flow.specs.declared.flow_actor.Class.{Class}
use Rattle.pt_flow_base.specs.declared.params.Params.{Params}
use Rattle.pt_lib_flow.specs.FlowActor as flow_actor
use Rattle.pt_lib_data.specs.declared.function.Class.{Class as DataClass}
use Rattle.pt_lib_data.specs.Function as function
use Rattle.pt_lib_data.specs.DataActor as data_actor
use Rattle.pt_lib_time.specs.declared.time_actor.Class.{Class as TimeClass}
use Rattle.pt_lib_time.specs.TimeActor as time_actor
use Rattle.pt_lib_timed.specs.declared.timed_actor.Class.{Class as TimedClass}
use Rattle.pt_lib_timed.specs.TimedActor as timed_actor
use Rattle.pt_library.specs.LibraryActor.{start}
use Rattle.pt_library.specs.declared.library_actor.LibraryActor.TheVariants.{Flow, Data, Time, Timed}
use Rattle.std.specs.Option.{option_or}
use Rattle.pt_past.specs.Recorded.{RecordedPort}
use Rattle.pt_node.specs.Shown.{Shown, AllShown, Branch, none, more, list_of}
use Rattle.pt_trees.specs.Composite.{frame_in, children_in}
use Rattle.pt_trees.specs.Trees.{IsEntity, Starts}
use Rattle.pt_trees.specs.Recorded.{numbers_at, recorded_at, recorded_of}
use Rattle.pt_trees.specs.Built.{IsBuilt, AreBuilt, built_actor, built_composite, none_built, more_built}
use Rattle.pt_trees.specs.Ports.{Listed, own_ports, seen_below, ports_in, ports_below, listed_if, of_number, outputs_in, outputs_below, AreBelow, AreNumbered}
use Rattle.pt_cover.specs.Leaves.{ActorsAreLeaves, AreStartedByClass}
use Rattle.pt_cover.proofs.Nesting.{IsRooted, get-within, net-nested, net-rooted}
use Rattle.pt_cover.proofs.Matching.{one_if, times_in, matching, numbers-match, times-matching, AllBelow, matching-below}
use Rattle.pt_cover.proofs.Recorded.{recorded-there}
use Rattle.pt_cover.proofs.Nodes.{AreChildless, AreRooted, nodes, nodes_in, one-node}

-- ---- library actors have nothing within them

-- no library has a class of this name
no-class : {C : Type 0} (class_of : List ℕ → Option C) → class_of (codes "Composite") ≡ None → class_of (codes "Modal") ≡ None → (class : List ℕ) → IsTrue (is_composite_class class) → class_of class ≡ None
no-class class_of composite modal class passes = by-name (bytes_eq class (codes "Composite")) (bytes_eq class (codes "Modal")) refl refl passes
  where
    by-name : (b c : Bool) → bytes_eq class (codes "Composite") ≡ b → bytes_eq class (codes "Modal") ≡ c → (b || c) ≡ true → class_of class ≡ None
    by-name true c is also passes = ap class_of ((bytes_eq-Decides class (codes "Composite")).0 is) ∙ composite
    by-name false true is also passes = ap class_of ((bytes_eq-Decides class (codes "Modal")).0 also) ∙ modal
    by-name false false is also passes = absurd cc

no-start : (params : Params) → IsTrue (is_composite_class params.class) → start params ≡ None
no-start params passes =
    let of-flow : flow_actor.start params ≡ None = ap (λ (c : Option Class). flow_actor.start_in c params) (no-class flow_actor.class_of refl refl params.class passes) in
    let of-data : data_actor.start params.class params.values params.ports ≡ None = ap (λ (c : Option DataClass). data_actor.start_in c params.values params.ports) (no-class function.class_of refl refl params.class passes) in
    let of-time : time_actor.start params ≡ None = ap (λ (c : Option TimeClass). time_actor.start_in c params) (no-class time_actor.class_of refl refl params.class passes) in
    let of-timed : timed_actor.start params ≡ None = ap (λ (c : Option TimedClass). timed_actor.start_in c params) (no-class timed_actor.class_of refl refl params.class passes) in
    ap (λ o. option_or (option_map Flow o) (option_or (option_map Data (data_actor.start params.class params.values params.ports)) (option_or (option_map Time (time_actor.start params)) (option_map Timed (timed_actor.start params))))) of-flow
    ∙ ap (λ o. option_or (option_map Data o) (option_or (option_map Time (time_actor.start params)) (option_map Timed (timed_actor.start params)))) of-data ∙ ap (λ o. option_or (option_map Time o) (option_map Timed (timed_actor.start params))) of-time ∙ ap (option_map Timed) of-timed

pub childless : (net : Net) (starts : Starts) → IsNested (net_view net) → AreStartedByClass net starts → AreChildless net starts
childless net starts nested started k e a at is o d there = of-parent d.parent refl
  where
    view-at : (n : ℕ) (x : NetEntity) → IsEntity net n x → slice_get (map entity_view net.entities.items) n ≡ Some (entity_view x)
    view-at n x h = slice_get-map entity_view net.entities.items n ∙ ap (λ (p : Option NetEntity). option_map entity_view p) h

    never : d.parent ≡ Some k → ⊥
    never h =
        let composite : IsTrue (is_composite_class e.class) = (nested.entities o (entity_view d) (view-at o d there)).opaque k (entity_view e) h (view-at k e at) in
        let from = started k e a at is in
        let none : start from.0 ≡ None = no-start from.0 (subst (λ c. IsTrue (is_composite_class c)) (sym from.1) composite) in
        none-some a (sym none ∙ from.2)

    of-parent : (p : Option ℕ) → d.parent ≡ p → is_number k d.parent ≡ false
    of-parent None h = ap (is_number k) h
    of-parent (Some j) h = ap (is_number k) h ∙ ne_eqb j k (λ same. never (h ∙ ap Some same))

pub entities-rooted : (net : Net) → IsRooted (net_view net) → AreRooted net
entities-rooted net r = record { top = λ e at. r.top (entity_view e) (view-at 0 e at); others = λ k e later at. r.others k (entity_view e) later (view-at k e at) }
  where
    view-at : (n : ℕ) (x : NetEntity) → IsEntity net n x → slice_get (map entity_view net.entities.items) n ≡ Some (entity_view x)
    view-at n x h = slice_get-map entity_view net.entities.items n ∙ ap (λ (p : Option NetEntity). option_map entity_view p) h

-- ---- ports of one number

number-if : (b : Bool) (x : Listed) (xs : List Listed) → length (listed_if b x xs) ≡ one_if b + length xs
number-if true x xs = omega arith
number-if false x xs = omega arith

number-append : (n : ℕ) (xs ys : List Listed) → length (of_number n (xs ++ ys)) ≡ length (of_number n xs) + length (of_number n ys)
number-append n [] ys = omega arith
number-append n (x ∷ xs) ys =
    let more = number-append n xs ys in
    let joined = number-if (nat_eq x.output.number n) x (of_number n (xs ++ ys)) in
    let first = number-if (nat_eq x.output.number n) x (of_number n xs) in
    omega (arith, more, joined, first)

number-below : (n i : ℕ) (xs : List Listed) → length (of_number n (seen_below i xs)) ≡ length (of_number n xs)
number-below n i [] = refl
number-below n i (x ∷ xs) =
    let more = number-below n i xs in
    let lifted = number-if (nat_eq x.output.number n) (record { path = i ∷ x.path; output = x.output }) (of_number n (seen_below i xs)) in
    let first = number-if (nat_eq x.output.number n) x (of_number n xs) in
    omega (arith, more, lifted, first)

eqb-sym : (m n : ℕ) → nat_eq m n ≡ nat_eq n m
eqb-sym m n = elim (cases_eq m n) [ inl same ↦ eq-eqb m n same ∙ sym (eq-eqb n m (sym same)) | inr other ↦ ne_eqb m n other ∙ sym (ne_eqb n m (λ e. other (sym e))) ]

number-own : (net : Net) (e : NetEntity) (n : ℕ) (ms : List ℕ) → length (of_number n (own_ports (map (recorded_at net e) ms))) ≡ times_in n ms
number-own net e n [] = refl
number-own net e n (m ∷ ms) =
    let more = number-own net e n ms in
    let first = number-if (nat_eq m n) (record { path = []; output = recorded_at net e m }) (of_number n (own_ports (map (recorded_at net e) ms))) in
    let same = ap one_if (eqb-sym m n) in
    omega (arith, more, first, same)

-- how many there are in nodes
abbrev number_in : ℕ → List Shown → ℕ
number_in n [] = 0
number_in n (s ∷ ss) = length (of_number n (ports_in s)) + number_in n ss

number-kids : (n i : ℕ) (ks : AllShown) → length (of_number n (ports_below i ks)) ≡ number_in n (list_of ks)
number-kids n i none = refl
number-kids n i (more s ss) =
    let parts_are = number-append n (seen_below i (ports_in s)) (ports_below (suc i) ss) in
    let first = number-below n i (ports_in s) in
    let rest = number-kids n (suc i) ss in
    omega (arith, parts_are, first, rest)

number-node : (n : ℕ) (s : Shown) (rs : List RecordedPort) (kids : List Shown) → (frame_in s).records ≡ rs → children_in s ≡ kids → length (of_number n (ports_in s)) ≡ length (of_number n (own_ports rs)) + number_in n kids
number-node n (Branch f ks) rs kids records_are children =
    number-append n (own_ports f.records) (ports_below 0 ks) ∙ ap₂ (λ a b. a + b) (ap (λ (xs : List RecordedPort). length (of_number n (own_ports xs))) records_are) (number-kids n 0 ks ∙ ap (number_in n) children)

module _ (net : Net) (starts : Starts) (n : ℕ) (port : NetPort) (at : slice_get net.recorded.items n ≡ Some port) where
  numbers-own : (k : ℕ) (e : NetEntity) → length (of_number n (own_ports (recorded_of net k e))) ≡ one_if (nat_eq port.entity k)
  numbers-own k e =
      let here : 0 + n ≡ n = omega arith in
      number-own net e n (numbers_at k net.recorded.items) ∙ ap (times_in n) (numbers-match k 0 net.recorded.items) ∙
      subst (λ (m : ℕ). times_in m (matching (λ (p : NetPort). nat_eq p.entity k) 0 net.recorded.items) ≡ one_if (nat_eq port.entity k)) here (times-matching (λ (p : NetPort). nat_eq p.entity k) 0 n net.recorded.items port at)

  mutual
    pub number-of : {k : ℕ} {s : Shown} (b : IsBuilt net starts k s) → length (of_number n (ports_in s)) ≡ nodes net starts (nat_eq port.entity) b
    number-of (built_actor k e a there undirected is) =
        let whole = number-append n (own_ports (recorded_of net k e)) [] in
        let own = numbers-own k e in
        omega (arith, whole, own)
    number-of (built_composite k e director kids s there directed are is) =
        let whole = number-node n s (recorded_of net k e) kids is.records_are is.children in
        let own = numbers-own k e in
        let rest = number-of-in are in
        omega (arith, whole, own, rest)

    number-of-in : {ks : List ℕ} {kids : List Shown} (bs : AreBuilt net starts ks kids) → number_in n kids ≡ nodes_in net starts (nat_eq port.entity) bs
    number-of-in none_built = refl
    number-of-in (more_built k ks s ss b bs) = let first = number-of b in let rest = number-of-in bs in omega (arith, first, rest)

-- ---- no other numbers

below-append : (count : ℕ) (rs ss : List RecordedPort) → AreBelow count rs → AreBelow count ss → AreBelow count (rs ++ ss)
below-append count [] ss a b = b
below-append count (r ∷ rs) ss a b = (a.0, below-append count rs ss a.1 b)

below-recorded : (net : Net) (e : NetEntity) (count : ℕ) (ms : List ℕ) → AllBelow count ms → AreBelow count (map (recorded_at net e) ms)
below-recorded net e count [] all = tt
below-recorded net e count (m ∷ ms) all = (all.0, below-recorded net e count ms all.1)

below-own : (net : Net) (k : ℕ) (e : NetEntity) → AreBelow (length net.recorded.items) (recorded_of net k e)
below-own net k e = below-recorded net e (length net.recorded.items) (numbers_at k net.recorded.items) (subst (AllBelow (length net.recorded.items)) (sym (numbers-match k 0 net.recorded.items)) (matching-below (λ (p : NetPort). nat_eq p.entity k) (length net.recorded.items) 0 net.recorded.items (omega arith)))

abbrev AllKidsBelow : ℕ → List Shown → Type 0
AllKidsBelow count [] = Unit {0}
AllKidsBelow count (s ∷ ss) = AreBelow count (outputs_in s) × AllKidsBelow count ss

below-kids : (count : ℕ) (ks : AllShown) → AllKidsBelow count (list_of ks) → AreBelow count (outputs_below ks)
below-kids count none all = tt
below-kids count (more s ss) all = below-append count (outputs_in s) (outputs_below ss) all.0 (below-kids count ss all.1)

below-node : (count : ℕ) (s : Shown) (rs : List RecordedPort) (kids : List Shown) → (frame_in s).records ≡ rs → children_in s ≡ kids → AreBelow count rs → AllKidsBelow count kids → AreBelow count (outputs_in s)
below-node count (Branch f ks) rs kids records_are children own all = below-append count f.records (outputs_below ks) (subst (AreBelow count) (sym records_are) own) (below-kids count ks (subst (AllKidsBelow count) (sym children) all))

module _ (net : Net) (starts : Starts) where
  mutual
    outputs-below : {k : ℕ} {s : Shown} (b : IsBuilt net starts k s) → AreBelow (length net.recorded.items) (outputs_in s)
    outputs-below (built_actor k e a there undirected is) = below-append (length net.recorded.items) (recorded_of net k e) [] (below-own net k e) tt
    outputs-below (built_composite k e director kids s there directed are is) = below-node (length net.recorded.items) s (recorded_of net k e) kids is.records_are is.children (below-own net k e) (kids-below are)

    kids-below : {ks : List ℕ} {kids : List Shown} (bs : AreBuilt net starts ks kids) → AllKidsBelow (length net.recorded.items) kids
    kids-below none_built = tt
    kids-below (more_built k ks s ss b bs) = (outputs-below b, kids-below bs)

-- ---- the law

pub numbered : (job : JobTree) (net : Net) (starts : Starts) (s : Shown) → ActorsAreLeaves job → IsNetOf job net → AreStartedByClass net starts → IsBuilt net starts 0 s → AreNumbered (length net.recorded.items) s
numbered job net starts s leaves is started built = record { once = once; below = outputs-below net starts built }
  where
    once : (n : ℕ) → n < length net.recorded.items → length (of_number n (ports_in s)) ≡ 1
    once n l =
        let port = get-within net.recorded.items n l in
        let there = recorded-there job net leaves is n port.0 port.1 in
        number-of net starts n port.0 port.1 built ∙ one-node net starts (childless net starts (net-nested job net leaves is) started) (entities-rooted net (net-rooted job net leaves is)) built port.0.entity there.entity there.is_entity
