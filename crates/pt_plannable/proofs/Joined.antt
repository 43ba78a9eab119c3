-- The inside of a composite of SDF.
use Rattle.std.proofs.Common.{◌≡◌, ◌≤◌, ◌<◌, ◌^◌, inl, inr, ℕ, suc, List, [], ◌∷◌, Bool, true, false, not, cond, Some, length, map, filter, take, get_or, refl, sym, ap, subst, ◌∙◌, arith, if◌then◌else◌}
use Rattle.std.specs.Prelude.{slice_get, count_by, Vec}
use Rattle.std.specs.Global.{Global}
use Rattle.std.specs.List.{AllByRecursion, All, Contains}
use Rattle.std.proofs.lemmas.Bool.{eq-eqb, ne_eqb, eqb-true}
use Rattle.std.proofs.lemmas.List.{length-map}
use Rattle.std.proofs.lemmas.List.Elements.{All-from_recursion, All-weaker}
use Rattle.std.proofs.lemmas.List.Sums.{length-filter}
use Rattle.pt_meaning.specs.Net as net_spec
use Rattle.pt_laws.specs.StartedRuns.{IsThere, AllThere}
use Rattle.pt_document.specs.declared.job.Port.{Port}
use Rattle.pt_net.specs.declared.net.Channel.{Channel}
use Rattle.pt_net.specs.declared.net.Net.{Net}
use Rattle.pt_net.specs.declared.net.NetEntity.{NetEntity}
use Rattle.pt_net.specs.Inside.{children_of, child_number, is_input, is_output, number_by, port_number, ports_in, ports_at, source_of, is_within, place_count}
use Rattle.pt_core.specs.declared.source.Source.{Source}
use Rattle.pt_core.specs.declared.source.Source.TheVariants as code
use Rattle.pt_core.specs.Source as core_source
use Rattle.pt_scopes.proofs.Places.{count-below}
use Rattle.pt_plan.specs.declared.inside.Inside.{Inside}
use Rattle.pt_plan.specs.Inside as plan_inside
use Rattle.pt_plan.specs.Inside.{IsInside, IsRate}
use Rattle.pt_node.specs.View.{Tree}
use Rattle.pt_stated.specs.Laws.{StatedIsLawful}
use Rattle.pt_trees.specs.Around.{Around}
use Rattle.pt_trees.specs.Rates.{is_steady, AreSteady, HasUnsteady}
use Rattle.pt_trees.specs.Sdf.{first_counts, IsInsideOf}
use Rattle.pt_trees.specs.Trees.{IsEntity, Starts, around_in}
use Rattle.pt_order.specs.Wired.{BeginsIn, at_own, at_child}
use Rattle.pt_order.proofs.Children.{child-number, child-stands}
use Rattle.pt_buildable.proofs.Joined.{children-steady}
use Rattle.pt_plannable.specs.Laws.{InsidesAreThere}
use Rattle.pt_plannable.proofs.Counts.{AreRates}
use Rattle.pt_plannable.proofs.Kids.{plannable}
use Rattle.pt_plannable.proofs.Gathered.{ArePlannable, all-plannable, needs-rates, AllGiven, HasRates, rates-there, given-long, given-rates, given-outputs, firsts-few, firsts-long}

-- ---- lists of the code

-- a vector of these elements, where another one is
abbrev vec-of : {X Y : Type 0} → Vec X Global → (ys : List Y) → length ys < 2 ^ 63 → Vec Y Global
vec-of v ys few = record { ptr = v.ptr; len = length ys; cap = length ys; alloc = v.alloc; items = ys; ok = (refl, omega arith); small = few }

abbrev coded : net_spec.Source → Source
coded (net_spec.Own port) = code.Own port
coded (net_spec.Output child port) = code.Output child port

coded-back : (xs : List net_spec.Source) → map core_source.source_of (map coded xs) ≡ xs
coded-back [] = refl
coded-back (net_spec.Own port ∷ xs) = ap (λ ys. net_spec.Own port ∷ ys) (coded-back xs)
coded-back (net_spec.Output child port ∷ xs) = ap (λ ys. net_spec.Output child port ∷ ys) (coded-back xs)

-- ---- where channels begin

-- at an own input, or at an output that a child has a rate for
abbrev HasRate : (inputs children : ℕ) → List (List ℕ) → net_spec.Source → Type 0
HasRate inputs children rates (net_spec.Own port) = port < inputs
HasRate inputs children rates (net_spec.Output child port) = (child < children) × (port < length (get_or rates child []))

with-rate : (inputs children : ℕ) (rates : List (List ℕ)) (s : net_spec.Source) → IsThere inputs children s → ((child port : ℕ) → s ≡ net_spec.Output child port → port < length (get_or rates child [])) → HasRate inputs children rates s
with-rate inputs children rates (net_spec.Own port) there h = there
with-rate inputs children rates (net_spec.Output child port) there h = (there, h child port refl)

-- the number of an output among the outputs
output-number : (ports : List Port) (i : ℕ) (p : Port) → slice_get ports i ≡ Some p → is_output p ≡ true → port_number ports i < count_by is_output ports
output-number ports i p at output =
    let is : port_number ports i ≡ count_by is_output (take i ports) = ap (number_by (take i ports)) at ∙ ap (λ b. if b then count_by is_input (take i ports) else count_by is_output (take i ports)) (inward-not (is_input p) output) in
    let below = count-below is_output ports i p at output in
    let all = length-filter is_output ports in
    omega (arith, is, below, all)
  where
    inward-not : (b : Bool) → not b ≡ true → b ≡ false
    inward-not true e = sym e
    inward-not false e = refl

same-output : (c d i j : ℕ) → net_spec.Output c i ≡ net_spec.Output d j → (c ≡ d) × (i ≡ j)
same-output c d i j e = (cc, cc)

module _ (net : Net) (k : ℕ) (owner : NetEntity) (at-owner : IsEntity net k owner) where
  abbrev es : List NetEntity
  es = net.entities.items

  begins-given : (starts : Starts) (rates : List (List ℕ)) → AllGiven net starts (children_of es k) rates → (x : Channel) → x.composite ≡ k → BeginsIn net x → (child port : ℕ) → source_of es x ≡ net_spec.Output child port → port < length (get_or rates child [])
  begins-given starts rates given x in_k (at_own e p own at at-port input) child port s =
      let is : source_of es x ≡ net_spec.Own (port_number (ports_at es x.from.entity) x.from.port) = ap (λ b. if b then net_spec.Own (port_number (ports_at es x.from.entity) x.from.port) else net_spec.Output (child_number es x.from.entity) (port_number (ports_at es x.from.entity) x.from.port)) (eq-eqb x.from.entity x.composite own) in
      let no : net_spec.Own (port_number (ports_at es x.from.entity) x.from.port) ≡ net_spec.Output child port = sym is ∙ s in
      absurd (cc)
  begins-given starts rates given x in_k (at_child e p other at parent at-port output) child port s =
      let number : ℕ = port_number (ports_at es x.from.entity) x.from.port in
      let is : source_of es x ≡ net_spec.Output (child_number es x.from.entity) number = ap (λ b. if b then net_spec.Own (port_number (ports_at es x.from.entity) x.from.port) else net_spec.Output (child_number es x.from.entity) (port_number (ports_at es x.from.entity) x.from.port)) (ne_eqb x.from.entity x.composite other) in
      let same = same-output (child_number es x.from.entity) child number port (sym is ∙ s) in
      let stands = child-number es x.from.entity k e owner at (parent ∙ ap (λ c. Some c) in_k) at-owner in
      let its : ports_at es x.from.entity ≡ e.ports.items = ap ports_in at in
      let below : number < count_by is_output e.ports.items = subst (λ (ps : List Port). port_number ps x.from.port < count_by is_output e.ports.items) (sym its) (output-number e.ports.items x.from.port p at-port output) in
      let long = given-outputs net starts (children_of es k) rates (child_number es x.from.entity) x.from.entity e given stands at in
      let rated : number < length (get_or rates (child_number es x.from.entity) []) = omega (arith, below, long) in
      subst (λ c. port < length (get_or rates c [])) same.0 (subst (λ n. n < length (get_or rates (child_number es x.from.entity) [])) same.1 rated)

-- of each channel of a composite
rates-all : (es : List NetEntity) (inputs children : ℕ) (rates : List (List ℕ)) (k : ℕ) (xs : List Channel) → ((x : Channel) → Contains xs x → is_within k x ≡ true → (child port : ℕ) → source_of es x ≡ net_spec.Output child port → port < length (get_or rates child [])) →
    AllThere inputs children (map (source_of es) (filter (is_within k) xs)) → AllByRecursion (HasRate inputs children rates) (map (source_of es) (filter (is_within k) xs))
rates-all es inputs children rates k [] h there = tt
rates-all es inputs children rates k (x ∷ xs) h there = chosen (is_within k x) refl there (rates-all es inputs children rates k xs (λ y c. h y (suc c.0, omega (arith, c.1), c.2)))
  where
    chosen : (b : Bool) → is_within k x ≡ b → AllThere inputs children (map (source_of es) (cond b (x ∷ filter (is_within k) xs) (filter (is_within k) xs))) → (AllThere inputs children (map (source_of es) (filter (is_within k) xs)) → AllByRecursion (HasRate inputs children rates) (map (source_of es) (filter (is_within k) xs))) →
        AllByRecursion (HasRate inputs children rates) (map (source_of es) (cond b (x ∷ filter (is_within k) xs) (filter (is_within k) xs)))
    chosen true is there more = (with-rate inputs children rates (source_of es x) there.0 (h x (0, omega arith, refl) is), more there.1)
    chosen false is there more = more there

there-coded : (x : Inside) (rates : List (List ℕ)) (xs : List net_spec.Source) → x.rates.items ≡ rates → AllByRecursion (HasRate x.inputs (length x.places) rates) xs → AllByRecursion (plan_inside.IsThere x) (map coded xs)
there-coded x rates [] e a = tt
there-coded x rates (net_spec.Own port ∷ xs) e a = (a.0, there-coded x rates xs e a.1)
there-coded x rates (net_spec.Output child port ∷ xs) e a = ((a.0.0, subst (λ (v : List (List ℕ)). port < length (get_or v child [])) (sym e) a.0.1), there-coded x rates xs e a.1)

-- ---- the inside

not-unsteady : (kids : List Tree) (around : Around) → (HasUnsteady around kids → ⊥) → AreSteady kids
not-unsteady kids around none i kid at = by_test (is_steady kid) refl
  where
    by_test : (b : Bool) → is_steady kid ≡ b → b ≡ true
    by_test true is = refl
    by_test false is = absurd (none (i, kid, at, inl is))

pub insides-there : StatedIsLawful → InsidesAreThere
insides-there law net values typing starts k e kids order valued placed started stated machines processes at sdf trees wired few =
    let around : Around = around_in net starts k e in
    let cs : List ℕ = children_of net.entities.items k in
    let steady : (HasUnsteady around kids → ⊥) = (λ unsteady. processes (children-steady net values typing starts k e kids valued placed started at sdf trees unsteady)) in
    let are : ArePlannable net starts cs kids = all-plannable net starts trees (λ i c kid stands is. let child = child-stands k net.entities.items i c stands in record { entity = child.0; there = child.1; is = plannable law net values typing starts order.class_ports valued placed started stated machines k c e child.0 at sdf child.1 child.2 kid is }) in
    let its : HasRates net starts cs kids = rates-there net starts cs kids are (λ i kid stands none. steady (i, kid, stands, inr none)) in
    let long : length its.rates ≡ length cs = given-long net starts cs its.rates its.given in
    let children : length around.places ≡ length cs = length-map cs (place_count net.channels.items) in
    let fewer = wired.fewer in
    let few-sources : length (map coded around.sources) < 2 ^ 63 = (let same = length-map around.sources coded in omega (arith, same, few)) in
    let few-rates : length its.rates < 2 ^ 63 = omega (arith, long, children, fewer) in
    let x : Inside = record { sources = vec-of net.channels (map coded around.sources) few-sources; places = around.places; needs = wired.needs; rates = vec-of net.channels its.rates few-rates; first = first_counts kids around.sources; inputs = around.inputs; outputs = around.outputs } in
    let sources-long : length (map coded around.sources) ≡ length around.sources = length-map around.sources coded in
    let firsts = firsts-long net starts kids around.sources in
    let begin : AllByRecursion (HasRate around.inputs (length around.places) its.rates) around.sources =
    rates-all net.entities.items around.inputs (length around.places) its.rates k net.channels.items (λ y c within child port s. begins-given net k e at starts its.rates its.given y (eqb-true y.composite k within) (order.wired.begin y c) child port s) wired.there in
    let inside : IsInsideOf around kids x = record { sources = coded-back around.sources; places = refl; needs = wired.needed; steady = not-unsteady kids around steady; rates = its.are; first = refl; inputs = refl; outputs = refl } in
    let formed : IsInside x = record {
      needed = wired.counted;
      rated = long ∙ sym children;
      channels = sources-long ∙ wired.channels;
      few = omega (arith, few, sources-long);
      started = firsts ∙ sym sources-long;
      there = All-from_recursion (plan_inside.IsThere x) (map coded around.sources) (there-coded x its.rates around.sources (refl {A = List (List ℕ)}) begin);
      needs = All-from_recursion IsRate wired.needs (needs-rates net starts cs kids around.places wired.needs are wired.needed wired.counted);
      rates = All-weaker AreRates (λ (row : List ℕ). All IsRate row) (λ row h. All-from_recursion IsRate row h) its.rates (All-from_recursion AreRates its.rates (given-rates net starts cs its.rates its.given));
      firsts = All-from_recursion (λ n. n ≤ 2 ^ 32) (first_counts kids around.sources) (firsts-few net starts cs kids around.sources are);
    } in
    (x, inside, formed)
