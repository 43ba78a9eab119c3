-- The Modal entities of a net whose types break nowhere keep to these.
use Rattle.std.proofs.Common.{◌≡◌, ◌+◌, ℕ, zero, suc, List, [], ◌∷◌, length, map, get_or, Bool, true, false, ◌||◌, Option, Some, None, codes, bytes_eq, refl, sym, ap, subst, ◌∙◌, arith, slice_get}
use Rattle.std.specs.Prelude.{option_map}
use Rattle.std.specs.Option.{is_some}
use Rattle.std.specs.List.{AllZip, list_any}
use Rattle.std.proofs.Math.Bool.{or-true}
use Rattle.std.proofs.lemmas.Bool.{both_ways, eq-eqb}
use Rattle.std.proofs.lemmas.List.{length-map}
use Rattle.std.proofs.lemmas.Option.{none-some, same_Some, slice_get-map}
use Rattle.pt_meaning.specs.Streams.{get}
use Rattle.pt_meaning.specs.Modal.{first_modes}
use Rattle.pt_value.specs.Value.{Value}
use Rattle.pt_value.specs.Token.{token_of, value_of-token_of}
use Rattle.pt_value.specs.declared.token.Token.{Token}
use Rattle.pt_datatypes.specs.Datatype.{Datatype}
use Rattle.pt_datatypes.specs.Order.{IsBelow, is_below}
use Rattle.pt_datatypes.specs.Token.{type_of_value}
use Rattle.pt_datatypes.proofs.Order.{below-refl}
use Rattle.pt_document.specs.declared.job.Direction.TheVariants.{Input, Output}
use Rattle.pt_document.specs.declared.job.Port.{Port}
use Rattle.pt_document.specs.Document.{PropertyTree}
use Rattle.pt_document.specs.View.{port_view}
use Rattle.pt_language.specs.Scope.{port_in}
use Rattle.pt_net.specs.declared.net.Net.{Net}
use Rattle.pt_net.specs.declared.net.NetDirector.{NetDirector}
use Rattle.pt_net.specs.declared.net.NetEntity.{NetEntity}
use Rattle.pt_net.specs.Net.{NetEntityTree, entity_view, director_view, transparent_view}
use Rattle.pt_net.specs.Inside.{is_number, children_of, is_input, is_output}
use Rattle.pt_scopes.specs.declared.values.Values.{Values}
use Rattle.pt_scopes.specs.Scopes.{net_view, bound, is_composite_class}
use Rattle.pt_scopes.specs.Valued.{EntityView, IsVariable, IsEntityValued, IsValued}
use Rattle.pt_scopes.specs.Valued.{entity_view as valued_view}
use Rattle.pt_start.specs.Nested.{IsNested}
use Rattle.pt_start.proofs.Outward.{view-at}
use Rattle.pt_typing.specs.declared.variable.Variable.TheVariants as variable
use Rattle.pt_typing.specs.Terms.{has_type}
use Rattle.pt_typing.specs.Least.{Assignment}
use Rattle.pt_inequalities.specs.Frames.{frames_of}
use Rattle.pt_inequalities.specs.ModalScopes.{ModalScope, modal_scope, modal_types}
use Rattle.pt_inequalities.specs.Typing.{IsTyping, IsRefinement, of_input, of_output, of_action}
use Rattle.pt_resolve.specs.Faults.{IsTextIn, of_guard, of_set, clash_in, set_action, IsWhole}
use Rattle.pt_resolve.specs.Faults.{of_output as text_of_output}
use Rattle.pt_chart.specs.Machine.{Machine, PortMap}
use Rattle.pt_chart.specs.Chart.{chart_of}
use Rattle.pt_machine.specs.Children.{is_round, is_opaque, kids_in, is_parted}
use Rattle.pt_machine.proofs.Clean.{got-among, all-of}
use Rattle.pt_machine.specs.Names.{names_along}
use Rattle.pt_machine.specs.Numbers.{number_of}
use Rattle.pt_machine.specs.Machines.{IsMachineIn, AreMachines, IsPortMap}
use Rattle.pt_modal_types.specs.Laws.{types_in, AreApart, IsClear, IsSound}
use Rattle.pt_modal_types.proofs.LastLaws.{vars, vars-are}
use Rattle.pt_modal_types.proofs.NameLaws.{number_from, ports-are, are-own, own-number, entries, entries-are}
use Rattle.pt_modal_types.proofs.MachineLaws.{machines-keep}
use Rattle.pt_kinds.specs.Signature.{Signatures, AreEach, AreOf}
use Rattle.pt_kinds.specs.TypedTree.{IsFed, IsTypedRefinement, IsTypedModal}
use Rattle.pt_library.specs.declared.library_actor.LibraryActor.{LibraryActor}
use Rattle.pt_trees.specs.declared.directing.Directing.TheVariants.{Modal}
use Rattle.pt_trees.specs.Directors.{IsDirectedBy}
use Rattle.pt_trees.specs.Trees.{IsEntity, Starts}
use Rattle.pt_cover.proofs.Nesting.{get-within}
use Rattle.pt_order.proofs.Children.{child-stands, get-is}
use Rattle.pt_order.proofs.TreeCover.{directed-class}
use Rattle.pt_typed.specs.TokenTypes.{IsTokenOf}
use Rattle.pt_typed.specs.TypedActor.{IsTypedActor}
use Rattle.pt_typed.specs.NetTypes.{IsWired, port_numbers, port_types, types_below}
use Rattle.pt_typed.specs.OwnNames.{HavePortNames}
use Rattle.pt_typed.specs.TypedNet.{MeetModals}
use Rattle.pt_typed.proofs.ModalPorts.{kid-of, input-way, output-way, inward, outward, names-counted, types-along, IsPortAt, port-at, IsPortNamed, port-named}
use Rattle.pt_typed.proofs.NetLaws.{own-places, own-outputs, child-below}

-- ---- lists

got-option : {A : Type 0} (xs : List (Option A)) (k : ℕ) (x : A) → get_or xs k None ≡ Some x → slice_get xs k ≡ Some (Some x)
got-option [] k x e = absurd (none-some x e)
got-option (o ∷ xs) zero x e = ap (λ y. Some y) e
got-option (o ∷ xs) (suc k) x e = got-option xs k x e

-- what stands at a place of two lists that are alike in some way
zip-at : {A B : Type 0} (R : A → B → Type 0) (xs : List A) (ys : List B) (d : B) (i : ℕ) (x : A) → AllZip R xs ys → slice_get xs i ≡ Some x → R x (get_or ys i d)
zip-at R [] ys d i x all e = absurd (none-some x e)
zip-at R (a ∷ xs) [] d i x all e = absurd all
zip-at {A} {B} R (a ∷ xs) (b ∷ ys) d zero x all e = subst (λ (v : A). R v b) (same_Some a x e) all.0
zip-at R (a ∷ xs) (b ∷ ys) d (suc i) x all e = zip-at R xs ys d i x all.1 e

zip-both : {A B : Type 0} (R : A → B → Type 0) (xs : List A) (ys : List B) (i : ℕ) (x : A) (y : B) → AllZip R xs ys → slice_get xs i ≡ Some x → slice_get ys i ≡ Some y → R x y
zip-both R [] ys i x y all e g = absurd (none-some x e)
zip-both R (a ∷ xs) [] i x y all e g = absurd all
zip-both {A} {B} R (a ∷ xs) (b ∷ ys) zero x y all e g = subst (λ (v : A). R v y) (same_Some a x e) (subst (λ (v : B). R a v) (same_Some b y g) all.0)
zip-both R (a ∷ xs) (b ∷ ys) (suc i) x y all e g = zip-both R xs ys i x y all.1 e g

zip-length : {A B : Type 0} (R : A → B → Type 0) (xs : List A) (ys : List B) → AllZip R xs ys → length ys ≡ length xs
zip-length R [] [] all = refl
zip-length R [] (b ∷ ys) all = absurd all
zip-length R (a ∷ xs) [] all = absurd all
zip-length R (a ∷ xs) (b ∷ ys) all = ap (λ n. suc n) (zip-length R xs ys all.1)

-- where two lists are one, so is what stands at a place
mapped-at : (f : List ℕ → Option ℕ) (os : List (Option ℕ)) (ns : List (List ℕ)) (q : ℕ) (o : Option ℕ) (name : List ℕ) → os ≡ map f ns → slice_get os q ≡ Some o → slice_get ns q ≡ Some name → f name ≡ o
mapped-at f os ns q o name e at named = same_Some (f name) o (sym (slice_get-map f ns q ∙ ap (λ (n : Option (List ℕ)). option_map f n) named) ∙ ap (λ (xs : List (Option ℕ)). slice_get xs q) (sym e) ∙ at)

some-at : (ps : List ℕ) (q p : ℕ) → get ps q ≡ Some p → slice_get (map (λ (j : ℕ). Some j) ps) q ≡ Some (Some p)
some-at ps q p e = slice_get-map (λ (j : ℕ). Some j) ps q ∙ ap (λ (n : Option ℕ). option_map (λ (j : ℕ). Some j) n) (sym (get-is ps q) ∙ e)

any-there : {A : Type 0} (test : A → Bool) (xs : List A) (i : ℕ) (x : A) → slice_get xs i ≡ Some x → test x ≡ true → list_any test xs ≡ true
any-there test [] i x e passes = absurd (none-some x e)
any-there test (y ∷ xs) zero x e passes = ap (λ b. b || list_any test xs) (ap test (same_Some y x e) ∙ passes)
any-there test (y ∷ xs) (suc i) x e passes = ap (λ b. test y || b) (any-there test xs i x e passes) ∙ or-true (test y)

-- ---- Variables

held-each : (ps : List PropertyTree) (vs : List Value) → length vs ≡ length ps → AreEach IsTokenOf (types_in (vars ps vs)) (map token_of vs)
held-each [] [] h = tt
held-each [] (v ∷ vs) h = absurd (omega (arith, h))
held-each (p ∷ ps) [] h = absurd (omega (arith, h))
held-each (p ∷ ps) (v ∷ vs) h = (subst (λ (w : Value). IsBelow (type_of_value w) (type_of_value v)) (sym (value_of-token_of v)) (below-refl (type_of_value v)), held-each ps vs (omega (arith, h)))

-- ---- a Modal entity

-- no name that asks about a port is that of a port, of a Variable or of a parameter
abbrev pub AreAskedFreely : Net → Values → Type 0
AreAskedFreely net values =
    (m : ℕ) (e : NetEntityTree) (v : EntityView) → slice_get (map entity_view net.entities.items) m ≡ Some e → e.class ≡ codes "Modal" → (name port : List ℕ) → port_in name ≡ Some port →
    ((modal_scope (frames_of net values) m e v).ports name ≡ None) × ((modal_scope (frames_of net values) m e v).variables name ≡ None) × ((modal_scope (frames_of net values) m e v).around name ≡ None)

-- what stands in a Modal entity stands in no transparent composite
direct : (net : Net) (values : Values) (typing : Assignment) → IsNested (net_view net) → (m : ℕ) (x : Machine) (k : ℕ) (e : NetEntity) → IsMachineIn net values typing m x → slice_get net.entities.items k ≡ Some e → e.parent ≡ Some m → (entity_view e).within ≡ None
direct net values typing nested m x k e w at round = by_within (entity_view e).within refl
  where
    by_within : (o : Option ℕ) → (entity_view e).within ≡ o → (entity_view e).within ≡ None
    by_within None is = is
    by_within (Some t) is =
        let c = (nested.entities k (entity_view e) (view-at entity_view net.entities.items k e at)).transparent t is in
        let inside : is_round m c.composite ≡ true = ap (is_number m) (c.parent_is ∙ round) ∙ eq-eqb m m refl in
        absurd (both_ways (is_parted net m) w.is.refinements.whole (any-there (is_round m) (map transparent_view net.transparent.items) t c.composite c.at inside))

module _ (net : Net) (values : Values) (typing : Assignment) (starts : Starts) (wired : IsWired net) (names : HavePortNames net) (free : AreAskedFreely net values) (nested : IsNested (net_view net)) (valued : IsValued (net_view net) values) (typed : IsTyping net values typing) (whole : IsWhole net values typing) (classes : (k : ℕ) (e : NetEntity) (d : NetDirector) → IsEntity net k e → e.director ≡ Some d → is_composite_class e.class ≡ true) (machines : AreMachines net values typing starts.machines) where
  abbrev es : List NetEntity
  es = net.entities.items

  from-zero : (m i : ℕ) → typing.types (variable.Port m (0 + i)) ≡ typing.types (variable.Port m i)
  from-zero m i = ap (λ n. typing.types (variable.Port m n)) (let z : 0 + i ≡ i = omega arith in z)

  -- what is opaque is of a class of composites
  opaque-class : (k : ℕ) (e : NetEntity) → IsEntity net k e → is_opaque (entity_view e) ≡ true → is_composite_class e.class ≡ true
  opaque-class k e at opaque = by_director e.director refl
    where
      by_director : (o : Option NetDirector) → e.director ≡ o → is_composite_class e.class ≡ true
      by_director (Some d) has = classes k e d at has
      by_director None none = ap (λ b. bytes_eq e.class (codes "Composite") || b) (ap (λ (o : Option NetDirector). is_some (option_map director_view o) || bytes_eq e.class (codes "Modal")) (sym none) ∙ opaque) ∙ or-true (bytes_eq e.class (codes "Composite"))

  module _ (k : ℕ) (e : NetEntity) (x : Machine) (at : IsEntity net k e) (by : IsDirectedBy e Modal) (w : IsMachineIn net values typing k x) where
    abbrev s : ModalScope
    s = modal_scope (frames_of net values) k w.entity w.held

    same : entity_view e ≡ w.entity
    same = same_Some (entity_view e) w.entity (sym (view-at entity_view es k e at) ∙ w.modal.at)

    -- guards and actions have types
    clear : (text : List ℕ) → IsTextIn w.entity text → IsClear typing s text
    clear text in_it t read = by_test (has_type (modal_types typing s t) t) refl
      where
        by_test : (b : Bool) → has_type (modal_types typing s t) t ≡ b → has_type (modal_types typing s t) t ≡ true
        by_test true h = h
        by_test false h = absurd (whole.entities w.entity (clash_in k w.entity w.held text t w.modal in_it read h))

    apart : AreApart w.entity.ports
    apart = subst (λ (t : NetEntityTree). AreApart t.ports) same (names k e at)

    counted : length w.held.variables ≡ length w.entity.variables
    counted =
        let z = zip-both (IsEntityValued (net_view net)) (net_view net).entities (map valued_view values.entities.items) k w.entity w.held valued.entities w.modal.at w.modal.values_at in
        zip-length (IsVariable (bound z.inner)) w.entity.variables w.held.variables z.variables

    sound : IsSound typing s k w.entity w.held
    sound = record {
      guards = λ tr c. clear tr.guard (of_guard tr c);
      clear_outputs = λ tr a c ca. clear a.value (text_of_output tr a c ca);
      clear_sets = λ tr a c ca. clear a.value (of_set tr a c ca);
      outputs = λ tr a t i c ca own has. typed.above.modal k i t (of_action k i w.entity w.held tr a t w.modal c ca own has);
      sets = λ tr a t first c ca named has. (by_below t (type_of_value first) (λ h. whole.entities w.entity (set_action k w.entity w.held tr a t first w.modal c ca has named h)));
      valued = counted;
      apart = apart;
      free = λ name port asks. free k w.entity w.held w.modal.at w.modal.is_modal name port asks;
    }
      where
        by_below : (t u : Datatype) → (is_below t u ≡ false → ⊥) → IsBelow t u
        by_below t u not_false = by_test (is_below t u) refl
          where
            by_test : (b : Bool) → is_below t u ≡ b → is_below t u ≡ true
            by_test true h = h
            by_test false h = absurd (not_false h)

    class : is_composite_class e.class ≡ true
    class = directed-class e Modal by

    -- the names of the machine have the types of the ports
    inputs-are : types_in x.names.inputs ≡ (types_below net typing k []).places
    inputs-are =
        ap (λ (ps : List (List ℕ × Datatype)). types_in ps) (w.is.inputs ∙ entries-are typing k Input 0 w.entity.ports) ∙ ap (λ (t : NetEntityTree). types_in (entries typing k Input 0 t.ports)) (sym same) ∙ types-along typing k Input 0 is_input input-way e.ports.items ∙ sym (own-places net typing wired k e at class)

    outputs-are : types_in x.names.outputs ≡ (types_below net typing k []).outputs
    outputs-are =
        ap (λ (ps : List (List ℕ × Datatype)). types_in ps) (w.is.outputs ∙ entries-are typing k Output 0 w.entity.ports) ∙ ap (λ (t : NetEntityTree). types_in (entries typing k Output 0 t.ports)) (sym same) ∙ types-along typing k Output 0 is_output output-way e.ports.items ∙ sym (own-outputs net typing wired k e at class)

    variables-are : x.names.variables ≡ vars w.entity.variables w.held.variables
    variables-are = w.is.variables ∙ vars-are w.held.variables w.entity.variables counted

    -- ---- a refinement

    module _ (i c : ℕ) (f : NetEntity) (there : slice_get (children_of es k) i ≡ Some c) (kid_at : slice_get es c ≡ Some f) (round : f.parent ≡ Some k) (kid_class : is_composite_class f.class ≡ true) where
      abbrev map_of : PortMap
      map_of = get_or x.ports i (record { inputs = []; outputs = [] })

      is-map : IsPortMap w.entity (entity_view f) map_of
      is-map = zip-at (IsPortMap w.entity) (kids_in net k) x.ports (record { inputs = []; outputs = [] }) i (entity_view f) w.is.ports (kid-of es k i c f there kid_at)

      refinement : IsRefinement (map entity_view es) k c w.entity (entity_view f)
      refinement = record { modal_at = w.modal.at; is_modal = w.modal.is_modal; at = view-at entity_view es c f kid_at; inside = round; direct = direct net values typing nested k x c f w kid_at round }

      kid-places : (types_below net typing k (i ∷ [])).places ≡ port_types typing c (port_numbers is_input 0 f.ports.items)
      kid-places = ap (λ (g : Signatures Datatype). (g []).places) (child-below net typing wired k e at class i c there) ∙ own-places net typing wired c f kid_at kid_class

      kid-outputs : (types_below net typing k (i ∷ [])).outputs ≡ port_types typing c (port_numbers is_output 0 f.ports.items)
      kid-outputs = ap (λ (g : Signatures Datatype). (g []).outputs) (child-below net typing wired k e at class i c there) ∙ own-outputs net typing wired c f kid_at kid_class

      -- what an input of it takes from an own input is below
      fed-at : (q p : ℕ) (t : Datatype) → get map_of.inputs q ≡ Some p → get (types_below net typing k (i ∷ [])).places q ≡ Some t → IsFed {A = LibraryActor} IsTokenOf IsBelow IsTypedActor (get (types_below net typing k []).places p) t
      fed-at q p t takes kind = of-port (port-at typing c Input 0 is_input input-way f.ports.items q t (sym (get-is (port_types typing c (port_numbers is_input 0 f.ports.items)) q) ∙ ap (λ ts. get ts q) (sym kid-places) ∙ kind))
        where
          of-own : (r : IsPortAt typing c Input 0 f.ports.items q t) → IsPortNamed typing k Input w.entity.ports r.port.name p → IsFed {A = LibraryActor} IsTokenOf IsBelow IsTypedActor (get (types_below net typing k []).places p) t
          of-own r o =
              let own : get (types_below net typing k []).places p ≡ Some (typing.types (variable.Port k o.number)) =
              ap (λ ts. get ts p) (sym inputs-are) ∙ get-is (types_in x.names.inputs) p ∙ ap (λ (ps : List (List ℕ × Datatype)). slice_get (types_in ps) p) (w.is.inputs ∙ entries-are typing k Input 0 w.entity.ports) ∙ o.type in
              let below = typed.above.modal c r.number (typing.types (variable.Port k o.number)) (of_input k c o.number r.number w.entity (entity_view f) (port_view r.port) refinement (view-at port_view f.ports.items r.number r.port r.there) (inward r.port.direction r.way) o.known) in
              subst (λ (u : Option Datatype). IsFed {A = LibraryActor} IsTokenOf IsBelow IsTypedActor u t) (sym own) (subst (λ (u : Datatype). IsBelow (typing.types (variable.Port k o.number)) u) (sym (r.type ∙ from-zero c r.number)) below)

          of-port : IsPortAt typing c Input 0 f.ports.items q t → IsFed {A = LibraryActor} IsTokenOf IsBelow IsTypedActor (get (types_below net typing k []).places p) t
          of-port r =
              let number = mapped-at (number_of (names_along Input w.entity.ports)) (map (λ (j : ℕ). Some j) map_of.inputs) (names_along Input (entity_view f).ports) q (Some p) r.port.name is-map.inputs (some-at map_of.inputs q p takes) r.name in
              of-own r (port-named typing k Input w.entity.ports apart r.port.name p number)

      -- what an own output has of it is below
      shown-at : (q p : ℕ) (t : Datatype) → get map_of.outputs q ≡ Some (Some p) → get (types_below net typing k []).outputs q ≡ Some t → IsFed {A = LibraryActor} IsTokenOf IsBelow IsTypedActor (get (types_below net typing k (i ∷ [])).outputs p) t
      shown-at q p t shows kind = of-port (port-at typing k Output 0 is_output output-way e.ports.items q t (sym (get-is (port_types typing k (port_numbers is_output 0 e.ports.items)) q) ∙ ap (λ ts. get ts q) (sym (own-outputs net typing wired k e at class)) ∙ kind))
        where
          of-kid : (r : IsPortAt typing k Output 0 e.ports.items q t) → IsPortNamed typing c Output (entity_view f).ports r.port.name p → IsFed {A = LibraryActor} IsTokenOf IsBelow IsTypedActor (get (types_below net typing k (i ∷ [])).outputs p) t
          of-kid r o =
              let given : get (types_below net typing k (i ∷ [])).outputs p ≡ Some (typing.types (variable.Port c o.number)) =
              ap (λ ts. get ts p) (kid-outputs ∙ sym (types-along typing c Output 0 is_output output-way f.ports.items)) ∙ get-is (types_in (entries typing c Output 0 (entity_view f).ports)) p ∙ o.type in
              let mine : slice_get w.entity.ports r.number ≡ Some (port_view r.port) = ap (λ (y : NetEntityTree). slice_get y.ports r.number) (sym same) ∙ view-at port_view e.ports.items r.number r.port r.there in
              let own = ports-are w.entity.ports o.port.name ∙ ap (number_from 0 w.entity.ports) o.named ∙ own-number 0 w.entity.ports r.number (port_view r.port) (are-own w.entity.ports apart) mine ∙ ap (λ j. Some j) (let z : 0 + r.number ≡ r.number = omega arith in z) in
              let below = typed.above.modal k r.number (typing.types (variable.Port c o.number)) (of_output k c r.number o.number w.entity (entity_view f) o.port refinement o.there (outward o.port.direction o.way) own) in
              subst (λ (u : Option Datatype). IsFed {A = LibraryActor} IsTokenOf IsBelow IsTypedActor u t) (sym given) (subst (λ (u : Datatype). IsBelow (typing.types (variable.Port c o.number)) u) (sym (r.type ∙ from-zero k r.number)) below)

          of-port : IsPortAt typing k Output 0 e.ports.items q t → IsFed {A = LibraryActor} IsTokenOf IsBelow IsTypedActor (get (types_below net typing k (i ∷ [])).outputs p) t
          of-port r =
              let name : slice_get (names_along Output w.entity.ports) q ≡ Some r.port.name = ap (λ (y : NetEntityTree). slice_get (names_along Output y.ports) q) (sym same) ∙ r.name in
              let number = mapped-at (number_of (names_along Output (entity_view f).ports)) map_of.outputs (names_along Output w.entity.ports) q (Some p) r.port.name is-map.outputs (sym (get-is map_of.outputs q) ∙ shows) name in
              of-kid r (port-named typing c Output (entity_view f).ports (names c f kid_at) r.port.name p number)

      refinement-typed : IsTypedRefinement {A = LibraryActor} IsTokenOf IsBelow IsTypedActor (types_below net typing k) (chart_of x) i
      refinement-typed = record {
        places_counted =
            let inputs : length map_of.inputs ≡ length (names_along Input (entity_view f).ports) =
            sym (length-map map_of.inputs (λ (j : ℕ). Some j)) ∙ ap (λ (os : List (Option ℕ)). length os) is-map.inputs ∙ length-map (names_along Input (entity_view f).ports) (number_of (names_along Input w.entity.ports)) in
            inputs ∙ names-counted typing c Input 0 is_input input-way f.ports.items ∙ ap length (sym kid-places);
        outputs_counted =
            let outputs : length map_of.outputs ≡ length (names_along Output w.entity.ports) = ap (λ (os : List (Option ℕ)). length os) is-map.outputs ∙ length-map (names_along Output w.entity.ports) (number_of (names_along Output (entity_view f).ports)) in
            let named : length (names_along Output w.entity.ports) ≡ length (types_below net typing k []).outputs =
            ap (λ (y : NetEntityTree). length (names_along Output y.ports)) (sym same) ∙ names-counted typing k Output 0 is_output output-way e.ports.items ∙ ap length (sym (own-outputs net typing wired k e at class)) in
            omega (arith, outputs, named);
        fed = fed-at;
        shown = shown-at;
      }

    -- ---- the whole

    modal-met : (n : ℕ) → IsTypedModal {A = LibraryActor} IsTokenOf IsBelow IsTypedActor (types_below net typing k) (length (children_of es k)) (chart_of x) (first_modes (chart_of x) n)
    modal-met n = record {
      variables = types_in x.names.variables;
      held =
          subst (λ (vs : List (List ℕ × Datatype)). AreEach IsTokenOf (types_in vs) x.values) (sym variables-are)
          (subst (λ (ts : List Token). AreEach IsTokenOf (types_in (vars w.entity.variables w.held.variables)) ts) (sym w.is.values) (held-each w.entity.variables w.held.variables counted));
      outputs_counted = (let types : length (types_in x.names.outputs) ≡ length (types_below net typing k []).outputs = ap length outputs-are in omega (arith, types, length-map x.names.outputs (λ (q : List ℕ × Datatype). q.1)));
      refinements = λ i below. (
          let c = get-within (children_of es k) i below in
          let f = child-stands k es i c.0 c.1 in
          refinement-typed i c.0 f.0 c.1 f.1 f.2 (kid-class i c.0 f.0 c.1 f.1));
      acts = λ early mode number old new inputs given out each places of acts. (
          let r = machines-keep typing (frames_of net values) k w.entity w.held (kids_in net k) (is_parted net k) x w.is sound early mode number old new inputs given out each (subst (λ (ts : List Datatype). AreOf IsTokenOf ts given) (sym outputs-are) of) acts in
          (subst (λ (ts : List Datatype). AreOf IsTokenOf ts out) outputs-are r.0, r.1));
    }
      where
        kid-class : (i c : ℕ) (f : NetEntity) → slice_get (children_of es k) i ≡ Some c → slice_get es c ≡ Some f → is_composite_class f.class ≡ true
        kid-class i c f there kid_at =
            let kid = kid-of es k i c f there kid_at in
            opaque-class c f kid_at (all-of (λ (y : NetEntityTree). is_opaque y ≡ true) (kids_in net k) w.is.refinements.opaque (entity_view f) (got-among (kids_in net k) i (entity_view f) kid))

  pub modals-met : MeetModals net typing starts
  modals-met k n e x at by has = modal-met k e x at by (machines.each k (entity_view e) (Some x) (view-at entity_view es k e at) (got-option starts.machines k x has)) n
