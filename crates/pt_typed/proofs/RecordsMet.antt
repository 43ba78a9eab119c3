-- The typing of a net meets the rows of a RecordAssembler and of a RecordDisassembler.
use Rattle.std.proofs.Common.{◌≡◌, inl, inr, ℕ, zero, suc, ◌+◌, List, [], ◌∷◌, ◌++◌, length, map, replicate, true, false, Option, Some, refl, sym, ap, subst, ◌∙◌, slice_get, arith, if◌then◌else◌}
use Rattle.std.specs.Prelude.{codes, bytes_eq}
use Rattle.std.specs.List.{AllByRecursion, zip, enumerate_from}
use Rattle.std.proofs.lemmas.Option.{same_Some}
use Rattle.std.proofs.lemmas.Slice.Eq.{bytes_eq-Decides}
use Rattle.pt_meaning.specs.Streams.{get}
use Rattle.pt_document.specs.declared.job.Direction.{Direction}
use Rattle.pt_document.specs.declared.job.Direction.TheVariants.{Input, Output}
use Rattle.pt_document.specs.Classes.{ClassPort, Actor, kind_of, class_row, classes}
use Rattle.pt_document.specs.Document.{PortTree}
use Rattle.pt_datatypes.specs.Datatype.{Datatype}
use Rattle.pt_datatypes.specs.Order.{IsBelow}
use Rattle.pt_language.specs.Types.{Types}
use Rattle.pt_language.specs.Typing.{or_general}
use Rattle.pt_language.specs.TreeType.{field, recorded}
use Rattle.pt_net.specs.declared.net.Net.{Net}
use Rattle.pt_net.specs.declared.net.NetEntity.{NetEntity}
use Rattle.pt_net.specs.Table.{joined_ports, declared_port}
use Rattle.pt_net.specs.Net.{NetEntityTree, row_port, entity_view}
use Rattle.pt_firing.specs.Params.{names_but}
use Rattle.pt_net.specs.Inside.{is_inward, is_input}
use Rattle.pt_scopes.specs.declared.values.Values.{Values}
use Rattle.pt_scopes.specs.Valued as valued
use Rattle.pt_typing.specs.declared.variable.Variable.TheVariants as variable
use Rattle.pt_typing.specs.Least.{Assignment, IsMet}
use Rattle.pt_typing.specs.Terms.{entry_in}
use Rattle.pt_inequalities.specs.declared.row.PortType.TheVariants as port
use Rattle.pt_inequalities.specs.Rows.{port_type, port_rows, seedings}
use Rattle.pt_inequalities.specs.Frames.{frames_of, seen_types}
use Rattle.pt_inequalities.specs.Inequalities.{inputs_of, inputs_from, of_port, of_ports, of_fields, of_parameters, of_standards}
use Rattle.pt_inequalities.specs.Typing.{IsTyping}
use Rattle.pt_start.specs.Started.{counted_port, ports_of}
use Rattle.pt_flow_base.specs.declared.params.Params.{Params}
use Rattle.pt_lib_data.specs.declared.data_actor.DataActor.{DataActor}
use Rattle.pt_lib_data.specs.declared.function.Function.{Function}
use Rattle.pt_lib_data.specs.declared.function.Function.TheVariants as made
use Rattle.pt_lib_data.specs.declared.function.Class.{Class as DataClass}
use Rattle.pt_lib_data.specs.ArrayElement as array_element
use Rattle.pt_lib_data.specs.Comparator as comparator
use Rattle.pt_lib_data.specs.Limiter as limiter
use Rattle.pt_lib_data.specs.LogicFunction as logic_function
use Rattle.pt_lib_data.specs.SequenceToArray as sequence_to_array
use Rattle.pt_lib_flow.specs.FlowActor as flow_actor
use Rattle.pt_lib_data.specs.declared.function.Class.TheVariants as kinds
use Rattle.pt_lib_data.specs.Function as function
use Rattle.pt_lib_data.specs.DataActor as data_actor
use Rattle.pt_lib_time.specs.TimeActor as time_actor
use Rattle.pt_lib_timed.specs.TimedActor as timed_actor
use Rattle.pt_library.specs.declared.library_actor.LibraryActor.{LibraryActor}
use Rattle.pt_library.specs.declared.library_actor.LibraryActor.TheVariants.{Flow, Data, Time, Timed}
use Rattle.pt_library.specs.LibraryActor.{start}
use Rattle.pt_scopes.specs.Scopes.{is_composite_class}
use Rattle.pt_typed.specs.TokenTypes.{IsUnder, ToFirst, field_of}
use Rattle.pt_typed.specs.TypedActor.{MeetsRow}
use Rattle.pt_typed.specs.TypedData.{IsTypedFunction}
use Rattle.pt_typed.specs.NetTypes.{arrivals, place_type, port_numbers, port_types, by_class, types_of, types_below}
use Rattle.pt_typed.specs.NetRows.{ends_if, ends_from, channels_at, HasClassPorts, is_record_function, is_record_actor}
use Rattle.pt_typed.specs.RowLaw.{RecordRowsAreMet}
use Rattle.pt_typed.proofs.NetLaws.{types-at-ends, ends-of}
use Rattle.pt_typed.proofs.PortFacts.{head, head_type, all-front, all-back, entity-met}
use Rattle.pt_typed.proofs.ClassPorts.{class_head, heads_in, declares_in, singles-from, outs_from}
use Rattle.pt_typed.proofs.DataStarts as functions
use Rattle.pt_typed.proofs.DataClasses as data_classes
use Rattle.pt_typed.proofs.FlowStarts.{mapped}
use Rattle.pt_typed.proofs.RowsMet.{viewed, outputs-numbered, one-of-four, data-in}
use Rattle.pt_typed.proofs.RecordRows.{one-row, FieldIf, FieldsIf, entries-are, fields-taken, directions-all, outs-behind, no-ends, no-inputs, inputs-ok, one-field, input-test}

assembler-declares : declares_in (kind_of (codes "RecordAssembler")) ≡ Some Input
unfolding kind_of class_row classes
assembler-declares = refl

disassembler-declares : declares_in (kind_of (codes "RecordDisassembler")) ≡ Some Output
unfolding kind_of class_row classes
disassembler-declares = refl

-- what passes at a port, by its name and direction
pub type-by-head : (class : List ℕ) (p : PortTree) → port_type class p ≡ head_type class (head p)
unfolding head_type port_type
type-by-head class p = refl

assembled : head_type (codes "RecordAssembler") (codes "output", Output) ≡ port.Assembled
unfolding head_type port_rows
assembled = refl

disassembled : (name : List ℕ) → head_type (codes "RecordDisassembler") (name, Output) ≡ port.Field
unfolding head_type
disassembled name = refl

pub port-at : (typing : Assignment) (k : ℕ) (e : NetEntityTree) (v : valued.EntityView) (types : Types) (i : ℕ) (ps : List PortTree) (n : ℕ) (p : PortTree) → AllByRecursion (IsMet typing) (of_ports k e v types i ps) → slice_get ps n ≡ Some p → AllByRecursion (IsMet typing) (of_port k e v types (i + n) p.name (port_type e.class p))
port-at typing k e v types i [] n p a g = absurd (cc)
port-at typing k e v types i (q ∷ ps) zero p a g =
    subst (λ m. AllByRecursion (IsMet typing) (of_port k e v types m p.name (port_type e.class p))) (let z : i ≡ i + 0 = omega arith in z)
    (subst (λ (r : PortTree). AllByRecursion (IsMet typing) (of_port k e v types i r.name (port_type e.class r))) (same_Some q p g) (all-front (IsMet typing) (of_port k e v types i q.name (port_type e.class q)) (of_ports k e v types (suc i) ps) a))
port-at typing k e v types i (q ∷ ps) (suc n) p a g =
    subst (λ m. AllByRecursion (IsMet typing) (of_port k e v types m p.name (port_type e.class p))) (let z : suc i + n ≡ i + suc n = omega arith in z)
    (port-at typing k e v types (suc i) ps n p (all-back (IsMet typing) (of_port k e v types i q.name (port_type e.class q)) (of_ports k e v types (suc i) ps) a) g)

pub last-at : (ps : List PortTree) (p : PortTree) → slice_get (ps ++ (p ∷ [])) (length ps) ≡ Some p
last-at [] p = refl
last-at (q ∷ ps) p = last-at ps p

pub directions-behind : (ps : List PortTree) (p : PortTree) → map (λ (q : PortTree). q.direction) (ps ++ (p ∷ [])) ≡ map (λ (q : PortTree). q.direction) ps ++ (p.direction ∷ [])
directions-behind [] p = refl
directions-behind (q ∷ ps) p = ap (λ ds. q.direction ∷ ds) (directions-behind ps p)

module _ (net : Net) (values : Values) (typing : Assignment) (k : ℕ) (e : NetEntity) (at : slice_get net.entities.items k ≡ Some e) (plain : is_composite_class e.class ≡ false) (has : HasClassPorts net k e) (typed : IsTyping net values typing) (params : Params)
    (classed : params.class ≡ e.class) (v : valued.EntityView) (held : slice_get (map valued.entity_view values.entities.items) k ≡ Some v) (ports-are : params.ports ≡ ports_of net.channels.items k (entity_view e)) where
  abbrev types : ℕ → Datatype
  types n = typing.types (variable.Port k n)

  abbrev seen : Types
  seen = seen_types (frames_of net values) (entity_view e).within (entity_view e).parent

  abbrev counts : ℕ → ℕ
  counts = channels_at net k

  abbrev ways : List PortTree → List Direction
  ways ps = map (λ (p : PortTree). p.direction) ps

  ports-met : AllByRecursion (IsMet typing) (of_ports k (entity_view e) v seen 0 (entity_view e).ports)
  ports-met = all-front (IsMet typing) (of_ports k (entity_view e) v seen 0 (entity_view e).ports) (of_parameters k e.class (entity_view e).parameters v.parameters ++ of_standards k e.class (entity_view e).parameters seedings)
      (entity-met net values typing k (entity_view e) v typed (viewed entity_view net.entities.items k e at) held)

  places-by : (ps : List PortTree) → (entity_view e).ports ≡ ps → (types_below net typing k []).places ≡ map types (ends_from counts 0 (ways ps))
  places-by ps is =
      ap (λ (o : Option NetEntity). (types_of net typing k o).places) at
      ∙ ap (λ o. by_class o (port_types typing k (port_numbers is_input 0 e.ports.items)) (map (place_type typing) (arrivals net.channels.items k))) plain
      ∙ types-at-ends typing k (arrivals net.channels.items k) (ends-of net k)
      ∙ ap (port_types typing k) (has.ends ∙ ap (λ qs. ends_from counts 0 (ways qs)) is)

  outputs-by : (ps : List PortTree) → (entity_view e).ports ≡ ps → (types_below net typing k []).outputs ≡ map types (outs_from 0 (ways ps))
  outputs-by ps is = ap (λ (o : Option NetEntity). (types_of net typing k o).outputs) at ∙ ap (port_types typing k) (outputs-numbered 0 e.ports.items ∙ ap (λ qs. outs_from 0 (ways qs)) is)

  names-by : (other : List ℕ) (ps : List PortTree) → (entity_view e).ports ≡ ps → names_but other params.ports ≡ names_but other (map (counted_port net.channels.items k) (enumerate_from 0 ps))
  names-by other ps is = ap (names_but other) (ports-are ∙ ap (λ qs. map (counted_port net.channels.items k) (enumerate_from 0 qs)) is)

  pub assembler-meets : (a : DataActor) → function.class_of params.class ≡ Some kinds.RecordAssembler → data_actor.started_as kinds.RecordAssembler params.values params.ports ≡ Some a → MeetsRow (types_below net typing k []) (Data a)
  assembler-meets a is started =
      let name = codes "RecordAssembler" in
      let its-class : e.class ≡ name = sym classed ∙ functions.class-named params.class kinds.RecordAssembler is in
      let kind : kind_of name ≡ Some (Actor has.class) = ap kind_of (sym its-class) ∙ has.kind in
      let declares : has.class.declares ≡ Some Input = sym (ap declares_in kind) ∙ assembler-declares in
      let row = one-row has.class.ports (codes "output", Output) (sym (ap heads_in kind) ∙ data_classes.heads-are kinds.RecordAssembler) in
      let q = row.0 in
      let ds = has.declared in
      let all = ds ++ (row_port q ∷ []) in
      let n = length ds in
      let named : q.name ≡ codes "output" = ap (λ (h : List ℕ × Direction). h.0) row.2 in
      let way : q.direction ≡ Output = ap (λ (h : List ℕ × Direction). h.1) row.2 in
      let ports : (entity_view e).ports ≡ all = has.ports ∙ ap (λ o. joined_ports o ds (map row_port has.class.ports)) declares ∙ ap (λ qs. ds ++ map row_port qs) row.1 in
      let fit = subst (λ qs. AllByRecursion (λ (p : PortTree). (has.class.declares ≡ Some p.direction) × AllByRecursion (λ (r : ClassPort). bytes_eq p.name r.name ≡ false) qs) ds) row.1 has.fit in
      let singles = singles-from counts 0 (map declared_port ds ++ (q ∷ [])) (λ j p there d b. ap counts (let z : 0 + j ≡ j = omega arith in z) ∙ has.single j p (ap (λ o. slice_get (joined_ports o (map declared_port ds) has.class.ports) j) declares ∙ ap (λ qs. slice_get (map declared_port ds ++ qs) j) row.1 ∙ there) d b) in
      let ok = inputs-ok net.channels.items typing k counts has.class.declares 0 ds q declares fit singles ((bytes_eq-Decides q.name (codes "output")).1 named) way in
      let entries = entries-are net.channels.items typing k counts (codes "output") 0 0 all ok in
      let outs : outs_from 0 (ways all) ≡ n ∷ [] = ap (outs_from 0) (directions-behind ds (row_port q) ∙ ap (λ d. ways ds ++ (d ∷ [])) way) ∙ outs-behind 0 ds (directions-all has.class.declares Input (q ∷ []) ds declares fit) ∙ ap (λ m. m ∷ []) (let z : 0 + n ≡ n = omega arith in z) in
      let passes : port_type e.class (row_port q) ≡ port.Assembled = type-by-head e.class (row_port q) ∙ ap (λ c. head_type c (class_head q)) its-class ∙ ap (head_type name) row.2 ∙ assembled in
      let met = port-at typing k (entity_view e) v seen 0 (entity_view e).ports n (row_port q) ports-met (ap (λ ps. slice_get ps n) ports ∙ last-at ds (row_port q)) in
      let below = subst (λ t. AllByRecursion (IsMet typing) (of_port k (entity_view e) v seen n q.name t)) passes (subst (λ m. AllByRecursion (IsMet typing) (of_port k (entity_view e) v seen m q.name (port_type e.class (row_port q)))) (let z : 0 + n ≡ n = omega arith in z) met) in
      let taken : IsBelow (or_general (recorded (map (entry_in typing.types) (inputs_from k 0 all)))) (types n) = subst (λ ps. IsBelow (or_general (recorded (map (entry_in typing.types) (inputs_from k 0 ps)))) (types n)) ports below.0 in
      let here : IsBelow (or_general (recorded (zip (names_but (codes "output") params.ports) (types_below net typing k []).places))) (types n) =
      subst (λ ts. IsBelow (or_general (recorded (zip (names_but (codes "output") params.ports) ts))) (types n)) (sym (places-by all ports))
      (subst (λ ns. IsBelow (or_general (recorded (zip ns (map types (ends_from counts 0 (ways all)))))) (types n)) (sym (names-by (codes "output") all ports))
      (subst (λ es. IsBelow (or_general (recorded es)) (types n)) (sym entries) taken)) in
      let asks : ToFirst (λ u. IsBelow (or_general (recorded (zip (names_but (codes "output") params.ports) (types_below net typing k []).places))) u) (types_below net typing k []).outputs =
      subst (λ us. ToFirst (λ u. IsBelow (or_general (recorded (zip (names_but (codes "output") params.ports) (types_below net typing k []).places))) u) us) (sym (outputs-by all ports ∙ ap (map types) outs)) here in
      functions.data-asked (types_below net typing k []).places (types_below net typing k []).outputs kinds.RecordAssembler params.values params.ports a started asks

  -- the declared outputs of a RecordDisassembler, behind its one input
  fields-ok : (name : List ℕ) (o : Option Datatype) (i : ℕ) (ds : List PortTree) → e.class ≡ codes "RecordDisassembler" → inputs_of k (entity_view e) ≡ (name, variable.Port k 0) ∷ [] → ((m : List ℕ) (u : Datatype) → IsBelow (or_general (field m (types 0))) u → IsUnder (field_of m o) u) →
      AllByRecursion (λ (p : PortTree). Output ≡ p.direction) ds → AllByRecursion (λ (p : PortTree). bytes_eq p.name (codes "input") ≡ false) ds → AllByRecursion (IsMet typing) (of_ports k (entity_view e) v seen i ds) → FieldsIf net.channels.items typing k counts (codes "input") o i ds
  fields-ok name o i [] c ins under d f a = tt
  fields-ok name o i (p ∷ ds) c ins under d f a =
      let passes : port_type e.class p ≡ port.Field = type-by-head e.class p ∙ ap (λ n. head_type n (head p)) c ∙ ap (λ w. head_type (codes "RecordDisassembler") (p.name, w)) (sym d.0) ∙ disassembled p.name in
      let met = subst (λ t. AllByRecursion (IsMet typing) (of_port k (entity_view e) v seen i p.name t)) passes (all-front (IsMet typing) (of_port k (entity_view e) v seen i p.name (port_type e.class p)) (of_ports k (entity_view e) v seen (suc i) ds) a) in
      let below = subst (λ xs. AllByRecursion (IsMet typing) (of_fields (variable.Port k i) p.name xs)) ins met in (
        subst (λ w. FieldIf net.channels.items typing k counts (codes "input") o w i p.name) d.0 (f.0, under p.name (types i) below.0),
        fields-ok name o (suc i) ds c ins under d.1 f.1 (all-back (IsMet typing) (of_port k (entity_view e) v seen i p.name (port_type e.class p)) (of_ports k (entity_view e) v seen (suc i) ds) a),
      )

  names-apart : (q : ClassPort) (ds : List PortTree) → q.name ≡ codes "input" → AllByRecursion (λ (p : PortTree). (has.class.declares ≡ Some p.direction) × AllByRecursion (λ (r : ClassPort). bytes_eq p.name r.name ≡ false) (q ∷ [])) ds → AllByRecursion (λ (p : PortTree). bytes_eq p.name (codes "input") ≡ false) ds
  names-apart q [] e' a = tt
  names-apart q (p ∷ ds) e' a = (subst (λ n. bytes_eq p.name n ≡ false) e' a.0.1.0, names-apart q ds e' a.1)

  pub disassembler-meets : (a : DataActor) → function.class_of params.class ≡ Some kinds.RecordDisassembler → data_actor.started_as kinds.RecordDisassembler params.values params.ports ≡ Some a → MeetsRow (types_below net typing k []) (Data a)
  disassembler-meets a is started =
      let name = codes "RecordDisassembler" in
      let its-class : e.class ≡ name = sym classed ∙ functions.class-named params.class kinds.RecordDisassembler is in
      let kind : kind_of name ≡ Some (Actor has.class) = ap kind_of (sym its-class) ∙ has.kind in
      let declares : has.class.declares ≡ Some Output = sym (ap declares_in kind) ∙ disassembler-declares in
      let row = one-row has.class.ports (codes "input", Input) (sym (ap heads_in kind) ∙ data_classes.heads-are kinds.RecordDisassembler) in
      let q = row.0 in
      let ds = has.declared in
      let all = row_port q ∷ ds in
      let named : q.name ≡ codes "input" = ap (λ (h : List ℕ × Direction). h.0) row.2 in
      let way : q.direction ≡ Input = ap (λ (h : List ℕ × Direction). h.1) row.2 in
      let ports : (entity_view e).ports ≡ all = has.ports ∙ ap (λ o. joined_ports o ds (map row_port has.class.ports)) declares ∙ ap (λ qs. map row_port qs ++ ds) row.1 in
      let fit = subst (λ qs. AllByRecursion (λ (p : PortTree). (has.class.declares ≡ Some p.direction) × AllByRecursion (λ (r : ClassPort). bytes_eq p.name r.name ≡ false) qs) ds) row.1 has.fit in
      let dirs = directions-all has.class.declares Output (q ∷ []) ds declares fit in
      let ins : inputs_of k (entity_view e) ≡ (q.name, variable.Port k 0) ∷ [] =
      ap (inputs_from k 0) ports ∙ ap (λ t. (if t then (q.name, variable.Port k 0) ∷ [] else []) ++ inputs_from k 1 ds) (input-test (row_port q) q.direction ∙ ap is_inward way) ∙ ap (λ xs. (q.name, variable.Port k 0) ∷ xs) (no-inputs k 1 ds dirs) in
      let ends : ends_from counts 0 (ways all) ≡ replicate (counts 0) 0 ++ [] = ap (λ d. ends_if d (counts 0) 0 ++ ends_from counts 1 (ways ds)) way ∙ ap (λ xs. replicate (counts 0) 0 ++ xs) (no-ends counts 1 ds dirs) in
      let o = get (map types (replicate (counts 0) 0 ++ [])) 0 in
      let met : AllByRecursion (IsMet typing) (of_ports k (entity_view e) v seen 1 ds) =
      all-back (IsMet typing) (of_port k (entity_view e) v seen 0 q.name (port_type e.class (row_port q))) (of_ports k (entity_view e) v seen 1 ds) (subst (λ ps. AllByRecursion (IsMet typing) (of_ports k (entity_view e) v seen 0 ps)) ports ports-met) in
      let ok : FieldsIf net.channels.items typing k counts (codes "input") o 0 all = (
        subst (λ w. FieldIf net.channels.items typing k counts (codes "input") o w 0 q.name) (sym way) ((bytes_eq-Decides q.name (codes "input")).1 named),
        fields-ok q.name o 1 ds its-class ins (λ m u h. one-field types (counts 0) m u h) dirs (names-apart q ds named fit) met,
      ) in
      let taken = fields-taken net.channels.items typing k counts (codes "input") o 0 0 all ok in
      let asks : IsTypedFunction (types_below net typing k []).places (types_below net typing k []).outputs (made.RecordDisassembler (names_but (codes "input") params.ports)) =
      subst (λ ts. IsTypedFunction ts (types_below net typing k []).outputs (made.RecordDisassembler (names_but (codes "input") params.ports))) (sym (places-by all ports ∙ ap (map types) ends))
      (subst (λ us. IsTypedFunction (map types (replicate (counts 0) 0 ++ [])) us (made.RecordDisassembler (names_but (codes "input") params.ports))) (sym (outputs-by all ports))
      (subst (λ ns. IsTypedFunction (map types (replicate (counts 0) 0 ++ [])) (map types (outs_from 0 (ways all))) (made.RecordDisassembler ns)) (sym (names-by (codes "input") all ports)) taken)) in
      functions.data-asked (types_below net typing k []).places (types_below net typing k []).outputs kinds.RecordDisassembler params.values params.ports a started asks

-- ---- which class

other-function : {P : Type 0} (f g : Function) → g ≡ f → is_record_function g ≡ false → is_record_function f ≡ true → P
other-function f g e n p = absurd (let no : false ≡ true = sym n ∙ ap is_record_function e ∙ p in cc)

module _ (net : Net) (values : Values) (typing : Assignment) (k : ℕ) (e : NetEntity) (at : slice_get net.entities.items k ≡ Some e) (plain : is_composite_class e.class ≡ false) (has : HasClassPorts net k e) (typed : IsTyping net values typing) (params : Params)
    (classed : params.class ≡ e.class) (v : valued.EntityView) (held : slice_get (map valued.entity_view values.entities.items) k ≡ Some v) (ports-are : params.ports ≡ ports_of net.channels.items k (entity_view e)) where
  by-class : (c : DataClass) (a : DataActor) → function.class_of params.class ≡ Some c → data_actor.started_as c params.values params.ports ≡ Some a → (f : Function) → function.start_as c params.values params.ports ≡ Some f → is_record_function f ≡ true → MeetsRow (types_below net typing k []) (Data a)
  by-class kinds.ArrayElement a is started f e' p = let w = mapped made.ArrayElement (array_element.start params.values) f e' in other-function f (made.ArrayElement w.0) w.2 refl p
  by-class kinds.ArrayToSequence a is started f e' p = let w = mapped made.ArrayToSequence (sequence_to_array.start params.values) f e' in other-function f (made.ArrayToSequence w.0) w.2 refl p
  by-class kinds.Barrier a is started f e' p = other-function f made.Barrier (same_Some made.Barrier f e') refl p
  by-class kinds.Comparator a is started f e' p = let w = mapped made.Comparator (comparator.start params.values) f e' in other-function f (made.Comparator w.0) w.2 refl p
  by-class kinds.Discard a is started f e' p = other-function f made.Discard (same_Some made.Discard f e') refl p
  by-class kinds.ElementsToArray a is started f e' p = other-function f made.ElementsToArray (same_Some made.ElementsToArray f e') refl p
  by-class kinds.Equals a is started f e' p = other-function f made.Equals (same_Some made.Equals f e') refl p
  by-class kinds.Limiter a is started f e' p = let w = mapped made.Limiter (limiter.start params.values) f e' in other-function f (made.Limiter w.0) w.2 refl p
  by-class kinds.LogicFunction a is started f e' p = let w = mapped made.LogicFunction (logic_function.start params.values) f e' in other-function f (made.LogicFunction w.0) w.2 refl p
  by-class kinds.LogicalNot a is started f e' p = other-function f made.LogicalNot (same_Some made.LogicalNot f e') refl p
  by-class kinds.RecordAssembler a is started f e' p = assembler-meets net values typing k e at plain has typed params classed v held ports-are a is started
  by-class kinds.RecordDisassembler a is started f e' p = disassembler-meets net values typing k e at plain has typed params classed v held ports-are a is started
  by-class kinds.SequenceToArray a is started f e' p = let w = mapped made.SequenceToArray (sequence_to_array.start params.values) f e' in other-function f (made.SequenceToArray w.0) w.2 refl p
  by-class kinds.StringLength a is started f e' p = other-function f made.StringLength (same_Some made.StringLength f e') refl p

  record-meets : (a : LibraryActor) → start params ≡ Some a → is_record_actor a ≡ true → MeetsRow (types_below net typing k []) a
  record-meets a started p = elim (one-of-four Flow Data Time Timed (flow_actor.start params) (data_actor.start params.class params.values params.ports) (time_actor.start params) (timed_actor.start params) a started) [
    | inl w ↦ absurd (let no : false ≡ true = ap is_record_actor w.2 ∙ p in cc)
    | inr (inl w) ↦ (
        let c = data-in (function.class_of params.class) params w.0 w.1 in
        let f = functions.with-needs params.ports (function.start_as c.0 params.values params.ports) w.0 c.2 in
        subst (MeetsRow (types_below net typing k [])) w.2 (by-class c.0 w.0 c.1 c.2 f.0 f.1 (ap is_record_function (sym f.2) ∙ ap is_record_actor w.2 ∙ p)))
    | inr (inr (inl w)) ↦ absurd (let no : false ≡ true = ap is_record_actor w.2 ∙ p in cc)
    | inr (inr (inr w)) ↦ absurd (let no : false ≡ true = ap is_record_actor w.2 ∙ p in cc)
  ]

pub record-rows-met : RecordRowsAreMet
record-rows-met net values typing k e a at plain has typed started p =
    let from = started.started_from in
    let view : entity_view e ≡ from.entity = same_Some (entity_view e) from.entity (sym (viewed entity_view net.entities.items k e at) ∙ from.at) in
    record-meets net values typing k e at plain has typed started.params (from.from.class_is ∙ ap (λ (d : NetEntityTree). d.class) (sym view)) (valued.entity_view from.held) (viewed valued.entity_view values.entities.items k from.held from.held_at)
    (from.from.ports_are ∙ ap (ports_of net.channels.items k) (sym view)) a started.is p
