-- The typing of a net meets the rows of the actors that its entities start as.
use Rattle.std.proofs.Common.{◌≡◌, ◌⊎◌, inl, inr, ℕ, zero, suc, ◌+◌, List, [], ◌∷◌, map, true, false, not, Option, Some, None, refl, sym, ap, ap₂, subst, ◌∙◌, slice_get, arith}
use Rattle.std.specs.Prelude.{option_map, codes}
use Rattle.std.specs.Option.{option_or}
use Rattle.std.proofs.lemmas.Option.{same_Some}
use Rattle.pt_document.specs.declared.job.Direction.{Direction}
use Rattle.pt_document.specs.declared.job.Direction.TheVariants.{Input, Output}
use Rattle.pt_document.specs.declared.job.Port.{Port}
use Rattle.pt_document.specs.Classes.{ClassPort, Actor, kind_of}
use Rattle.pt_document.specs.Document.{PortTree}
use Rattle.pt_document.specs.View.{port_view}
use Rattle.pt_datatypes.specs.Datatype.{Datatype}
use Rattle.pt_net.specs.declared.net.Net.{Net}
use Rattle.pt_net.specs.declared.net.NetEntity.{NetEntity}
use Rattle.pt_net.specs.Table.{joined_ports, declared_port}
use Rattle.pt_net.specs.Net.{NetEntityTree, row_port, entity_view}
use Rattle.pt_net.specs.Inside.{is_inward, is_input, is_output}
use Rattle.pt_scopes.specs.declared.values.Values.{Values}
use Rattle.pt_scopes.specs.Valued as valued
use Rattle.pt_typing.specs.declared.variable.Variable.TheVariants as variable
use Rattle.pt_typing.specs.Least.{Assignment}
use Rattle.pt_inequalities.specs.Typing.{IsTyping}
use Rattle.pt_flow_base.specs.declared.params.Params.{Params}
use Rattle.pt_lib_flow.specs.declared.flow_actor.FlowActor.{FlowActor}
use Rattle.pt_lib_flow.specs.declared.flow_actor.FlowActor.TheVariants as flow
use Rattle.pt_lib_flow.specs.declared.flow_actor.Class.{Class as FlowClass}
use Rattle.pt_lib_flow.specs.declared.flow_actor.Class.TheVariants as class
use Rattle.pt_lib_flow.specs.FlowActor as flow_actor
use Rattle.pt_flow_streams.specs.Const as constant
use Rattle.pt_lib_flow.specs.Expression as expression
use Rattle.pt_flow_streams.specs.SampleDelay as sample_delay
use Rattle.pt_flow_streams.specs.Sequence as sequence
use Rattle.pt_firing.specs.Params.{names_but}
use Rattle.pt_lib_data.specs.declared.data_actor.DataActor.{DataActor}
use Rattle.pt_lib_data.specs.declared.function.Function.{Function}
use Rattle.pt_lib_data.specs.declared.function.Function.TheVariants as made
use Rattle.pt_lib_data.specs.declared.function.Class.{Class as DataClass}
use Rattle.pt_lib_data.specs.declared.function.Class.TheVariants as kinds
use Rattle.pt_lib_data.specs.Function as function
use Rattle.pt_lib_data.specs.DataActor as data_actor
use Rattle.pt_lib_time.specs.declared.time_actor.TimeActor.{TimeActor}
use Rattle.pt_lib_time.specs.declared.time_actor.Class.{Class as TimeClass}
use Rattle.pt_lib_time.specs.TimeActor as time_actor
use Rattle.pt_lib_timed.specs.declared.timed_actor.TimedActor.{TimedActor}
use Rattle.pt_lib_timed.specs.declared.timed_actor.Class.{Class as TimedClass}
use Rattle.pt_lib_timed.specs.TimedActor as timed_actor
use Rattle.pt_library.specs.declared.library_actor.LibraryActor.{LibraryActor}
use Rattle.pt_library.specs.declared.library_actor.LibraryActor.TheVariants.{Flow, Data, Time, Timed}
use Rattle.pt_library.specs.LibraryActor.{start}
use Rattle.pt_scopes.specs.Scopes.{is_composite_class}
use Rattle.pt_typed.specs.TypedActor.{MeetsRow}
use Rattle.pt_typed.specs.TypedFlow.{IsTypedFlow}
use Rattle.pt_typed.specs.TypedData.{IsTypedFunction}
use Rattle.pt_typed.specs.TypedTime.{IsTypedTime}
use Rattle.pt_typed.specs.TypedTimed.{IsTypedTimed}
use Rattle.pt_typed.specs.NetTypes.{arrivals, place_type, number_if, port_numbers, port_types, by_class, types_of, types_below}
use Rattle.pt_typed.specs.NetRows.{ends_from, channels_at, HasClassPorts, is_plain_flow, is_plain_function, is_plain_time, is_plain_timed, is_plain_actor}
use Rattle.pt_typed.specs.RowLaw.{PlainRowsAreMet}
use Rattle.pt_typed.proofs.NetLaws.{types-at-ends, ends-of}
use Rattle.pt_typed.proofs.PortFacts.{PortFacts, head, head_type, entity-facts}
use Rattle.pt_typed.proofs.ClassPorts.{class_head, heads_in, marks_in, declares_in, SinglesFrom, singles-from, out_if, outs_from}
use Rattle.pt_typed.proofs.FlowStarts as flows
use Rattle.pt_typed.proofs.FlowStarts.{mapped}
use Rattle.pt_typed.proofs.DataStarts as functions
use Rattle.pt_typed.proofs.TimeStarts as signals
use Rattle.pt_typed.proofs.TimedStarts as instants
use Rattle.pt_typed.proofs.FlowClasses as flow_classes
use Rattle.pt_typed.proofs.DataClasses as data_classes
use Rattle.pt_typed.proofs.TimeClasses as time_classes
use Rattle.pt_typed.proofs.TimedClasses as timed_classes

-- ---- which class

pub one-of-four : {F D T U A : Type 0} (f : F → A) (d : D → A) (t : T → A) (u : U → A) (o : Option F) (p : Option D) (q : Option T) (r : Option U) (a : A) → option_or (option_map f o) (option_or (option_map d p) (option_or (option_map t q) (option_map u r))) ≡ Some a →
    ((x : F) × (o ≡ Some x) × (f x ≡ a)) ⊎ (((y : D) × (p ≡ Some y) × (d y ≡ a)) ⊎ (((z : T) × (q ≡ Some z) × (t z ≡ a)) ⊎ ((w : U) × (r ≡ Some w) × (u w ≡ a))))
one-of-four f d t u (Some x) p q r a e = inl (x, refl, same_Some (f x) a e)
one-of-four f d t u None (Some y) q r a e = inr (inl (y, refl, same_Some (d y) a e))
one-of-four f d t u None None (Some z) r a e = inr (inr (inl (z, refl, same_Some (t z) a e)))
one-of-four f d t u None None None (Some w) a e = inr (inr (inr (w, refl, same_Some (u w) a e)))
one-of-four f d t u None None None None a e = absurd (cc)

pub flow-in : (o : Option FlowClass) (params : Params) (a : FlowActor) → flow_actor.start_in o params ≡ Some a → (c : FlowClass) × (o ≡ Some c) × (flow_actor.start_as c params ≡ Some a)
flow-in None params a e = absurd (cc)
flow-in (Some c) params a e = (c, refl, e)

pub data-in : (o : Option DataClass) (params : Params) (a : DataActor) → data_actor.start_in o params.values params.ports ≡ Some a → (c : DataClass) × (o ≡ Some c) × (data_actor.started_as c params.values params.ports ≡ Some a)
data-in None params a e = absurd (cc)
data-in (Some c) params a e = (c, refl, e)

-- the class of a plain actor is plain
plain-class : (c : FlowClass) (params : Params) (a : FlowActor) → flow_actor.start_as c params ≡ Some a → is_plain_flow a ≡ true → flow_classes.is_plain c ≡ true
plain-class class.AbsoluteValue params a e p = refl
plain-class class.Accumulator params a e p = refl
plain-class class.AddSubtract params a e p = refl
plain-class class.BooleanSelect params a e p = refl
plain-class class.BooleanSwitch params a e p = refl
plain-class class.Const params a e p = let w = mapped flow.Const (constant.start params) a e in let no : false ≡ true = ap is_plain_flow w.2 ∙ p in absurd (cc)
plain-class class.Counter params a e p = refl
plain-class class.DownSample params a e p = refl
plain-class class.Expression params a e p = let w = mapped flow.Expression (expression.start params) a e in let no : false ≡ true = ap is_plain_flow w.2 ∙ p in absurd (cc)
plain-class class.Maximum params a e p = refl
plain-class class.Minimum params a e p = refl
plain-class class.MultiplyDivide params a e p = refl
plain-class class.Ramp params a e p = refl
plain-class class.Repeat params a e p = refl
plain-class class.SampleDelay params a e p = let w = mapped flow.SampleDelay (sample_delay.start params) a e in let no : false ≡ true = ap is_plain_flow w.2 ∙ p in absurd (cc)
plain-class class.Scale params a e p = refl
plain-class class.Sequence params a e p = let w = mapped flow.Sequence (sequence.start params) a e in let no : false ≡ true = ap is_plain_flow w.2 ∙ p in absurd (cc)
plain-class class.UpSample params a e p = refl

plain-function : (c : DataClass) (params : Params) (f : Function) → function.start_as c params.values params.ports ≡ Some f → is_plain_function f ≡ true → data_classes.is_plain c ≡ true
plain-function kinds.ArrayElement params f e p = refl
plain-function kinds.ArrayToSequence params f e p = refl
plain-function kinds.Barrier params f e p = refl
plain-function kinds.Comparator params f e p = refl
plain-function kinds.Discard params f e p = refl
plain-function kinds.ElementsToArray params f e p = refl
plain-function kinds.Equals params f e p = refl
plain-function kinds.Limiter params f e p = refl
plain-function kinds.LogicFunction params f e p = refl
plain-function kinds.LogicalNot params f e p = refl
plain-function kinds.RecordAssembler params f e p = let same : made.RecordAssembler (names_but (codes "output") params.ports) ≡ f = same_Some _ f e in let no : false ≡ true = ap is_plain_function same ∙ p in absurd (cc)
plain-function kinds.RecordDisassembler params f e p = let same : made.RecordDisassembler (names_but (codes "input") params.ports) ≡ f = same_Some _ f e in let no : false ≡ true = ap is_plain_function same ∙ p in absurd (cc)
plain-function kinds.SequenceToArray params f e p = refl
plain-function kinds.StringLength params f e p = refl

-- ---- the ports of an entity of a class

heads-of-rows : (ps : List ClassPort) → map head (map row_port ps) ≡ map class_head ps
heads-of-rows [] = refl
heads-of-rows (p ∷ ps) = ap (λ hs. (p.name, p.direction) ∷ hs) (heads-of-rows ps)

directions-are : (ps : List PortTree) → map (λ (p : PortTree). p.direction) ps ≡ map (λ (h : List ℕ × Direction). h.1) (map head ps)
directions-are [] = refl
directions-are (p ∷ ps) = ap (λ ds. p.direction ∷ ds) (directions-are ps)

number-by : (d : Direction) (p : Port) (i : ℕ) (ns : List ℕ) → p.direction ≡ d → number_if (is_output p) i ns ≡ out_if d i ns
number-by Input p i ns e = ap (λ d. number_if (not (is_inward d)) i ns) e
number-by Output p i ns e = ap (λ d. number_if (not (is_inward d)) i ns) e

pub outputs-numbered : (i : ℕ) (ps : List Port) → port_numbers is_output i ps ≡ outs_from i (map (λ (p : PortTree). p.direction) (map port_view ps))
outputs-numbered i [] = refl
outputs-numbered i (p ∷ ps) = number-by p.direction p i (port_numbers is_output (suc i) ps) refl ∙ ap (out_if p.direction i) (outputs-numbered (suc i) ps)

pub viewed : {X Y : Type 0} (f : X → Y) (xs : List X) (n : ℕ) (x : X) → slice_get xs n ≡ Some x → slice_get (map f xs) n ≡ Some (f x)
viewed f [] n x e = absurd (cc)
viewed f (y ∷ xs) zero x e = ap (λ z. Some (f z)) (same_Some y x e)
viewed f (y ∷ xs) (suc n) x e = viewed f xs n x e

module _ (net : Net) (values : Values) (typing : Assignment) (k : ℕ) (e : NetEntity) (at : slice_get net.entities.items k ≡ Some e) (plain : is_composite_class e.class ≡ false) (has : HasClassPorts net k e) (typed : IsTyping net values typing) (params : Params)
    (classed : params.class ≡ e.class) (v : valued.EntityView) (held : slice_get (map valued.entity_view values.entities.items) k ≡ Some v) where
  abbrev types : ℕ → Datatype
  types n = typing.types (variable.Port k n)

  abbrev row : Datatype
  row = typing.types (variable.Row k)

  -- the class by its name: its row, whose ports are the entity's
  module _ (name : List ℕ) (named : params.class ≡ name) (heads : List (List ℕ × Direction)) (heads-are : heads_in (kind_of name) ≡ heads) (declares : declares_in (kind_of name) ≡ None) where
    pub its-class : e.class ≡ name
    its-class = sym classed ∙ named

    kind : kind_of name ≡ Some (Actor has.class)
    kind = ap kind_of (sym its-class) ∙ has.kind

    undeclared : has.class.declares ≡ None
    undeclared = sym (ap declares_in kind) ∙ declares

    rows-are : (entity_view e).ports ≡ map row_port has.class.ports
    rows-are = has.ports ∙ ap₂ (λ d ps. joined_ports d ps (map row_port has.class.ports)) undeclared (has.none undeclared)

    its-heads : map head (entity_view e).ports ≡ heads
    its-heads = ap (map head) rows-are ∙ heads-of-rows has.class.ports ∙ sym (ap heads_in kind) ∙ heads-are

    its-directions : map (λ (p : PortTree). p.direction) (entity_view e).ports ≡ map (λ (h : List ℕ × Direction). h.1) heads
    its-directions = directions-are (entity_view e).ports ∙ ap (map (λ (h : List ℕ × Direction). h.1)) its-heads

    pub its-places : (types_below net typing k []).places ≡ map types (ends_from (channels_at net k) 0 (map (λ (h : List ℕ × Direction). h.1) heads))
    its-places =
        ap (λ (o : Option NetEntity). (types_of net typing k o).places) at
        ∙ ap (λ o. by_class o (port_types typing k (port_numbers is_input 0 e.ports.items)) (map (place_type typing) (arrivals net.channels.items k))) plain
        ∙ types-at-ends typing k (arrivals net.channels.items k) (ends-of net k)
        ∙ ap (port_types typing k) (has.ends ∙ ap (ends_from (channels_at net k) 0) its-directions)

    pub its-outputs : (types_below net typing k []).outputs ≡ map types (outs_from 0 (map (λ (h : List ℕ × Direction). h.1) heads))
    its-outputs =
        ap (λ (o : Option NetEntity). (types_of net typing k o).outputs) at
        ∙ ap (port_types typing k) (outputs-numbered 0 e.ports.items ∙ ap (outs_from 0) its-directions)

    pub its-facts : PortFacts row types 0 (map (head_type name) heads)
    its-facts =
        let facts = entity-facts net values typing k (entity_view e) v typed (viewed entity_view net.entities.items k e at) held in
        subst (λ hs. PortFacts row types 0 (map (head_type name) hs)) its-heads (subst (λ n. PortFacts row types 0 (map (head_type n) (map head (entity_view e).ports))) its-class facts)

    pub its-singles : SinglesFrom (channels_at net k) 0 (marks_in (kind_of name))
    its-singles =
        subst (λ o. SinglesFrom (channels_at net k) 0 (marks_in o)) (sym kind)
        (singles-from (channels_at net k) 0 has.class.ports (λ j p there d a. ap (channels_at net k) (let z : 0 + j ≡ j = omega arith in z) ∙
        has.single j p (ap (λ ps. slice_get ps j) (ap₂ (λ o ds. joined_ports o (map declared_port ds) has.class.ports) undeclared (has.none undeclared)) ∙ there) d a))

  flow-meets : (c : FlowClass) (a : FlowActor) → flow_actor.class_of params.class ≡ Some c → flow_actor.start_as c params ≡ Some a → is_plain_flow a ≡ true → MeetsRow (types_below net typing k []) (Flow a)
  flow-meets c a is started p =
      let plain = plain-class c params a started p in
      let name = flows.name_of c in
      let named = flows.class-named params.class c is in
      let heads = flow_classes.heads_of c in
      let declares = flow_classes.plain-declares c plain in
      let fits = flow_classes.flow-fits c row types (channels_at net k) params plain
      (subst (λ ts. PortFacts row types 0 ts) (flow_classes.types-are c) (its-facts name named heads (flow_classes.heads-are c) declares))
      (subst (λ ms. SinglesFrom (channels_at net k) 0 ms) (flow_classes.marks-are c) (its-singles name named heads (flow_classes.heads-are c) declares)) in
      let asked = flows.flow-asked _ _ c params a started fits in
      subst (λ ps. IsTypedFlow ps (types_below net typing k []).outputs a) (sym (its-places name named heads (flow_classes.heads-are c) declares))
      (subst (λ us. IsTypedFlow (map types (ends_from (channels_at net k) 0 (map (λ (h : List ℕ × Direction). h.1) heads))) us a) (sym (its-outputs name named heads (flow_classes.heads-are c) declares)) asked)

  data-meets : (c : DataClass) (a : DataActor) → function.class_of params.class ≡ Some c → data_actor.started_as c params.values params.ports ≡ Some a → is_plain_function a.function ≡ true → MeetsRow (types_below net typing k []) (Data a)
  data-meets c a is started p =
      let made-by = functions.with-needs params.ports (function.start_as c params.values params.ports) a started in
      let plain = plain-function c params made-by.0 made-by.1 (ap is_plain_function (sym made-by.2) ∙ p) in
      let name = functions.name_of c in
      let named = functions.class-named params.class c is in
      let heads = data_classes.heads_of c in
      let declares = data_classes.plain-declares c plain in
      let fits = data_classes.data-fits c row types (channels_at net k) params.ports plain (subst (λ ts. PortFacts row types 0 ts) (data_classes.types-are c) (its-facts name named heads (data_classes.heads-are c) declares)) in
      let asked = functions.data-asked _ _ c params.values params.ports a started fits in
      subst (λ ps. IsTypedFunction ps (types_below net typing k []).outputs a.function) (sym (its-places name named heads (data_classes.heads-are c) declares))
      (subst (λ us. IsTypedFunction (map types (ends_from (channels_at net k) 0 (map (λ (h : List ℕ × Direction). h.1) heads))) us a.function) (sym (its-outputs name named heads (data_classes.heads-are c) declares)) asked)

  time-meets : (c : TimeClass) (a : TimeActor) → time_actor.class_of params.class ≡ Some c → time_actor.start_as c params ≡ Some a → is_plain_time a ≡ true → MeetsRow (types_below net typing k []) (Time a)
  time-meets c a is started p =
      let plain = signals.plain-class c params a started p in
      let name = signals.name_of c in
      let named = signals.class-named params.class c is in
      let heads = time_classes.heads_of c in
      let declares = time_classes.declares-none c in
      let fits = time_classes.time-fits c row types (channels_at net k) params plain
      (subst (λ ts. PortFacts row types 0 ts) (time_classes.types-are c) (its-facts name named heads (time_classes.heads-are c) declares))
      (subst (λ ms. SinglesFrom (channels_at net k) 0 ms) (time_classes.marks-are c) (its-singles name named heads (time_classes.heads-are c) declares)) in
      let asked = signals.time-asked _ _ c params a started fits in
      subst (λ ps. IsTypedTime ps (types_below net typing k []).outputs a) (sym (its-places name named heads (time_classes.heads-are c) declares))
      (subst (λ us. IsTypedTime (map types (ends_from (channels_at net k) 0 (map (λ (h : List ℕ × Direction). h.1) heads))) us a) (sym (its-outputs name named heads (time_classes.heads-are c) declares)) asked)

  timed-meets : (c : TimedClass) (a : TimedActor) → timed_actor.class_of params.class ≡ Some c → timed_actor.start_as c params ≡ Some a → is_plain_timed a ≡ true → MeetsRow (types_below net typing k []) (Timed a)
  timed-meets c a is started p =
      let plain = instants.plain-class c params a started p in
      let name = instants.name_of c in
      let named = instants.class-named params.class c is in
      let heads = timed_classes.heads_of c in
      let declares = timed_classes.declares-none c in
      let fits = timed_classes.timed-fits c row types (channels_at net k) params plain (subst (λ ts. PortFacts row types 0 ts) (timed_classes.types-are c) (its-facts name named heads (timed_classes.heads-are c) declares)) in
      let asked = instants.timed-asked _ _ c params a started fits in
      subst (λ ps. IsTypedTimed ps (types_below net typing k []).outputs a) (sym (its-places name named heads (timed_classes.heads-are c) declares))
      (subst (λ us. IsTypedTimed (map types (ends_from (channels_at net k) 0 (map (λ (h : List ℕ × Direction). h.1) heads))) us a) (sym (its-outputs name named heads (timed_classes.heads-are c) declares)) asked)

  plain-meets : (a : LibraryActor) → start params ≡ Some a → is_plain_actor a ≡ true → MeetsRow (types_below net typing k []) a
  plain-meets a started p = elim (one-of-four Flow Data Time Timed (flow_actor.start params) (data_actor.start params.class params.values params.ports) (time_actor.start params) (timed_actor.start params) a started) [
    | inl w ↦ (let c = flow-in (flow_actor.class_of params.class) params w.0 w.1 in subst (MeetsRow (types_below net typing k [])) w.2 (flow-meets c.0 w.0 c.1 c.2 (ap is_plain_actor w.2 ∙ p)))
    | inr (inl w) ↦ (let c = data-in (function.class_of params.class) params w.0 w.1 in subst (MeetsRow (types_below net typing k [])) w.2 (data-meets c.0 w.0 c.1 c.2 (ap is_plain_actor w.2 ∙ p)))
    | inr (inr (inl w)) ↦ (let c = signals.time-in (time_actor.class_of params.class) params w.0 w.1 in subst (MeetsRow (types_below net typing k [])) w.2 (time-meets c.0 w.0 c.1 c.2 (ap is_plain_actor w.2 ∙ p)))
    | inr (inr (inr w)) ↦ (let c = instants.timed-in (timed_actor.class_of params.class) params w.0 w.1 in subst (MeetsRow (types_below net typing k [])) w.2 (timed-meets c.0 w.0 c.1 c.2 (ap is_plain_actor w.2 ∙ p)))
  ]

pub plain-rows-met : PlainRowsAreMet
plain-rows-met net values typing k e a at plain has typed started p =
    let from = started.started_from in
    let view : entity_view e ≡ from.entity = same_Some (entity_view e) from.entity (sym (viewed entity_view net.entities.items k e at) ∙ from.at) in
    plain-meets net values typing k e at plain has typed started.params (from.from.class_is ∙ ap (λ (d : NetEntityTree). d.class) (sym view)) (valued.entity_view from.held) (viewed valued.entity_view values.entities.items k from.held from.held_at) a started.is p
