-- What an actor of a net in order needs at its start: a count for each of its places, or one token from any, where it is a Merge.
use Rattle.std.proofs.Common.{◌≡◌, ◌⊎◌, inl, inr, ℕ, suc, ◌+◌, List, [], ◌∷◌, length, map, filter, Bool, true, false, None, Option, Some, refl, sym, ap, ap₂, subst, ◌∙◌, slice_get, arith}
use Rattle.std.specs.Prelude.{codes, count_by}
use Rattle.std.proofs.lemmas.List.{length-map}
use Rattle.std.proofs.lemmas.List.Sums.{length-filter}
use Rattle.pt_meaning.specs.Machine.{Need, Any}
use Rattle.pt_document.specs.declared.job.Direction.{Direction}
use Rattle.pt_document.specs.declared.job.Direction.TheVariants.{Input, Output}
use Rattle.pt_document.specs.Classes.{ClassPort, Actor, kind_of, class_row, classes}
use Rattle.pt_document.specs.Document.{PortTree}
use Rattle.pt_net.specs.declared.net.Channel.{Channel}
use Rattle.pt_net.specs.declared.net.Net.{Net}
use Rattle.pt_net.specs.declared.net.NetEntity.{NetEntity}
use Rattle.pt_net.specs.Table.{joined_ports, declared_port}
use Rattle.pt_net.specs.Net.{row_port, entity_view}
use Rattle.pt_net.specs.Inside.{comes_to, place_count}
use Rattle.pt_typing.specs.Least.{Assignment}
use Rattle.pt_flow_base.specs.declared.params.Params.{Params}
use Rattle.pt_lib_flow.specs.declared.flow_actor.Class.{Class as FlowClass}
use Rattle.pt_lib_flow.specs.declared.flow_actor.Class.TheVariants as class
use Rattle.pt_lib_flow.specs.declared.flow_actor.FlowActor.{FlowActor}
use Rattle.pt_lib_flow.specs.FlowActor as flow_actor
use Rattle.pt_lib_data.specs.declared.data_actor.DataActor.{DataActor}
use Rattle.pt_lib_data.specs.declared.function.Class.{Class as DataClass}
use Rattle.pt_lib_data.specs.declared.function.Class.TheVariants as kinds
use Rattle.pt_lib_data.specs.Function as function
use Rattle.pt_lib_data.specs.DataActor as data_actor
use Rattle.pt_lib_time.specs.declared.time_actor.Class.{Class as TimeClass}
use Rattle.pt_lib_time.specs.declared.time_actor.Class.TheVariants as signal
use Rattle.pt_lib_time.specs.declared.time_actor.TimeActor.{TimeActor}
use Rattle.pt_lib_time.specs.TimeActor as time_actor
use Rattle.pt_lib_timed.specs.declared.timed_actor.Class.{Class as TimedClass}
use Rattle.pt_lib_timed.specs.declared.timed_actor.TimedActor.{TimedActor}
use Rattle.pt_lib_timed.specs.TimedActor as timed_actor
use Rattle.pt_library.specs.declared.library_actor.LibraryActor.{LibraryActor}
use Rattle.pt_library.specs.declared.library_actor.LibraryActor.TheVariants.{Flow, Data, Time, Timed}
use Rattle.pt_library.specs.LibraryActor.{need, start}
use Rattle.pt_start.specs.Started.{ports_of}
use Rattle.pt_order.specs.Wired.{arrivals}
use Rattle.pt_order.specs.ClassPorts.{ends_from, channels_at, HasClassPorts}
use Rattle.pt_typed.proofs.FlowStarts as flows
use Rattle.pt_typed.proofs.DataStarts as functions
use Rattle.pt_typed.proofs.TimeStarts as signals
use Rattle.pt_typed.proofs.TimedStarts as instants
use Rattle.pt_typed.proofs.FlowClasses as flow_classes
use Rattle.pt_typed.proofs.DataClasses as data_classes
use Rattle.pt_typed.proofs.TimeClasses as time_classes
use Rattle.pt_typed.proofs.TimedClasses as timed_classes
use Rattle.pt_typed.proofs.ClassPorts.{class_head, heads_in, marks_in, declares_in, SinglesFrom, singles-from}
use Rattle.pt_typed.proofs.RowsMet.{one-of-four, flow-in, data-in}
use Rattle.pt_placed.specs.Counted.{IsCounted}
use Rattle.pt_placed.proofs.FlowNeeds.{flow_places, flow-counted}
use Rattle.pt_placed.proofs.DataNeeds.{data_places, data-counted}
use Rattle.pt_placed.proofs.TimeNeeds.{time_places, is_merge, time-counted, merge-any}
use Rattle.pt_placed.proofs.TimedNeeds.{timed_places, timed-counted}
use Rattle.pt_placed.proofs.Widths.{width, ends-width, port_head, counted_from, ports-counted}
use Rattle.pt_placed.proofs.ClassWidths.{ways, is_expression, expression-class, flow-declares, flow-width, record-class, data-width, time-width, timed-width}
use Rattle.pt_placed.proofs.Declared.{inputs-width, input-width}

-- ---- the classes that declare ports

expression-declares : declares_in (kind_of (codes "Expression")) ≡ Some Input
unfolding kind_of class_row classes
expression-declares = refl

assembler-declares : declares_in (kind_of (codes "RecordAssembler")) ≡ Some Input
unfolding kind_of class_row classes
assembler-declares = refl

disassembler-declares : declares_in (kind_of (codes "RecordDisassembler")) ≡ Some Output
unfolding kind_of class_row classes
disassembler-declares = refl

-- ---- ports

heads-of-rows : (ps : List ClassPort) → map port_head (map row_port ps) ≡ map class_head ps
heads-of-rows [] = refl
heads-of-rows (p ∷ ps) = ap (λ hs. (p.name, p.direction) ∷ hs) (heads-of-rows ps)

ways-of-heads : (ps : List PortTree) → map (λ (p : PortTree). p.direction) ps ≡ ways (map port_head ps)
ways-of-heads [] = refl
ways-of-heads (p ∷ ps) = ap (λ ds. p.direction ∷ ds) (ways-of-heads ps)

-- a need that counts the places, or a Merge's
abbrev pub NeedsPlaces : (class : List ℕ) (places : ℕ) → Need → Type 0
NeedsPlaces class places n = IsCounted places n ⊎ ((n ≡ Any) × (class ≡ codes "Merge"))

module _ (net : Net) (typing : Assignment) (k : ℕ) (e : NetEntity) (has : HasClassPorts net k e) (params : Params) (classed : params.class ≡ e.class) (ports-are : params.ports ≡ ports_of net.channels.items k (entity_view e)) where
  abbrev counts : ℕ → ℕ
  counts = channels_at net k

  abbrev places : ℕ
  places = place_count net.channels.items k

  -- the places are the inputs' channels
  all-places : width counts 0 (map (λ (p : PortTree). p.direction) (entity_view e).ports) ≡ places
  all-places =
      sym (ends-width counts 0 (map (λ (p : PortTree). p.direction) (entity_view e).ports)) ∙ ap (λ (ns : List ℕ). length ns) (sym has.ends) ∙ length-map (arrivals net.channels.items k) (λ (c : Channel). c.to.port) ∙ length-filter (comes_to k) net.channels.items

  -- the class by its name: its row, whose ports are the entity's
  module _ (name : List ℕ) (named : params.class ≡ name) where
    pub its-class : e.class ≡ name
    its-class = sym classed ∙ named

    kind : kind_of name ≡ Some (Actor has.class)
    kind = ap kind_of (sym its-class) ∙ has.kind

    module _ (heads : List (List ℕ × Direction)) (heads-are : heads_in (kind_of name) ≡ heads) (declares : declares_in (kind_of name) ≡ None) where
      undeclared : has.class.declares ≡ None
      undeclared = sym (ap declares_in kind) ∙ declares

      rows-are : (entity_view e).ports ≡ map row_port has.class.ports
      rows-are = has.ports ∙ ap₂ (λ d ps. joined_ports d ps (map row_port has.class.ports)) undeclared (has.none undeclared)

      its-heads : map port_head (entity_view e).ports ≡ heads
      its-heads = ap (map port_head) rows-are ∙ heads-of-rows has.class.ports ∙ sym (ap heads_in kind) ∙ heads-are

      pub its-ports : params.ports ≡ counted_from counts 0 heads
      its-ports = ports-are ∙ ports-counted net.channels.items k 0 (entity_view e).ports ∙ ap (counted_from counts 0) its-heads

      pub its-width : width counts 0 (ways heads) ≡ places
      its-width = sym (ap (width counts 0) (ways-of-heads (entity_view e).ports ∙ ap ways its-heads)) ∙ all-places

      pub its-singles : SinglesFrom counts 0 (marks_in (kind_of name))
      its-singles =
          subst (λ o. SinglesFrom counts 0 (marks_in o)) (sym kind)
          (singles-from counts 0 has.class.ports (λ j p there d a. ap counts (let z : 0 + j ≡ j = omega arith in z) ∙
          has.single j p (ap (λ ps. slice_get ps j) (ap₂ (λ o ds. joined_ports o (map declared_port ds) has.class.ports) undeclared (has.none undeclared)) ∙ there) d a))

  -- ---- library by library

  flow-places : (c : FlowClass) → params.class ≡ flows.name_of c → flow_places c params.ports ≡ places
  flow-places c named = by_test (is_expression c) refl
    where
      by_test : (b : Bool) → is_expression c ≡ b → flow_places c params.ports ≡ places
      by_test false plain =
          let name = flows.name_of c in
          let heads = flow_classes.heads-are c in
          let declares = flow-declares c plain in
          ap (flow_places c) (its-ports name named (flow_classes.heads_of c) heads declares) ∙ flow-width c counts plain (subst (λ ms. SinglesFrom counts 0 ms) (flow_classes.marks-are c) (its-singles name named (flow_classes.heads_of c) heads declares))
          ∙ its-width name named (flow_classes.heads_of c) heads declares
      by_test true so =
          expression-class (λ (d : FlowClass). params.class ≡ flows.name_of d → flow_places d params.ports ≡ places) c
          (λ is. ap (flow_places class.Expression) ports-are ∙ inputs-width net typing k e has (codes "Expression") (its-class (codes "Expression") is) expression-declares (flow_classes.heads-are class.Expression) ∙ all-places) so named

  data-places : (c : DataClass) → params.class ≡ functions.name_of c → data_places c params.ports ≡ places
  data-places c named = by_test (data_classes.is_plain c) refl
    where
      by_test : (b : Bool) → data_classes.is_plain c ≡ b → data_places c params.ports ≡ places
      by_test true plain =
          let name = functions.name_of c in
          let heads = data_classes.heads-are c in
          let declares = data_classes.plain-declares c plain in
          ap (data_places c) (its-ports name named (data_classes.heads_of c) heads declares) ∙ data-width c counts plain (subst (λ ms. SinglesFrom counts 0 ms) (data_classes.marks-are c) (its-singles name named (data_classes.heads_of c) heads declares))
          ∙ its-width name named (data_classes.heads_of c) heads declares
      by_test false so =
          record-class (λ (d : DataClass). params.class ≡ functions.name_of d → data_places d params.ports ≡ places) c
          (λ is. ap (data_places kinds.RecordAssembler) ports-are ∙ inputs-width net typing k e has (codes "RecordAssembler") (its-class (codes "RecordAssembler") is) assembler-declares (data_classes.heads-are kinds.RecordAssembler) ∙ all-places)
          (λ is. input-width net typing k e has (codes "RecordDisassembler") (its-class (codes "RecordDisassembler") is) disassembler-declares (data_classes.heads-are kinds.RecordDisassembler) (data_classes.marks-are kinds.RecordDisassembler) ∙ all-places) so named

  time-places : (c : TimeClass) → params.class ≡ signals.name_of c → time_places c params.ports ≡ places
  time-places c named =
      let name = signals.name_of c in
      let heads = time_classes.heads-are c in
      let declares = time_classes.declares-none c in
      ap (time_places c) (its-ports name named (time_classes.heads_of c) heads declares) ∙ time-width c counts (subst (λ ms. SinglesFrom counts 0 ms) (time_classes.marks-are c) (its-singles name named (time_classes.heads_of c) heads declares))
      ∙ its-width name named (time_classes.heads_of c) heads declares

  timed-places : (c : TimedClass) → params.class ≡ instants.name_of c → timed_places c ≡ places
  timed-places c named =
      let name = instants.name_of c in
      let heads = timed_classes.heads-are c in
      let declares = timed_classes.declares-none c in
      timed-width c counts (subst (λ ms. SinglesFrom counts 0 ms) (timed_classes.marks-are c) (its-singles name named (timed_classes.heads_of c) heads declares)) ∙ its-width name named (timed_classes.heads_of c) heads declares

  flow-needs : (c : FlowClass) (a : FlowActor) → params.class ≡ flows.name_of c → flow_actor.start_as c params ≡ Some a → NeedsPlaces params.class places (flow_actor.need a)
  flow-needs c a named started = inl (subst (λ n. IsCounted n (flow_actor.need a)) (flow-places c named) (flow-counted c params a started))

  data-needs : (c : DataClass) (a : DataActor) → params.class ≡ functions.name_of c → data_actor.started_as c params.values params.ports ≡ Some a → NeedsPlaces params.class places (data_actor.need a)
  data-needs c a named started = inl (subst (λ n. IsCounted n (data_actor.need a)) (data-places c named) (data-counted c params.values params.ports a started))

  time-needs : (c : TimeClass) (a : TimeActor) → params.class ≡ signals.name_of c → time_actor.start_as c params ≡ Some a → NeedsPlaces params.class places (time_actor.need a)
  time-needs c a named started = by_test (is_merge c) refl
    where
      by_test : (b : Bool) → is_merge c ≡ b → NeedsPlaces params.class places (time_actor.need a)
      by_test false other = inl (subst (λ n. IsCounted n (time_actor.need a)) (time-places c named) (time-counted c params a other started))
      by_test true merging = let w = merge-any c params a merging started in inr (w.1, named ∙ ap signals.name_of w.0)

  timed-needs : (c : TimedClass) (a : TimedActor) → params.class ≡ instants.name_of c → timed_actor.start_as c params ≡ Some a → NeedsPlaces params.class places (timed_actor.need a)
  timed-needs c a named started = inl (subst (λ n. IsCounted n (timed_actor.need a)) (timed-places c named) (timed-counted c params a started))

  pub actor-needs : (a : LibraryActor) → start params ≡ Some a → NeedsPlaces params.class places (need a)
  actor-needs a started = elim (one-of-four Flow Data Time Timed (flow_actor.start params) (data_actor.start params.class params.values params.ports) (time_actor.start params) (timed_actor.start params) a started) [
    | inl w ↦ (let c = flow-in (flow_actor.class_of params.class) params w.0 w.1 in subst (λ (b : LibraryActor). NeedsPlaces params.class places (need b)) w.2 (flow-needs c.0 w.0 (flows.class-named params.class c.0 c.1) c.2))
    | inr (inl w) ↦ (let c = data-in (function.class_of params.class) params w.0 w.1 in subst (λ (b : LibraryActor). NeedsPlaces params.class places (need b)) w.2 (data-needs c.0 w.0 (functions.class-named params.class c.0 c.1) c.2))
    | inr (inr (inl w)) ↦ (let c = signals.time-in (time_actor.class_of params.class) params w.0 w.1 in subst (λ (b : LibraryActor). NeedsPlaces params.class places (need b)) w.2 (time-needs c.0 w.0 (signals.class-named params.class c.0 c.1) c.2))
    | inr (inr (inr w)) ↦ (let c = instants.timed-in (timed_actor.class_of params.class) params w.0 w.1 in subst (λ (b : LibraryActor). NeedsPlaces params.class places (need b)) w.2 (timed-needs c.0 w.0 (instants.class-named params.class c.0 c.1) c.2))
  ]
