-- How many outputs an actor of a net has: as many as its rates, where these don't vary.
use Rattle.std.proofs.Common.{◌≡◌, ◌⊎◌, inl, inr, ◌+◌, ℕ, suc, List, [], ◌∷◌, ◌++◌, Bool, true, false, not, cond, Option, Some, None, length, map, refl, sym, ap, subst, ◌∙◌, arith, if◌then◌else◌}
use Rattle.std.specs.Prelude.{codes, bytes_eq, option_map}
use Rattle.std.specs.List.{AllByRecursion, filter, enumerate_from, count_by}
use Rattle.std.proofs.lemmas.List.{length-replicate}
use Rattle.std.proofs.lemmas.List.Sums.{length-filter}
use Rattle.std.proofs.lemmas.Option.{none-some, same_Some}
use Rattle.std.proofs.lemmas.Slice.Eq.{bytes_eq-Decides}
use Rattle.pt_value.specs.declared.token.Token.{Token}
use Rattle.pt_document.specs.declared.job.Direction.{Direction}
use Rattle.pt_document.specs.declared.job.Direction.TheVariants.{Input, Output}
use Rattle.pt_document.specs.declared.job.Port.{Port}
use Rattle.pt_document.specs.Classes.{ClassPort, Actor, kind_of, class_row, classes}
use Rattle.pt_document.specs.Document.{PortTree}
use Rattle.pt_document.specs.View.{port_view}
use Rattle.pt_firing.specs.Params.{names_but}
use Rattle.pt_net.specs.declared.net.Channel.{Channel}
use Rattle.pt_net.specs.declared.net.Net.{Net}
use Rattle.pt_net.specs.declared.net.NetEntity.{NetEntity}
use Rattle.pt_net.specs.Inside.{is_inward, is_output}
use Rattle.pt_net.specs.Net.{row_port, entity_view}
use Rattle.pt_net.specs.Table.{joined_ports}
use Rattle.pt_start.specs.Started.{counted_port, ports_of}
use Rattle.pt_flow_base.specs.declared.params.Params.{Params}
use Rattle.pt_lib_flow.specs.declared.flow_actor.Class.{Class as FlowClass}
use Rattle.pt_lib_flow.specs.declared.flow_actor.Class.TheVariants as class
use Rattle.pt_lib_flow.specs.declared.flow_actor.FlowActor.{FlowActor}
use Rattle.pt_lib_flow.specs.declared.flow_actor.FlowActor.TheVariants as flow
use Rattle.pt_lib_flow.specs.FlowActor as flow_actor
use Rattle.pt_flow_streams.specs.BooleanSwitch as boolean_switch
use Rattle.pt_lib_data.specs.declared.function.Class.{Class as DataClass}
use Rattle.pt_lib_data.specs.declared.function.Class.TheVariants as kinds
use Rattle.pt_lib_data.specs.declared.function.Function.{Function}
use Rattle.pt_lib_data.specs.declared.function.Function.TheVariants as made
use Rattle.pt_lib_data.specs.ArrayElement as array_element
use Rattle.pt_lib_data.specs.Comparator as comparator
use Rattle.pt_lib_data.specs.Limiter as limiter
use Rattle.pt_lib_data.specs.LogicFunction as logic_function
use Rattle.pt_lib_data.specs.SequenceToArray as sequence_to_array
use Rattle.pt_lib_data.specs.Function as function
use Rattle.pt_lib_data.specs.DataActor as data_actor
use Rattle.pt_lib_time.specs.TimeActor as time_actor
use Rattle.pt_lib_timed.specs.TimedActor as timed_actor
use Rattle.pt_library.specs.declared.library_actor.LibraryActor.{LibraryActor}
use Rattle.pt_library.specs.declared.library_actor.LibraryActor.TheVariants.{Flow, Data, Time, Timed}
use Rattle.pt_library.specs.LibraryActor as library
use Rattle.pt_order.specs.ClassPorts.{HasClassPorts}
use Rattle.pt_typed.proofs.ClassPorts.{class_head, heads_in, declares_in}
use Rattle.pt_typed.proofs.DataClasses as data_classes
use Rattle.pt_typed.proofs.DataStarts as functions
use Rattle.pt_typed.proofs.FlowClasses as flow_classes
use Rattle.pt_typed.proofs.FlowStarts as flows
use Rattle.pt_typed.proofs.FlowStarts.{mapped}
use Rattle.pt_typed.proofs.RecordRows.{one-row, directions-all}
use Rattle.pt_typed.proofs.RowsMet.{one-of-four, flow-in, data-in}

-- ---- outputs

abbrev is_outward : Direction → Bool
is_outward d = not (is_inward d)

-- how many of these directions lead out
abbrev outs : List Direction → ℕ
outs [] = 0
outs (d ∷ ds) = cond (is_outward d) (suc (outs ds)) (outs ds)

abbrev ways : List PortTree → List Direction
ways ps = map (λ (p : PortTree). p.direction) ps

filtered : (ps : List Port) → length (filter is_output ps) ≡ outs (map (λ (p : Port). p.direction) ps)
filtered [] = refl
filtered (p ∷ ps) = chosen (is_output p) (filtered ps)
  where
    chosen : (b : Bool) → length (filter is_output ps) ≡ outs (map (λ (q : Port). q.direction) ps) → length (cond b (p ∷ filter is_output ps) (filter is_output ps)) ≡ cond b (suc (outs (map (λ (q : Port). q.direction) ps))) (outs (map (λ (q : Port). q.direction) ps))
    chosen true e = ap (λ n. suc n) e
    chosen false e = e

of-views : (ps : List Port) → ways (map port_view ps) ≡ map (λ (p : Port). p.direction) ps
of-views [] = refl
of-views (p ∷ ps) = ap (λ ds. p.direction ∷ ds) (of-views ps)

of-rows : (ps : List ClassPort) → ways (map row_port ps) ≡ map (λ (h : List ℕ × Direction). h.1) (map class_head ps)
of-rows [] = refl
of-rows (p ∷ ps) = ap (λ ds. p.direction ∷ ds) (of-rows ps)

outs-joined : (ps qs : List PortTree) → outs (ways (ps ++ qs)) ≡ outs (ways ps) + outs (ways qs)
outs-joined [] qs = let z : outs (ways qs) ≡ 0 + outs (ways qs) = omega arith in z
outs-joined (p ∷ ps) qs = chosen (is_outward p.direction) (outs-joined ps qs)
  where
    chosen : (b : Bool) → outs (ways (ps ++ qs)) ≡ outs (ways ps) + outs (ways qs) → cond b (suc (outs (ways (ps ++ qs)))) (outs (ways (ps ++ qs))) ≡ cond b (suc (outs (ways ps))) (outs (ways ps)) + outs (ways qs)
    chosen true e = let z : suc (outs (ways (ps ++ qs))) ≡ suc (outs (ways ps)) + outs (ways qs) = omega (arith, e) in z
    chosen false e = e

-- inputs are none of them, and outputs all
no-outs : (ps : List PortTree) → AllByRecursion (λ (p : PortTree). Input ≡ p.direction) ps → outs (ways ps) ≡ 0
no-outs [] a = refl
no-outs (p ∷ ps) a = ap (λ d. cond (is_outward d) (suc (outs (ways ps))) (outs (ways ps))) (sym a.0) ∙ no-outs ps a.1

all-outs : (ps : List PortTree) → AllByRecursion (λ (p : PortTree). Output ≡ p.direction) ps → outs (ways ps) ≡ length ps
all-outs [] a = refl
all-outs (p ∷ ps) a = ap (λ d. cond (is_outward d) (suc (outs (ways ps))) (outs (ways ps))) (sym a.0) ∙ ap (λ n. suc n) (all-outs ps a.1)

-- how many ports a class declares lead out
abbrev declared_outs : Option Direction → ℕ → ℕ
declared_outs None n = 0
declared_outs (Some Input) n = 0
declared_outs (Some Output) n = n

-- the outputs of an actor: those of its class, and those that it declares
module _ (net : Net) (k : ℕ) (e : NetEntity) (has : HasClassPorts net k e) (name : List ℕ) (named : e.class ≡ name) where
  kind : kind_of name ≡ Some (Actor has.class)
  kind = ap kind_of (sym named) ∙ has.kind

  joined-outs : (o : Option Direction) → has.class.declares ≡ o → (rows : List PortTree) → outs (ways (joined_ports o has.declared rows)) ≡ outs (ways rows) + declared_outs o (length has.declared)
  joined-outs None is rows = let none = ap (λ (ds : List PortTree). outs (ways ds)) (has.none is) in let both = outs-joined has.declared rows in omega (arith, none, both)
  joined-outs (Some Input) is rows = let none = no-outs has.declared (directions-all has.class.declares Input has.class.ports has.declared is has.fit) in let both = outs-joined has.declared rows in omega (arith, none, both)
  joined-outs (Some Output) is rows = let all = all-outs has.declared (directions-all has.class.declares Output has.class.ports has.declared is has.fit) in let both = outs-joined rows has.declared in omega (arith, all, both)

  -- by the row of its class
  pub outputs-by : (heads : List (List ℕ × Direction)) (o : Option Direction) → heads_in (kind_of name) ≡ heads → declares_in (kind_of name) ≡ o → count_by is_output e.ports.items ≡ outs (map (λ (h : List ℕ × Direction). h.1) heads) + declared_outs o (length has.declared)
  outputs-by heads o heads-are declares =
      let is : has.class.declares ≡ o = sym (ap declares_in kind) ∙ declares in
      sym (length-filter is_output e.ports.items) ∙ filtered e.ports.items ∙ ap outs (sym (of-views e.ports.items))
      ∙ ap (λ (ps : List PortTree). outs (ways ps)) (has.ports ∙ ap (λ d. joined_ports d has.declared (map row_port has.class.ports)) is)
      ∙ joined-outs o is (map row_port has.class.ports)
      ∙ ap (λ ds. outs ds + declared_outs o (length has.declared)) (of-rows has.class.ports ∙ ap (λ (hs : List (List ℕ × Direction)). map (λ (h : List ℕ × Direction). h.1) hs) (sym (ap heads_in kind) ∙ heads-are))

-- ---- flow actors

abbrev heads_out : List (List ℕ × Direction) → ℕ
heads_out hs = outs (map (λ (h : List ℕ × Direction). h.1) hs)

flow-declared : (c : FlowClass) (n : ℕ) → declared_outs (declares_in (kind_of (flows.name_of c))) n ≡ 0
unfolding kind_of class_row classes
flow-declared class.AbsoluteValue n = refl
flow-declared class.Accumulator n = refl
flow-declared class.AddSubtract n = refl
flow-declared class.BooleanSelect n = refl
flow-declared class.BooleanSwitch n = refl
flow-declared class.Const n = refl
flow-declared class.Counter n = refl
flow-declared class.DownSample n = refl
flow-declared class.Expression n = refl
flow-declared class.Maximum n = refl
flow-declared class.Minimum n = refl
flow-declared class.MultiplyDivide n = refl
flow-declared class.Ramp n = refl
flow-declared class.Repeat n = refl
flow-declared class.SampleDelay n = refl
flow-declared class.Scale n = refl
flow-declared class.Sequence n = refl
flow-declared class.UpSample n = refl

-- each class but BooleanSwitch has one output
one-out : (c : FlowClass) → (c ≡ class.BooleanSwitch → ⊥) → heads_out (flow_classes.heads_of c) ≡ 1
one-out class.AbsoluteValue other = refl
one-out class.Accumulator other = refl
one-out class.AddSubtract other = refl
one-out class.BooleanSelect other = refl
one-out class.BooleanSwitch other = absurd (other refl)
one-out class.Const other = refl
one-out class.Counter other = refl
one-out class.DownSample other = refl
one-out class.Expression other = refl
one-out class.Maximum other = refl
one-out class.Minimum other = refl
one-out class.MultiplyDivide other = refl
one-out class.Ramp other = refl
one-out class.Repeat other = refl
one-out class.SampleDelay other = refl
one-out class.Scale other = refl
one-out class.Sequence other = refl
one-out class.UpSample other = refl

-- what a BooleanSwitch gives varies
switch-varies : (c : FlowClass) (params : Params) (a : FlowActor) (rs : List ℕ) → flow_actor.start_as c params ≡ Some a → flow_actor.rates a ≡ Some rs → c ≡ class.BooleanSwitch → ⊥
switch-varies c params a rs e rated is =
    let w = mapped flow.BooleanSwitch (boolean_switch.start params) a (ap (λ d. flow_actor.start_as d params) (sym is) ∙ e) in
    none-some rs (ap flow_actor.rates w.2 ∙ rated)

one-rate : (o : Option ℕ) (rs : List ℕ) → option_map (λ n. n ∷ []) o ≡ Some rs → length rs ≡ 1
one-rate None rs e = absurd (none-some rs e)
one-rate (Some n) rs e = ap (λ (v : List ℕ). length v) (sym (same_Some (n ∷ []) rs e))

flow-outputs : (net : Net) (k : ℕ) (e : NetEntity) → HasClassPorts net k e → (c : FlowClass) (params : Params) (a : FlowActor) (rs : List ℕ) → e.class ≡ flows.name_of c → flow_actor.start_as c params ≡ Some a → flow_actor.rates a ≡ Some rs → count_by is_output e.ports.items ≡ length rs
flow-outputs net k e has c params a rs named started rated =
    let by = outputs-by net k e has (flows.name_of c) named (flow_classes.heads_of c) (declares_in (kind_of (flows.name_of c))) (flow_classes.heads-are c) refl in
    let one = one-out c (switch-varies c params a rs started rated) in
    let none = flow-declared c (length has.declared) in
    let long = one-rate (flow_actor.rate a) rs rated in
    omega (arith, by, one, none, long)

-- ---- data actors

data-declared : (c : DataClass) (n : ℕ) → (c ≡ kinds.RecordDisassembler → ⊥) → declared_outs (declares_in (kind_of (functions.name_of c))) n ≡ 0
unfolding kind_of class_row classes
data-declared kinds.ArrayElement n other = refl
data-declared kinds.ArrayToSequence n other = refl
data-declared kinds.Barrier n other = refl
data-declared kinds.Comparator n other = refl
data-declared kinds.Discard n other = refl
data-declared kinds.ElementsToArray n other = refl
data-declared kinds.Equals n other = refl
data-declared kinds.Limiter n other = refl
data-declared kinds.LogicFunction n other = refl
data-declared kinds.LogicalNot n other = refl
data-declared kinds.RecordAssembler n other = refl
data-declared kinds.RecordDisassembler n other = absurd (other refl)
data-declared kinds.SequenceToArray n other = refl
data-declared kinds.StringLength n other = refl

-- each class but RecordDisassembler has as many outputs as rates
data-out : (c : DataClass) (values : List (List ℕ × Token)) (ports : List (List ℕ × ℕ)) (f : Function) → (c ≡ kinds.RecordDisassembler → ⊥) → function.start_as c values ports ≡ Some f → length (function.rates f) ≡ heads_out (data_classes.heads_of c)
data-out kinds.ArrayElement values ports f other e = let w = mapped made.ArrayElement (array_element.start values) f e in subst (λ g. length (function.rates g) ≡ 1) w.2 refl
data-out kinds.ArrayToSequence values ports f other e = let w = mapped made.ArrayToSequence (sequence_to_array.start values) f e in subst (λ g. length (function.rates g) ≡ 1) w.2 refl
data-out kinds.Barrier values ports f other e = subst (λ g. length (function.rates g) ≡ 1) (same_Some made.Barrier f e) refl
data-out kinds.Comparator values ports f other e = let w = mapped made.Comparator (comparator.start values) f e in subst (λ g. length (function.rates g) ≡ 1) w.2 refl
data-out kinds.Discard values ports f other e = subst (λ g. length (function.rates g) ≡ 0) (same_Some made.Discard f e) refl
data-out kinds.ElementsToArray values ports f other e = subst (λ g. length (function.rates g) ≡ 1) (same_Some made.ElementsToArray f e) refl
data-out kinds.Equals values ports f other e = subst (λ g. length (function.rates g) ≡ 1) (same_Some made.Equals f e) refl
data-out kinds.Limiter values ports f other e = let w = mapped made.Limiter (limiter.start values) f e in subst (λ g. length (function.rates g) ≡ 1) w.2 refl
data-out kinds.LogicFunction values ports f other e = let w = mapped made.LogicFunction (logic_function.start values) f e in subst (λ g. length (function.rates g) ≡ 1) w.2 refl
data-out kinds.LogicalNot values ports f other e = subst (λ g. length (function.rates g) ≡ 1) (same_Some made.LogicalNot f e) refl
data-out kinds.RecordAssembler values ports f other e = subst (λ g. length (function.rates g) ≡ 1) (same_Some (made.RecordAssembler (names_but (codes "output") ports)) f e) refl
data-out kinds.RecordDisassembler values ports f other e = absurd (other refl)
data-out kinds.SequenceToArray values ports f other e = let w = mapped made.SequenceToArray (sequence_to_array.start values) f e in subst (λ g. length (function.rates g) ≡ 1) w.2 refl
data-out kinds.StringLength values ports f other e = subst (λ g. length (function.rates g) ≡ 1) (same_Some made.StringLength f e) refl

disassembler-declares : declares_in (kind_of (codes "RecordDisassembler")) ≡ Some Output
unfolding kind_of class_row classes
disassembler-declares = refl

-- ports under other names are all kept
names-kept : (other : List ℕ) (ks : List Channel) (k i : ℕ) (ps : List PortTree) → AllByRecursion (λ (p : PortTree). bytes_eq p.name other ≡ false) ps → length (names_but other (map (counted_port ks k) (enumerate_from i ps))) ≡ length ps
unfolding names_but
names-kept other ks k i [] a = refl
names-kept other ks k i (p ∷ ps) a =
    let rest = map (counted_port ks k) (enumerate_from (i + 1) ps) in
    ap (λ b. length (if b then names_but other rest else p.name ∷ names_but other rest)) a.0 ∙ ap (λ n. suc n) (names-kept other ks k (i + 1) ps a.1)

-- and one of that name isn't
name-dropped : (other : List ℕ) (ks : List Channel) (k i : ℕ) (p : PortTree) (ps : List PortTree) → bytes_eq p.name other ≡ true → AllByRecursion (λ (q : PortTree). bytes_eq q.name other ≡ false) ps → length (names_but other (map (counted_port ks k) (enumerate_from i (p ∷ ps)))) ≡ length ps
unfolding names_but
name-dropped other ks k i p ps is a =
    let rest = map (counted_port ks k) (enumerate_from (i + 1) ps) in
    ap (λ b. length (if b then names_but other rest else p.name ∷ names_but other rest)) is ∙ names-kept other ks k (i + 1) ps a

names-apart : (o : Option Direction) (q : ClassPort) (ds : List PortTree) → q.name ≡ codes "input" → AllByRecursion (λ (p : PortTree). (o ≡ Some p.direction) × AllByRecursion (λ (r : ClassPort). bytes_eq p.name r.name ≡ false) (q ∷ [])) ds → AllByRecursion (λ (p : PortTree). bytes_eq p.name (codes "input") ≡ false) ds
names-apart o q [] is a = tt
names-apart o q (p ∷ ds) is a = (subst (λ n. bytes_eq p.name n ≡ false) is a.0.1.0, names-apart o q ds is a.1)

-- a RecordDisassembler has an output for each field
disassembler-outputs : (net : Net) (k : ℕ) (e : NetEntity) → HasClassPorts net k e → (params : Params) (f : Function) → e.class ≡ codes "RecordDisassembler" → params.ports ≡ ports_of net.channels.items k (entity_view e) → function.start_as kinds.RecordDisassembler params.values params.ports ≡ Some f → count_by is_output e.ports.items ≡ length (function.rates f)
disassembler-outputs net k e has params f named ports-are started =
    let name = codes "RecordDisassembler" in
    let input = codes "input" in
    let kind : kind_of name ≡ Some (Actor has.class) = ap kind_of (sym named) ∙ has.kind in
    let declares : has.class.declares ≡ Some Output = sym (ap declares_in kind) ∙ disassembler-declares in
    let row = one-row has.class.ports (input, Input) (sym (ap heads_in kind) ∙ data_classes.heads-are kinds.RecordDisassembler) in
    let q = row.0 in
    let its : q.name ≡ input = ap (λ (h : List ℕ × Direction). h.0) row.2 in
    let all : (entity_view e).ports ≡ row_port q ∷ has.declared = has.ports ∙ ap (λ o. joined_ports o has.declared (map row_port has.class.ports)) declares ∙ ap (λ qs. map row_port qs ++ has.declared) row.1 in
    let fit = subst (λ qs. AllByRecursion (λ (p : PortTree). (has.class.declares ≡ Some p.direction) × AllByRecursion (λ (r : ClassPort). bytes_eq p.name r.name ≡ false) qs) has.declared) row.1 has.fit in
    let apart = names-apart has.class.declares q has.declared its fit in
    let by = outputs-by net k e has name named (data_classes.heads_of kinds.RecordDisassembler) (Some Output) (data_classes.heads-are kinds.RecordDisassembler) disassembler-declares in
    let dropped = name-dropped input net.channels.items k 0 (row_port q) has.declared ((bytes_eq-Decides q.name input).1 its) apart in
    let kept : length (names_but input params.ports) ≡ length has.declared = ap (λ ps. length (names_but input ps)) (ports-are ∙ ap (λ ps. map (counted_port net.channels.items k) (enumerate_from 0 ps)) all) ∙ dropped in
    let rated : length (function.rates f) ≡ length (names_but input params.ports) = ap (λ g. length (function.rates g)) (sym (same_Some (made.RecordDisassembler (names_but input params.ports)) f started)) ∙ length-replicate (length (names_but input params.ports)) 1 in
    omega (arith, by, kept, rated)

is-disassembler : (c : DataClass) → (c ≡ kinds.RecordDisassembler) ⊎ (c ≡ kinds.RecordDisassembler → ⊥)
is-disassembler kinds.ArrayElement = inr (λ e. cc)
is-disassembler kinds.ArrayToSequence = inr (λ e. cc)
is-disassembler kinds.Barrier = inr (λ e. cc)
is-disassembler kinds.Comparator = inr (λ e. cc)
is-disassembler kinds.Discard = inr (λ e. cc)
is-disassembler kinds.ElementsToArray = inr (λ e. cc)
is-disassembler kinds.Equals = inr (λ e. cc)
is-disassembler kinds.Limiter = inr (λ e. cc)
is-disassembler kinds.LogicFunction = inr (λ e. cc)
is-disassembler kinds.LogicalNot = inr (λ e. cc)
is-disassembler kinds.RecordAssembler = inr (λ e. cc)
is-disassembler kinds.RecordDisassembler = inl refl
is-disassembler kinds.SequenceToArray = inr (λ e. cc)
is-disassembler kinds.StringLength = inr (λ e. cc)

data-outputs : (net : Net) (k : ℕ) (e : NetEntity) → HasClassPorts net k e → (c : DataClass) (params : Params) (f : Function) → e.class ≡ functions.name_of c → params.ports ≡ ports_of net.channels.items k (entity_view e) → function.start_as c params.values params.ports ≡ Some f → count_by is_output e.ports.items ≡ length (function.rates f)
data-outputs net k e has c params f named ports-are started = elim (is-disassembler c) [
  | inl is ↦ disassembler-outputs net k e has params f (named ∙ ap functions.name_of is) ports-are (ap (λ d. function.start_as d params.values params.ports) (sym is) ∙ started)
  | inr other ↦ (
      let by = outputs-by net k e has (functions.name_of c) named (data_classes.heads_of c) (declares_in (kind_of (functions.name_of c))) (data_classes.heads-are c) refl in
      let none = data-declared c (length has.declared) other in
      let long = data-out c params.values params.ports f other started in
      omega (arith, by, none, long))
]

-- ---- actors

-- an actor whose rates don't vary has an output for each
pub actor-outputs : (net : Net) (k : ℕ) (e : NetEntity) → HasClassPorts net k e → (params : Params) (a : LibraryActor) (rs : List ℕ) → params.class ≡ e.class → params.ports ≡ ports_of net.channels.items k (entity_view e) → library.start params ≡ Some a → library.rates a ≡ Some rs → length rs ≡ count_by is_output e.ports.items
actor-outputs net k e has params a rs classed ports-are started rated = elim (one-of-four Flow Data Time Timed (flow_actor.start params) (data_actor.start params.class params.values params.ports) (time_actor.start params) (timed_actor.start params) a started) [
  | inl w ↦ (
      let c = flow-in (flow_actor.class_of params.class) params w.0 w.1 in
      sym (flow-outputs net k e has c.0 params w.0 rs (sym classed ∙ flows.class-named params.class c.0 c.1) c.2 (ap library.rates w.2 ∙ rated)))
  | inr (inl w) ↦ (
      let c = data-in (function.class_of params.class) params w.0 w.1 in
      let f = functions.with-needs params.ports (function.start_as c.0 params.values params.ports) w.0 c.2 in
      let all : function.rates w.0.function ≡ rs = same_Some (function.rates w.0.function) rs (ap library.rates w.2 ∙ rated) in
      let its = data-outputs net k e has c.0 params f.0 (sym classed ∙ functions.class-named params.class c.0 c.1) ports-are f.1 in
      sym (its ∙ ap (λ g. length (function.rates g)) (sym f.2) ∙ ap (λ (v : List ℕ). length v) all))
  | inr (inr (inl w)) ↦ absurd (none-some rs (ap library.rates w.2 ∙ rated))
  | inr (inr (inr w)) ↦ absurd (none-some rs (ap library.rates w.2 ∙ rated))
]
