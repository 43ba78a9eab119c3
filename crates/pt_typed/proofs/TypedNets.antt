-- A run of the tree of the net of a document with its typing.
use Rattle.std.proofs.Common.{◌≡◌, ℕ, Bool, true, false, ◌||◌, Some, bytes_eq, codes, refl, [], ap, subst, sym}
use Rattle.pt_net.specs.declared.net.Net.{Net}
use Rattle.pt_net.specs.declared.net.NetDirector.{NetDirector}
use Rattle.pt_net.specs.declared.net.NetEntity.{NetEntity}
use Rattle.pt_scopes.specs.declared.values.Values.{Values}
use Rattle.pt_scopes.specs.Scopes.{net_view, is_composite_class}
use Rattle.pt_scopes.specs.Valued.{IsValued}
use Rattle.pt_typing.specs.Least.{Assignment}
use Rattle.pt_inequalities.specs.Typing.{IsTyping}
use Rattle.pt_start.specs.Nested.{IsNested}
use Rattle.pt_start.specs.Started.{IsStart}
use Rattle.pt_formula.specs.Formula.{Formula}
use Rattle.pt_lib_flow.specs.declared.flow_actor.FlowActor.{FlowActor}
use Rattle.pt_lib_flow.specs.declared.flow_actor.FlowActor.TheVariants as flow
use Rattle.pt_lib_data.specs.declared.function.Function.{Function}
use Rattle.pt_lib_data.specs.declared.function.Function.TheVariants as made
use Rattle.pt_lib_time.specs.declared.time_actor.TimeActor.{TimeActor}
use Rattle.pt_lib_time.specs.declared.time_actor.TimeActor.TheVariants as time
use Rattle.pt_lib_timed.specs.declared.timed_actor.TimedActor.{TimedActor}
use Rattle.pt_lib_timed.specs.declared.timed_actor.TimedActor.TheVariants as timed
use Rattle.pt_library.specs.declared.library_actor.LibraryActor.{LibraryActor}
use Rattle.pt_library.specs.declared.library_actor.LibraryActor.TheVariants.{Flow, Data, Time, Timed}
use Rattle.pt_trees.specs.Trees.{IsEntity, Starts}
use Rattle.pt_trees.specs.Top.{supply_of}
use Rattle.pt_cover.proofs.Reading.{documents-leaves}
use Rattle.pt_cover.proofs.Nesting.{net-nested}
use Rattle.pt_cover.specs.Leaves.{AreStartedByClass}
use Rattle.pt_cover.proofs.Starting.{by-class}
use Rattle.pt_order.proofs.TreeCover.{directed-composite}
use Rattle.pt_order.proofs.NetsInOrder.{nets-in-order}
use Rattle.pt_typed.specs.TypedActor.{MeetsRow}
use Rattle.pt_typed.specs.NetTypes.{types_below}
use Rattle.pt_typed.specs.NetRows.{HaveClassPorts, is_plain_flow, is_plain_function, is_plain_time, is_plain_timed, is_plain_actor, is_seeded_flow, is_seeded_time, is_seeded_timed, is_seeded_actor, is_record_function, is_record_actor}
use Rattle.pt_typed.specs.OwnNames.{HavePortNames, HaveClassParameters}
use Rattle.pt_typed.specs.TypedNet.{MeetRows}
use Rattle.pt_typed.specs.RowLaw.{types_of_ports, AreStartedIn, TypedNetsKeepTypes}
use Rattle.pt_typed.proofs.PortFacts.{channels-go-up}
use Rattle.pt_typed.proofs.RecordsMet.{record-rows-met}
use Rattle.pt_typed.proofs.RowsMet.{plain-rows-met}
use Rattle.pt_typed.proofs.InputLaws.{inputs-typed}
use Rattle.pt_typed.proofs.SeededRows.{seeded-rows-met}
use Rattle.pt_typed.proofs.ExpressionRows.{expression-rows-met}
use Rattle.pt_typed.proofs.DocumentNames.{documents-named}
use Rattle.pt_typed.proofs.ModalsMet.{modals-met}
use Rattle.pt_typed.proofs.ModalNames.{asked-freely, documents-free}
use Rattle.pt_typed.proofs.JobLaws.{nets-keep-types}

-- ---- the actors that are left are Expressions

flow-left : (a : FlowActor) → is_plain_flow a ≡ false → is_seeded_flow a ≡ false → (f : Formula) × (a ≡ flow.Expression f)
flow-left (flow.Expression f) p q = (f, refl)
flow-left (flow.AbsoluteValue a) p q = absurd (cc)
flow-left (flow.Accumulator a) p q = absurd (cc)
flow-left (flow.AddSubtract a) p q = absurd (cc)
flow-left (flow.BooleanSelect a) p q = absurd (cc)
flow-left (flow.BooleanSwitch a) p q = absurd (cc)
flow-left (flow.Const a) p q = absurd (cc)
flow-left (flow.Counter a) p q = absurd (cc)
flow-left (flow.DownSample a) p q = absurd (cc)
flow-left (flow.Extreme a) p q = absurd (cc)
flow-left (flow.MultiplyDivide a) p q = absurd (cc)
flow-left (flow.Ramp a) p q = absurd (cc)
flow-left (flow.Repeat a) p q = absurd (cc)
flow-left (flow.SampleDelay a) p q = absurd (cc)
flow-left (flow.Scale a) p q = absurd (cc)
flow-left (flow.Sequence a) p q = absurd (cc)
flow-left (flow.UpSample a) p q = absurd (cc)

no-function-left : (g : Function) → is_plain_function g ≡ false → is_record_function g ≡ false → ⊥
no-function-left (made.ArrayElement x) p r = cc
no-function-left (made.ArrayToSequence x) p r = cc
no-function-left made.Barrier p r = cc
no-function-left (made.Comparator x) p r = cc
no-function-left made.Discard p r = cc
no-function-left made.ElementsToArray p r = cc
no-function-left made.Equals p r = cc
no-function-left (made.Limiter x) p r = cc
no-function-left (made.LogicFunction x) p r = cc
no-function-left made.LogicalNot p r = cc
no-function-left (made.RecordAssembler x) p r = cc
no-function-left (made.RecordDisassembler x) p r = cc
no-function-left (made.SequenceToArray x) p r = cc
no-function-left made.StringLength p r = cc

no-time-left : (a : TimeActor) → is_plain_time a ≡ false → is_seeded_time a ≡ false → ⊥
no-time-left (time.Absent x) p s = cc
no-time-left (time.Current x) p s = cc
no-time-left (time.Default x) p s = cc
no-time-left (time.Merge x) p s = cc
no-time-left (time.NonStrictDelay x) p s = cc
no-time-left (time.NonStrictLogicGate x) p s = cc
no-time-left (time.NonStrictMux x) p s = cc
no-time-left (time.Pre x) p s = cc
no-time-left (time.When x) p s = cc

no-timed-left : (a : TimedActor) → is_plain_timed a ≡ false → is_seeded_timed a ≡ false → ⊥
no-timed-left (timed.CurrentTime x) p s = cc
no-timed-left (timed.DiscreteClock x) p s = cc
no-timed-left (timed.Register x) p s = cc
no-timed-left (timed.Sampler x) p s = cc
no-timed-left (timed.Server x) p s = cc
no-timed-left (timed.SingleEvent x) p s = cc
no-timed-left (timed.TimeDelay x) p s = cc

actor-left : (a : LibraryActor) → is_plain_actor a ≡ false → is_seeded_actor a ≡ false → is_record_actor a ≡ false → (f : Formula) × (a ≡ Flow (flow.Expression f))
actor-left (Flow a) p q r = let w = flow-left a p q in (w.0, λ i. Flow (w.1 i))
actor-left (Data a) p q r = absurd (no-function-left a.function p r)
actor-left (Time a) p q r = absurd (no-time-left a p q)
actor-left (Timed a) p q r = absurd (no-timed-left a p q)

-- ---- all rows

module _ (net : Net) (values : Values) (typing : Assignment) (starts : Starts) (have : HaveClassPorts net) (names : HavePortNames net) (parameters : HaveClassParameters (net_view net)) (nested : IsNested (net_view net)) (valued : IsValued (net_view net) values) (typed : IsTyping net values typing) (started : AreStartedIn net values typing starts) where
  pub meet-rows : MeetRows net typing starts
  meet-rows k a is = by_tests (is_plain_actor a) refl (is_seeded_actor a) refl (is_record_actor a) refl
    where
      by_tests : (b : Bool) → is_plain_actor a ≡ b → (s : Bool) → is_seeded_actor a ≡ s → (r : Bool) → is_record_actor a ≡ r → MeetsRow (types_below net typing k []) a
      by_tests true p s q r t = let w = started k a is in plain-rows-met net values typing k w.0 a w.1 w.2 (have k w.0 w.1 w.2) typed w.3 p
      by_tests false p true q r t = let w = started k a is in seeded-rows-met net values typing k w.0 a w.1 w.2 (have k w.0 w.1 w.2) valued typed w.3 q
      by_tests false p false q true t = let w = started k a is in record-rows-met net values typing k w.0 a w.1 w.2 (have k w.0 w.1 w.2) typed w.3 t
      by_tests false p false q false t =
          let w = started k a is in
          let f = actor-left a p q t in
          subst (MeetsRow (types_below net typing k [])) (sym f.1)
          (expression-rows-met net values typing k w.0 f.0 w.1 (have k w.0 w.1 w.2) (names k w.0 w.1) valued nested parameters typed (subst (λ b. IsStart net values (types_of_ports typing) k (Some b)) f.1 w.3))

-- what is started so is started by parameters of its class
by-class-started : (net : Net) (values : Values) (typing : Assignment) (starts : Starts) → AreStartedIn net values typing starts → AreStartedByClass net starts
by-class-started net values typing starts started k e a at is = let w = started k a is in by-class net values (types_of_ports typing) k e a at w.3

pub typed-nets-keep-types : TypedNetsKeepTypes
typed-nets-keep-types net values typing starts e d top j doc valued typed sound started machines is at directed supplied whole m k =
    let named = documents-named doc.bytes doc.job net doc.read doc.made in
    let leaves = documents-leaves doc.bytes doc.job doc.read in
    let nested = net-nested doc.job net leaves doc.made in
    let by_class = by-class-started net values typing starts started in
    let order = nets-in-order net starts e d top doc by_class is at directed in
    let class = ap (λ b. b || bytes_eq e.class (codes "Modal")) (directed-composite doc.job net starts top leaves doc.made by_class is 0 e d at directed).composite in
    let classes : (n : ℕ) (f : NetEntity) (g : NetDirector) → IsEntity net n f → f.director ≡ Some g → is_composite_class f.class ≡ true = λ n f g there has. ap (λ b. b || bytes_eq f.class (codes "Modal")) (directed-composite doc.job net starts top leaves doc.made by_class is n f g there has).composite in
    let modals = modals-met net values typing starts order.wired named.1 (asked-freely net values valued nested named.0 (documents-free doc.bytes doc.job net doc.read doc.made)) nested valued typed sound classes machines in
    nets-keep-types net typing starts top order.wired (channels-go-up net values typing typed) (meet-rows net values typing starts order.class_ports named.1 named.0 nested valued typed started) modals is j whole
    (inputs-typed net values typing e (supply_of j) at class (named.1 0 e at) typed supplied) m k
