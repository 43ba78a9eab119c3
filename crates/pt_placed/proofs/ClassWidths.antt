-- The places that an actor of a class has by its ports' names are those of its inputs, for the classes that declare no ports.
use Rattle.std.proofs.Common.{◌≡◌, ℕ, ◌+◌, List, [], ◌∷◌, map, Bool, true, false, None, refl, arith}
use Rattle.std.specs.Prelude.{codes}
use Rattle.std.proofs.lemmas.Bool.{true≢false, false≢true}
use Rattle.pt_document.specs.declared.job.Direction.{Direction}
use Rattle.pt_document.specs.Classes.{kind_of, class_row, classes}
use Rattle.pt_firing.specs.Params.{channels_to}
use Rattle.pt_lib_flow.specs.declared.flow_actor.Class.{Class as FlowClass}
use Rattle.pt_lib_flow.specs.declared.flow_actor.Class.TheVariants as class
use Rattle.pt_lib_data.specs.declared.function.Class.{Class as DataClass}
use Rattle.pt_lib_data.specs.declared.function.Class.TheVariants as kinds
use Rattle.pt_lib_time.specs.declared.time_actor.Class.{Class as TimeClass}
use Rattle.pt_lib_time.specs.declared.time_actor.Class.TheVariants as signals
use Rattle.pt_lib_timed.specs.declared.timed_actor.Class.{Class as TimedClass}
use Rattle.pt_lib_timed.specs.declared.timed_actor.Class.TheVariants as instants
use Rattle.pt_typed.proofs.FlowStarts as flows
use Rattle.pt_typed.proofs.FlowClasses as flow_classes
use Rattle.pt_typed.proofs.DataClasses as data_classes
use Rattle.pt_typed.proofs.TimeClasses as time_classes
use Rattle.pt_typed.proofs.TimedClasses as timed_classes
use Rattle.pt_typed.proofs.ClassPorts.{declares_in, SinglesFrom}
use Rattle.pt_placed.proofs.FlowNeeds.{flow_places}
use Rattle.pt_placed.proofs.DataNeeds.{data_places}
use Rattle.pt_placed.proofs.TimeNeeds.{time_places}
use Rattle.pt_placed.proofs.TimedNeeds.{timed_places}
use Rattle.pt_placed.proofs.Widths.{width, counted_from}

-- the directions of the ports of a class
abbrev pub ways : List (List ℕ × Direction) → List Direction
ways hs = map (λ (h : List ℕ × Direction). h.1) hs

-- ---- sums

one : (n : ℕ) → n ≡ 1 → 1 ≡ n + 0
one n e = omega (arith, e)

two : (n m : ℕ) → n ≡ 1 → m ≡ 1 → 2 ≡ n + (m + 0)
two n m e d = omega (arith, e, d)

three : (n m o : ℕ) → n ≡ 1 → m ≡ 1 → o ≡ 1 → 3 ≡ n + (m + (o + 0))
three n m o e d c = omega (arith, e, d, c)

free : (n : ℕ) → n ≡ n + 0
free n = omega arith

both : (n m : ℕ) → n + m ≡ n + (m + 0)
both n m = omega arith

behind : (n m : ℕ) → n ≡ 1 → m + 1 ≡ n + (m + 0)
behind n m e = omega (arith, e)

-- ---- flow actors

abbrev pub is_expression : FlowClass → Bool
is_expression class.AbsoluteValue = false
is_expression class.Accumulator = false
is_expression class.AddSubtract = false
is_expression class.BooleanSelect = false
is_expression class.BooleanSwitch = false
is_expression class.Const = false
is_expression class.Counter = false
is_expression class.DownSample = false
is_expression class.Expression = true
is_expression class.Maximum = false
is_expression class.Minimum = false
is_expression class.MultiplyDivide = false
is_expression class.Ramp = false
is_expression class.Repeat = false
is_expression class.SampleDelay = false
is_expression class.Scale = false
is_expression class.Sequence = false
is_expression class.UpSample = false

pub expression-class : (P : FlowClass → Type 0) (c : FlowClass) → P class.Expression → is_expression c ≡ true → P c
expression-class P class.AbsoluteValue h e = absurd (false≢true e)
expression-class P class.Accumulator h e = absurd (false≢true e)
expression-class P class.AddSubtract h e = absurd (false≢true e)
expression-class P class.BooleanSelect h e = absurd (false≢true e)
expression-class P class.BooleanSwitch h e = absurd (false≢true e)
expression-class P class.Const h e = absurd (false≢true e)
expression-class P class.Counter h e = absurd (false≢true e)
expression-class P class.DownSample h e = absurd (false≢true e)
expression-class P class.Expression h e = h
expression-class P class.Maximum h e = absurd (false≢true e)
expression-class P class.Minimum h e = absurd (false≢true e)
expression-class P class.MultiplyDivide h e = absurd (false≢true e)
expression-class P class.Ramp h e = absurd (false≢true e)
expression-class P class.Repeat h e = absurd (false≢true e)
expression-class P class.SampleDelay h e = absurd (false≢true e)
expression-class P class.Scale h e = absurd (false≢true e)
expression-class P class.Sequence h e = absurd (false≢true e)
expression-class P class.UpSample h e = absurd (false≢true e)

pub flow-declares : (c : FlowClass) → is_expression c ≡ false → declares_in (kind_of (flows.name_of c)) ≡ None
unfolding kind_of class_row classes
flow-declares class.AbsoluteValue e = refl
flow-declares class.Accumulator e = refl
flow-declares class.AddSubtract e = refl
flow-declares class.BooleanSelect e = refl
flow-declares class.BooleanSwitch e = refl
flow-declares class.Const e = refl
flow-declares class.Counter e = refl
flow-declares class.DownSample e = refl
flow-declares class.Expression e = absurd (true≢false e)
flow-declares class.Maximum e = refl
flow-declares class.Minimum e = refl
flow-declares class.MultiplyDivide e = refl
flow-declares class.Ramp e = refl
flow-declares class.Repeat e = refl
flow-declares class.SampleDelay e = refl
flow-declares class.Scale e = refl
flow-declares class.Sequence e = refl
flow-declares class.UpSample e = refl

pub flow-width : (c : FlowClass) (counts : ℕ → ℕ) → is_expression c ≡ false → SinglesFrom counts 0 (flow_classes.marks_of c) → flow_places c (counted_from counts 0 (flow_classes.heads_of c)) ≡ width counts 0 (ways (flow_classes.heads_of c))
unfolding channels_to
flow-width class.AbsoluteValue counts e s = one (counts 0) s.0
flow-width class.Accumulator counts e s = behind (counts 0) (counts 1) s.0
flow-width class.AddSubtract counts e s = both (counts 0) (counts 1)
flow-width class.BooleanSelect counts e s = three (counts 0) (counts 1) (counts 2) s.0 s.1.0 s.1.1.0
flow-width class.BooleanSwitch counts e s = two (counts 0) (counts 1) s.0 s.1.0
flow-width class.Const counts e s = free (counts 0)
flow-width class.Counter counts e s = both (counts 0) (counts 1)
flow-width class.DownSample counts e s = one (counts 0) s.0
flow-width class.Expression counts e s = absurd (true≢false e)
flow-width class.Maximum counts e s = free (counts 0)
flow-width class.Minimum counts e s = free (counts 0)
flow-width class.MultiplyDivide counts e s = both (counts 0) (counts 1)
flow-width class.Ramp counts e s = free (counts 0)
flow-width class.Repeat counts e s = one (counts 0) s.0
flow-width class.SampleDelay counts e s = one (counts 0) s.0
flow-width class.Scale counts e s = one (counts 0) s.0
flow-width class.Sequence counts e s = free (counts 0)
flow-width class.UpSample counts e s = one (counts 0) s.0

-- ---- data actors

pub record-class : (P : DataClass → Type 0) (c : DataClass) → P kinds.RecordAssembler → P kinds.RecordDisassembler → data_classes.is_plain c ≡ false → P c
record-class P kinds.ArrayElement h g e = absurd (true≢false e)
record-class P kinds.ArrayToSequence h g e = absurd (true≢false e)
record-class P kinds.Barrier h g e = absurd (true≢false e)
record-class P kinds.Comparator h g e = absurd (true≢false e)
record-class P kinds.Discard h g e = absurd (true≢false e)
record-class P kinds.ElementsToArray h g e = absurd (true≢false e)
record-class P kinds.Equals h g e = absurd (true≢false e)
record-class P kinds.Limiter h g e = absurd (true≢false e)
record-class P kinds.LogicFunction h g e = absurd (true≢false e)
record-class P kinds.LogicalNot h g e = absurd (true≢false e)
record-class P kinds.RecordAssembler h g e = h
record-class P kinds.RecordDisassembler h g e = g
record-class P kinds.SequenceToArray h g e = absurd (true≢false e)
record-class P kinds.StringLength h g e = absurd (true≢false e)

pub data-width : (c : DataClass) (counts : ℕ → ℕ) → data_classes.is_plain c ≡ true → SinglesFrom counts 0 (data_classes.marks_of c) → data_places c (counted_from counts 0 (data_classes.heads_of c)) ≡ width counts 0 (ways (data_classes.heads_of c))
unfolding channels_to
data-width kinds.ArrayElement counts e s = one (counts 0) s.0
data-width kinds.ArrayToSequence counts e s = one (counts 0) s.0
data-width kinds.Barrier counts e s = free (counts 0)
data-width kinds.Comparator counts e s = two (counts 0) (counts 1) s.0 s.1.0
data-width kinds.Discard counts e s = free (counts 0)
data-width kinds.ElementsToArray counts e s = free (counts 0)
data-width kinds.Equals counts e s = free (counts 0)
data-width kinds.Limiter counts e s = one (counts 0) s.0
data-width kinds.LogicFunction counts e s = free (counts 0)
data-width kinds.LogicalNot counts e s = one (counts 0) s.0
data-width kinds.RecordAssembler counts e s = absurd (false≢true e)
data-width kinds.RecordDisassembler counts e s = absurd (false≢true e)
data-width kinds.SequenceToArray counts e s = one (counts 0) s.0
data-width kinds.StringLength counts e s = one (counts 0) s.0

-- ---- actors of synchronous models, and of timed ones

pub time-width : (c : TimeClass) (counts : ℕ → ℕ) → SinglesFrom counts 0 (time_classes.marks_of c) → time_places c (counted_from counts 0 (time_classes.heads_of c)) ≡ width counts 0 (ways (time_classes.heads_of c))
unfolding channels_to
time-width signals.Absent counts s = refl
time-width signals.Current counts s = one (counts 0) s.0
time-width signals.Default counts s = two (counts 0) (counts 1) s.0 s.1.0
time-width signals.Merge counts s = free (counts 0)
time-width signals.NonStrictDelay counts s = one (counts 0) s.0
time-width signals.NonStrictLogicGate counts s = free (counts 0)
time-width signals.NonStrictMux counts s = behind (counts 0) (counts 1) s.0
time-width signals.Pre counts s = one (counts 0) s.0
time-width signals.When counts s = two (counts 0) (counts 1) s.0 s.1.0

pub timed-width : (c : TimedClass) (counts : ℕ → ℕ) → SinglesFrom counts 0 (timed_classes.marks_of c) → timed_places c ≡ width counts 0 (ways (timed_classes.heads_of c))
timed-width instants.CurrentTime counts s = one (counts 0) s.0
timed-width instants.DiscreteClock counts s = refl
timed-width instants.Register counts s = two (counts 0) (counts 1) s.0 s.1.0
timed-width instants.Sampler counts s = two (counts 0) (counts 1) s.0 s.1.0
timed-width instants.Server counts s = one (counts 0) s.0
timed-width instants.SingleEvent counts s = refl
timed-width instants.TimeDelay counts s = one (counts 0) s.0
