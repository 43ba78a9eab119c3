-- What the ports of a library actor of a net are, by its class, and which classes take what passes from their inputs alone.
use Rattle.std.specs.Prelude.{◌≡◌, List, length, Bool, true, false}
use Rattle.std.specs.List.{AllByRecursion}
use Rattle.pt_document.specs.Document.{PropertyTree}
use Rattle.pt_scopes.specs.declared.parameter_value.ParameterValue.{ParameterValue}
use Rattle.pt_scopes.specs.declared.parameter_value.ParameterValue.TheVariants as parameter
use Rattle.pt_lib_flow.specs.declared.flow_actor.FlowActor.{FlowActor}
use Rattle.pt_lib_flow.specs.declared.flow_actor.FlowActor.TheVariants.{AbsoluteValue, Accumulator, AddSubtract, BooleanSelect, BooleanSwitch, Const, Counter, DownSample, Expression, Extreme, MultiplyDivide, Ramp, Repeat, SampleDelay, Scale, Sequence, UpSample}
use Rattle.pt_lib_data.specs.declared.function.Function.{Function}
use Rattle.pt_lib_data.specs.declared.function.Function.TheVariants.{ArrayElement, ArrayToSequence, Barrier, Comparator, Discard, ElementsToArray, Equals, Limiter, LogicFunction, LogicalNot, RecordAssembler, RecordDisassembler, SequenceToArray, StringLength}
use Rattle.pt_lib_time.specs.declared.time_actor.TimeActor.{TimeActor}
use Rattle.pt_lib_time.specs.declared.time_actor.TimeActor.TheVariants.{Absent, Current, Default, Merge, NonStrictDelay, NonStrictLogicGate, NonStrictMux, Pre, When}
use Rattle.pt_lib_timed.specs.declared.timed_actor.TimedActor.{TimedActor}
use Rattle.pt_lib_timed.specs.declared.timed_actor.TimedActor.TheVariants.{CurrentTime, DiscreteClock, Register, Sampler, Server, SingleEvent, TimeDelay}
use Rattle.pt_library.specs.declared.library_actor.LibraryActor.{LibraryActor}
use Rattle.pt_library.specs.declared.library_actor.LibraryActor.TheVariants.{Flow, Data, Time, Timed}
pub use Rattle.pt_order.specs.ClassPorts.{ends_if, ends_from, channels_at, HasClassPorts, HaveClassPorts}

-- What it gives is made of its inputs, and of numbers and truth values: it gives no token of a parameter, and no field or value of an expression.
abbrev pub is_plain_flow : FlowActor → Bool
is_plain_flow (AbsoluteValue a) = true
is_plain_flow (Accumulator a) = true
is_plain_flow (AddSubtract a) = true
is_plain_flow (BooleanSelect a) = true
is_plain_flow (BooleanSwitch a) = true
is_plain_flow (Const a) = false
is_plain_flow (Counter a) = true
is_plain_flow (DownSample a) = true
is_plain_flow (Expression a) = false
is_plain_flow (Extreme a) = true
is_plain_flow (MultiplyDivide a) = true
is_plain_flow (Ramp a) = true
is_plain_flow (Repeat a) = true
is_plain_flow (SampleDelay a) = false
is_plain_flow (Scale a) = true
is_plain_flow (Sequence a) = false
is_plain_flow (UpSample a) = true

-- the same of what the data actors make of their inputs
abbrev pub is_plain_function : Function → Bool
is_plain_function (ArrayElement index) = true
is_plain_function (ArrayToSequence count) = true
is_plain_function Barrier = true
is_plain_function (Comparator relation) = true
is_plain_function Discard = true
is_plain_function ElementsToArray = true
is_plain_function Equals = true
is_plain_function (Limiter range) = true
is_plain_function (LogicFunction gate) = true
is_plain_function LogicalNot = true
is_plain_function (RecordAssembler names) = false
is_plain_function (RecordDisassembler names) = false
is_plain_function (SequenceToArray count) = true
is_plain_function StringLength = true

-- the same of the actors of synchronous models
abbrev pub is_plain_time : TimeActor → Bool
is_plain_time (Absent a) = true
is_plain_time (Current a) = true
is_plain_time (Default a) = true
is_plain_time (Merge a) = true
is_plain_time (NonStrictDelay a) = false
is_plain_time (NonStrictLogicGate a) = true
is_plain_time (NonStrictMux a) = true
is_plain_time (Pre a) = false
is_plain_time (When a) = true

-- the same of the actors of timed models
abbrev pub is_plain_timed : TimedActor → Bool
is_plain_timed (CurrentTime a) = true
is_plain_timed (DiscreteClock a) = false
is_plain_timed (Register a) = false
is_plain_timed (Sampler a) = false
is_plain_timed (Server a) = true
is_plain_timed (SingleEvent a) = false
is_plain_timed (TimeDelay a) = true

-- the same of the actors of all libraries
abbrev pub is_plain_actor : LibraryActor → Bool
is_plain_actor (Flow a) = is_plain_flow a
is_plain_actor (Data a) = is_plain_function a.function
is_plain_actor (Time a) = is_plain_time a
is_plain_actor (Timed a) = is_plain_timed a

-- It gives tokens of a parameter: the value of a Const, the values of a Sequence, the first tokens of a SampleDelay.
abbrev pub is_seeded_flow : FlowActor → Bool
is_seeded_flow (AbsoluteValue a) = false
is_seeded_flow (Accumulator a) = false
is_seeded_flow (AddSubtract a) = false
is_seeded_flow (BooleanSelect a) = false
is_seeded_flow (BooleanSwitch a) = false
is_seeded_flow (Const a) = true
is_seeded_flow (Counter a) = false
is_seeded_flow (DownSample a) = false
is_seeded_flow (Expression a) = false
is_seeded_flow (Extreme a) = false
is_seeded_flow (MultiplyDivide a) = false
is_seeded_flow (Ramp a) = false
is_seeded_flow (Repeat a) = false
is_seeded_flow (SampleDelay a) = true
is_seeded_flow (Scale a) = false
is_seeded_flow (Sequence a) = true
is_seeded_flow (UpSample a) = false

-- what a NonStrictDelay and a Pre keep at first is the token of a parameter
abbrev pub is_seeded_time : TimeActor → Bool
is_seeded_time (Absent a) = false
is_seeded_time (Current a) = false
is_seeded_time (Default a) = false
is_seeded_time (Merge a) = false
is_seeded_time (NonStrictDelay a) = true
is_seeded_time (NonStrictLogicGate a) = false
is_seeded_time (NonStrictMux a) = false
is_seeded_time (Pre a) = true
is_seeded_time (When a) = false

-- the values of a DiscreteClock, the value of a SingleEvent, and what a Sampler and a Register keep at first are tokens of a parameter
abbrev pub is_seeded_timed : TimedActor → Bool
is_seeded_timed (CurrentTime a) = false
is_seeded_timed (DiscreteClock a) = true
is_seeded_timed (Register a) = true
is_seeded_timed (Sampler a) = true
is_seeded_timed (Server a) = false
is_seeded_timed (SingleEvent a) = true
is_seeded_timed (TimeDelay a) = false

-- no data actor gives tokens of a parameter
abbrev pub is_seeded_actor : LibraryActor → Bool
is_seeded_actor (Flow a) = is_seeded_flow a
is_seeded_actor (Data a) = false
is_seeded_actor (Time a) = is_seeded_time a
is_seeded_actor (Timed a) = is_seeded_timed a

-- a parameter has a token, and is no tree and no word
abbrev pub IsTokenHeld : ParameterValue → Type 0
IsTokenHeld (parameter.Token t) = Unit {0}
IsTokenHeld (parameter.Tree e) = ⊥
IsTokenHeld parameter.Word = ⊥

-- each parameter has one
pub record HoldsTokens (ps : List PropertyTree) (vs : List ParameterValue) : Type 0 where
  pub counted : length vs ≡ length ps
  pub held : AllByRecursion IsTokenHeld vs

-- it makes records of its inputs, or takes them apart
abbrev pub is_record_function : Function → Bool
is_record_function (ArrayElement index) = false
is_record_function (ArrayToSequence count) = false
is_record_function Barrier = false
is_record_function (Comparator relation) = false
is_record_function Discard = false
is_record_function ElementsToArray = false
is_record_function Equals = false
is_record_function (Limiter range) = false
is_record_function (LogicFunction gate) = false
is_record_function LogicalNot = false
is_record_function (RecordAssembler names) = true
is_record_function (RecordDisassembler names) = true
is_record_function (SequenceToArray count) = false
is_record_function StringLength = false

-- data actors alone make or take apart records
abbrev pub is_record_actor : LibraryActor → Bool
is_record_actor (Flow a) = false
is_record_actor (Data a) = is_record_function a.function
is_record_actor (Time a) = false
is_record_actor (Timed a) = false
