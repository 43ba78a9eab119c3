-- A class of one library is none of another: their names differ.
use Rattle.std.proofs.Common.{◌≡◌, ℕ, List, Bool, true, false, refl, sym, subst, if◌then◌else◌}
use Rattle.std.specs.Prelude.{Option, Some, None, IsSome, codes}
use Rattle.std.specs.Str.{bytes_eq}
use Rattle.std.proofs.lemmas.Bool.{false≢true}
use Rattle.std.proofs.lemmas.Slice.Eq.{bytes_eq-Decides}
use Rattle.pt_lib_data.specs.declared.function.Class.TheVariants as kinds
use Rattle.pt_lib_data.specs.Function as function
use Rattle.pt_lib_flow.specs.declared.flow_actor.Class.TheVariants as class
use Rattle.pt_lib_flow.specs.FlowActor as flow_actor
use Rattle.pt_lib_time.specs.declared.time_actor.Class.TheVariants as instants
use Rattle.pt_lib_time.specs.TimeActor as time_actor
use Rattle.pt_lib_timed.specs.TimedActor as timed_actor
use Rattle.pt_library.specs.Laws.{ClassesAreOfOneLibrary}

-- a name is that of this class, of which it holds, or else that of a later one
or-later : {C : Type 0} (P : List ℕ → Type 0) (name this : List ℕ) (c : C) (later : Option C) → (IsSome later → P name) → P this → IsSome (if bytes_eq name this then Some c else later) → P name
or-later P name this c later more holds is = by_test (bytes_eq name this) refl is
  where
    by_test : (b : Bool) → bytes_eq name this ≡ b → IsSome (if b then Some c else later) → P name
    by_test true e is = subst P (sym ((bytes_eq-Decides name this).0 e)) holds
    by_test false e is = more is

-- no class of this name is one of data, of time, or of timed actors
abbrev IsNoData : List ℕ → Type 0
IsNoData name = function.class_of name ≡ None

abbrev IsNoTime : List ℕ → Type 0
IsNoTime name = time_actor.class_of name ≡ None

abbrev IsNoTimed : List ℕ → Type 0
IsNoTimed name = timed_actor.class_of name ≡ None

-- nor is one of a later library
abbrev IsNotLater : List ℕ → Type 0
IsNotLater name = IsNoTime name × IsNoTimed name

abbrev IsNoOther : List ℕ → Type 0
IsNoOther name = IsNoData name × IsNotLater name

flow-alone : (name : List ℕ) → IsSome (flow_actor.class_of name) → IsNoOther name
flow-alone name is =
    (or-later IsNoOther name (codes "AbsoluteValue") class.AbsoluteValue _ (or-later IsNoOther name (codes "Accumulator") class.Accumulator _ (or-later IsNoOther name (codes "AddSubtract") class.AddSubtract _ (or-later IsNoOther name (codes "BooleanSelect") class.BooleanSelect _ (or-later IsNoOther name (codes "BooleanSwitch") class.BooleanSwitch _ (or-later IsNoOther name (codes "Const") class.Const _ (or-later IsNoOther name (codes "Counter") class.Counter _ (or-later IsNoOther name (codes "DownSample") class.DownSample _ (or-later IsNoOther name (codes "Expression") class.Expression _ (or-later IsNoOther name (codes "Maximum") class.Maximum _ (or-later IsNoOther name (codes "Minimum") class.Minimum _ (or-later IsNoOther name (codes "MultiplyDivide") class.MultiplyDivide _ (or-later IsNoOther name (codes "Ramp") class.Ramp _ (or-later IsNoOther name (codes "Repeat") class.Repeat _ (or-later IsNoOther name (codes "SampleDelay") class.SampleDelay _ (or-later IsNoOther name (codes "Scale") class.Scale _ (or-later IsNoOther name (codes "Sequence") class.Sequence _ (or-later IsNoOther name (codes "UpSample") class.UpSample None (λ none. absurd (false≢true none)) (refl, (refl, refl))) (refl, (refl, refl))) (refl, (refl, refl))) (refl, (refl, refl))) (refl, (refl, refl))) (refl, (refl, refl))) (refl, (refl, refl))) (refl, (refl, refl))) (refl, (refl, refl))) (refl, (refl, refl))) (refl, (refl, refl))) (refl, (refl, refl))) (refl, (refl, refl))) (refl, (refl, refl))) (refl, (refl, refl))) (refl, (refl, refl))) (refl, (refl, refl))) (refl, (refl, refl))) is

data-alone : (name : List ℕ) → IsSome (function.class_of name) → IsNotLater name
data-alone name is =
    (or-later IsNotLater name (codes "ArrayElement") kinds.ArrayElement _ (or-later IsNotLater name (codes "ArrayToSequence") kinds.ArrayToSequence _ (or-later IsNotLater name (codes "Barrier") kinds.Barrier _ (or-later IsNotLater name (codes "Comparator") kinds.Comparator _ (or-later IsNotLater name (codes "Discard") kinds.Discard _ (or-later IsNotLater name (codes "ElementsToArray") kinds.ElementsToArray _ (or-later IsNotLater name (codes "Equals") kinds.Equals _ (or-later IsNotLater name (codes "Limiter") kinds.Limiter _ (or-later IsNotLater name (codes "LogicFunction") kinds.LogicFunction _ (or-later IsNotLater name (codes "LogicalNot") kinds.LogicalNot _ (or-later IsNotLater name (codes "RecordAssembler") kinds.RecordAssembler _ (or-later IsNotLater name (codes "RecordDisassembler") kinds.RecordDisassembler _ (or-later IsNotLater name (codes "SequenceToArray") kinds.SequenceToArray _ (or-later IsNotLater name (codes "StringLength") kinds.StringLength None (λ none. absurd (false≢true none)) (refl, refl)) (refl, refl)) (refl, refl)) (refl, refl)) (refl, refl)) (refl, refl)) (refl, refl)) (refl, refl)) (refl, refl)) (refl, refl)) (refl, refl)) (refl, refl)) (refl, refl)) (refl, refl)) is

time-alone : (name : List ℕ) → IsSome (time_actor.class_of name) → IsNoTimed name
time-alone name is =
    (or-later IsNoTimed name (codes "Absent") instants.Absent _ (or-later IsNoTimed name (codes "Current") instants.Current _ (or-later IsNoTimed name (codes "Default") instants.Default _ (or-later IsNoTimed name (codes "Merge") instants.Merge _ (or-later IsNoTimed name (codes "NonStrictDelay") instants.NonStrictDelay _ (or-later IsNoTimed name (codes "NonStrictLogicGate") instants.NonStrictLogicGate _ (or-later IsNoTimed name (codes "NonStrictMux") instants.NonStrictMux _ (or-later IsNoTimed name (codes "Pre") instants.Pre _ (or-later IsNoTimed name (codes "When") instants.When None (λ none. absurd (false≢true none)) refl) refl) refl) refl) refl) refl) refl) refl) refl) is

pub one-library : ClassesAreOfOneLibrary
one-library name = record {
  flow_or_data = λ is. (flow-alone name is).0;
  flow_or_time = λ is. (flow-alone name is).1.0;
  flow_or_timed = λ is. (flow-alone name is).1.1;
  data_or_time = λ is. (data-alone name is).0;
  data_or_timed = λ is. (data-alone name is).1;
  time_or_timed = time-alone name;
}
