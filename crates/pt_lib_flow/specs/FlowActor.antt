-- The library of flow actors: each class by its own definition.
use Rattle.std.specs.Prelude.{ℕ, List, [], ◌∷◌, length, Bool, Option, Some, None, true, false, codes, bytes_eq, option_map, if◌then◌else◌}
use Rattle.pt_meaning.specs.Basics.{Tag, Streams}
use Rattle.pt_meaning.specs.Machine.{Need, Partial}
use Rattle.pt_meaning.specs.Node.{Answer, Gives, Fails, Rows, is_zero}
use Rattle.pt_value.specs.declared.token.Token.{Token}
use Rattle.pt_firing.specs.Strict.{strict}
use Rattle.pt_lib_flow.specs.declared.flow_actor.FlowActor.{FlowActor}
use Rattle.pt_lib_flow.specs.declared.flow_actor.FlowActor.TheVariants.{AbsoluteValue, Accumulator, AddSubtract, BooleanSelect, BooleanSwitch, Const, Counter, DownSample, Expression, Extreme, MultiplyDivide, Ramp, Repeat, SampleDelay, Scale, Sequence, UpSample}
use Rattle.pt_lib_flow.specs.declared.flow_actor.Class.{Class}
use Rattle.pt_lib_flow.specs.declared.flow_actor.Class.TheVariants as class
use Rattle.pt_flow_numbers.specs.declared.extreme.Side.TheVariants.{Greatest, Least}
use Rattle.pt_flow_base.specs.declared.params.Params.{Params}
use Rattle.pt_flow_base.specs.Limit.{is_endless}
use Rattle.pt_flow_numbers.specs.AbsoluteValue as absolute_value
use Rattle.pt_flow_numbers.specs.Accumulator as accumulator
use Rattle.pt_flow_numbers.specs.AddSubtract as add_subtract
use Rattle.pt_flow_streams.specs.BooleanSelect as boolean_select
use Rattle.pt_flow_streams.specs.BooleanSwitch as boolean_switch
use Rattle.pt_flow_streams.specs.Const as constant
use Rattle.pt_flow_numbers.specs.Counter as counter
use Rattle.pt_flow_streams.specs.DownSample as down_sample
use Rattle.pt_lib_flow.specs.Expression as expression
use Rattle.pt_flow_numbers.specs.Extreme as extreme
use Rattle.pt_flow_numbers.specs.MultiplyDivide as multiply_divide
use Rattle.pt_flow_numbers.specs.Ramp as ramp
use Rattle.pt_flow_streams.specs.Repeat as repeat
use Rattle.pt_flow_streams.specs.SampleDelay as sample_delay
use Rattle.pt_flow_numbers.specs.Scale as scale
use Rattle.pt_flow_streams.specs.Sequence as sequence
use Rattle.pt_flow_streams.specs.UpSample as up_sample

-- the answer of an actor that is held as a variant
abbrev pub held_as : {S A : Type 0} → (S → A) → Answer Token S → Answer Token A
held_as held (Gives after out) = Gives (held after) out
held_as held (Fails code) = Fails code

-- the number of its input places
abbrev pub places : FlowActor → ℕ
places (AbsoluteValue actor) = actor.places
places (Accumulator actor) = actor.places
places (AddSubtract actor) = actor.places
places (BooleanSelect actor) = 3
places (BooleanSwitch actor) = actor.places
places (Const actor) = actor.places
places (Counter actor) = actor.places
places (DownSample actor) = 1
places (Expression actor) = length actor.inputs
places (Extreme actor) = actor.places
places (MultiplyDivide actor) = actor.places
places (Ramp actor) = actor.places
places (Repeat actor) = 1
places (SampleDelay actor) = actor.places
places (Scale actor) = actor.places
places (Sequence actor) = actor.places
places (UpSample actor) = actor.places

-- the number of its outputs
abbrev pub outputs : FlowActor → ℕ
outputs (AbsoluteValue actor) = 1
outputs (Accumulator actor) = 1
outputs (AddSubtract actor) = 1
outputs (BooleanSelect actor) = 1
outputs (BooleanSwitch actor) = 2
outputs (Const actor) = 1
outputs (Counter actor) = 1
outputs (DownSample actor) = 1
outputs (Expression actor) = 1
outputs (Extreme actor) = 1
outputs (MultiplyDivide actor) = 1
outputs (Ramp actor) = 1
outputs (Repeat actor) = 1
outputs (SampleDelay actor) = 1
outputs (Scale actor) = 1
outputs (Sequence actor) = 1
outputs (UpSample actor) = 1

-- How many tokens a firing gives on its one output, where each input has the tokens that it needs, of the types of its row. On the outputs of a BooleanSwitch, and on that of a BooleanSelect, the number varies.
abbrev pub rate : FlowActor → Option ℕ
rate (AbsoluteValue actor) = Some 1
rate (Accumulator actor) = Some 1
rate (AddSubtract actor) = Some 1
rate (BooleanSelect actor) = None
rate (BooleanSwitch actor) = None
rate (Const actor) = Some 1
rate (Counter actor) = Some 1
rate (DownSample actor) = Some 1
rate (Expression actor) = Some 1
rate (Extreme actor) = Some 1
rate (MultiplyDivide actor) = Some 1
rate (Ramp actor) = Some 1
rate (Repeat actor) = Some (repeat.rate actor)
rate (SampleDelay actor) = Some 1
rate (Scale actor) = Some 1
rate (Sequence actor) = Some 1
rate (UpSample actor) = Some (up_sample.rate actor)

-- the same for each output
abbrev pub rates : FlowActor → Option (List ℕ)
rates actor = option_map (λ n. n ∷ []) (rate actor)

-- It needs the same at each firing. A source that is over at some time, and a BooleanSelect, need something else then.
abbrev pub is_steady : FlowActor → Bool
is_steady (AbsoluteValue actor) = true
is_steady (Accumulator actor) = true
is_steady (AddSubtract actor) = true
is_steady (BooleanSelect actor) = false
is_steady (BooleanSwitch actor) = true
is_steady (Const actor) = is_endless actor.limit
is_steady (Counter actor) = true
is_steady (DownSample actor) = true
is_steady (Expression actor) = true
is_steady (Extreme actor) = true
is_steady (MultiplyDivide actor) = true
is_steady (Ramp actor) = is_endless actor.limit
is_steady (Repeat actor) = true
is_steady (SampleDelay actor) = true
is_steady (Scale actor) = true
is_steady (Sequence actor) = actor.cyclic
is_steady (UpSample actor) = true

-- its first tokens
abbrev pub first : FlowActor → List Token
first (AbsoluteValue actor) = []
first (Accumulator actor) = []
first (AddSubtract actor) = []
first (BooleanSelect actor) = []
first (BooleanSwitch actor) = []
first (Const actor) = []
first (Counter actor) = []
first (DownSample actor) = []
first (Expression actor) = []
first (Extreme actor) = []
first (MultiplyDivide actor) = []
first (Ramp actor) = []
first (Repeat actor) = []
first (SampleDelay actor) = sample_delay.first actor
first (Scale actor) = []
first (Sequence actor) = []
first (UpSample actor) = []

abbrev pub need : FlowActor → Need
need (AbsoluteValue actor) = absolute_value.need actor
need (Accumulator actor) = accumulator.need actor
need (AddSubtract actor) = add_subtract.need actor
need (BooleanSelect actor) = boolean_select.need actor
need (BooleanSwitch actor) = boolean_switch.need actor
need (Const actor) = constant.need actor
need (Counter actor) = counter.need actor
need (DownSample actor) = down_sample.need actor
need (Expression actor) = expression.need actor
need (Extreme actor) = extreme.need actor
need (MultiplyDivide actor) = multiply_divide.need actor
need (Ramp actor) = ramp.need actor
need (Repeat actor) = repeat.need actor
need (SampleDelay actor) = sample_delay.need actor
need (Scale actor) = scale.need actor
need (Sequence actor) = sequence.need actor
need (UpSample actor) = up_sample.need actor

abbrev pub step : Tag → FlowActor → Streams Token → Answer Token FlowActor
step tag (AbsoluteValue actor) X = held_as AbsoluteValue (absolute_value.step tag actor X)
step tag (Accumulator actor) X = held_as Accumulator (accumulator.step tag actor X)
step tag (AddSubtract actor) X = held_as AddSubtract (add_subtract.step tag actor X)
step tag (BooleanSelect actor) X = held_as BooleanSelect (boolean_select.step tag actor X)
step tag (BooleanSwitch actor) X = held_as BooleanSwitch (boolean_switch.step tag actor X)
step tag (Const actor) X = held_as Const (constant.step tag actor X)
step tag (Counter actor) X = held_as Counter (counter.step tag actor X)
step tag (DownSample actor) X = held_as DownSample (down_sample.step tag actor X)
step tag (Expression actor) X = held_as Expression (expression.step tag actor X)
step tag (Extreme actor) X = held_as Extreme (extreme.step tag actor X)
step tag (MultiplyDivide actor) X = held_as MultiplyDivide (multiply_divide.step tag actor X)
step tag (Ramp actor) X = held_as Ramp (ramp.step tag actor X)
step tag (Repeat actor) X = held_as Repeat (repeat.step tag actor X)
step tag (SampleDelay actor) X = held_as SampleDelay (sample_delay.step tag actor X)
step tag (Scale actor) X = held_as Scale (scale.step tag actor X)
step tag (Sequence actor) X = held_as Sequence (sequence.step tag actor X)
step tag (UpSample actor) X = held_as UpSample (up_sample.step tag actor X)

-- its step takes no memory
abbrev pub IsSpare : FlowActor → Type 0
IsSpare (AbsoluteValue actor) = Unit {0}
IsSpare (Accumulator actor) = Unit {0}
IsSpare (AddSubtract actor) = Unit {0}
IsSpare (BooleanSelect actor) = ⊥
IsSpare (BooleanSwitch actor) = ⊥
IsSpare (Const actor) = constant.IsSpare actor
IsSpare (Counter actor) = Unit {0}
IsSpare (DownSample actor) = ⊥
IsSpare (Expression actor) = ⊥
IsSpare (Extreme actor) = Unit {0}
IsSpare (MultiplyDivide actor) = Unit {0}
IsSpare (Ramp actor) = Unit {0}
IsSpare (Repeat actor) = ⊥
IsSpare (SampleDelay actor) = ⊥
IsSpare (Scale actor) = Unit {0}
IsSpare (Sequence actor) = ⊥
IsSpare (UpSample actor) = ⊥

-- each of them is strict
abbrev pub early : Tag → FlowActor → List (Partial Token) → List (Partial Token)
early tag actor vs = strict (outputs actor) step tag actor vs

-- The rows of the library. None of these actors has wakes, or takes its lists whole.
abbrev pub rows : Rows Token FlowActor
rows = record {
  first = first;
  need = need;
  next = λ actor. None;
  react = step;
  early = early;
  whole = λ actor. false;
  begins = λ actor. is_zero (places actor);
}

-- the classes by name
abbrev pub class_of : List ℕ → Option Class
class_of name = if bytes_eq name (codes "AbsoluteValue") then Some class.AbsoluteValue else (if bytes_eq name (codes "Accumulator") then Some class.Accumulator else (if bytes_eq name (codes "AddSubtract") then Some class.AddSubtract else (if bytes_eq name (codes "BooleanSelect") then Some class.BooleanSelect else (if bytes_eq name (codes "BooleanSwitch") then Some class.BooleanSwitch else (if bytes_eq name (codes "Const") then Some class.Const else (if bytes_eq name (codes "Counter") then Some class.Counter else (if bytes_eq name (codes "DownSample") then Some class.DownSample else (if bytes_eq name (codes "Expression") then Some class.Expression else (if bytes_eq name (codes "Maximum") then Some class.Maximum else (if bytes_eq name (codes "Minimum") then Some class.Minimum else (if bytes_eq name (codes "MultiplyDivide") then Some class.MultiplyDivide else (if bytes_eq name (codes "Ramp") then Some class.Ramp else (if bytes_eq name (codes "Repeat") then Some class.Repeat else (if bytes_eq name (codes "SampleDelay") then Some class.SampleDelay else (if bytes_eq name (codes "Scale") then Some class.Scale else (if bytes_eq name (codes "Sequence") then Some class.Sequence else (if bytes_eq name (codes "UpSample") then Some class.UpSample else (None))))))))))))))))))

-- the actor of a class that the parameters start, if they are such as its row has them
abbrev pub start_as : Class → Params → Option FlowActor
start_as class.AbsoluteValue params = option_map AbsoluteValue (absolute_value.start params)
start_as class.Accumulator params = option_map Accumulator (accumulator.start params)
start_as class.AddSubtract params = option_map AddSubtract (add_subtract.start params)
start_as class.BooleanSelect params = option_map BooleanSelect (boolean_select.start params)
start_as class.BooleanSwitch params = option_map BooleanSwitch (boolean_switch.start params)
start_as class.Const params = option_map Const (constant.start params)
start_as class.Counter params = option_map Counter (counter.start params)
start_as class.DownSample params = option_map DownSample (down_sample.start params)
start_as class.Expression params = option_map Expression (expression.start params)
start_as class.Maximum params = option_map Extreme (extreme.start Greatest params)
start_as class.Minimum params = option_map Extreme (extreme.start Least params)
start_as class.MultiplyDivide params = option_map MultiplyDivide (multiply_divide.start params)
start_as class.Ramp params = option_map Ramp (ramp.start params)
start_as class.Repeat params = option_map Repeat (repeat.start params)
start_as class.SampleDelay params = option_map SampleDelay (sample_delay.start params)
start_as class.Scale params = option_map Scale (scale.start params)
start_as class.Sequence params = option_map Sequence (sequence.start params)
start_as class.UpSample params = option_map UpSample (up_sample.start params)

abbrev pub start_in : Option Class → Params → Option FlowActor
start_in None params = None
start_in (Some class) params = start_as class params

abbrev pub start : Params → Option FlowActor
start params = start_in (class_of params.class) params
