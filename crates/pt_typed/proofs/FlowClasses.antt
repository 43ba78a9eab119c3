-- The classes of flow actors: what the typing of a net says of their ports is what they ask.
use Rattle.std.proofs.Common.{◌≡◌, ℕ, List, [], ◌∷◌, ◌++◌, map, replicate, Bool, true, false, None, refl}
use Rattle.std.specs.Prelude.{codes}
use Rattle.pt_document.specs.declared.job.Direction.{Direction}
use Rattle.pt_document.specs.declared.job.Direction.TheVariants.{Input, Output}
use Rattle.pt_document.specs.declared.classes.Arity.{Arity}
use Rattle.pt_document.specs.declared.classes.Arity.TheVariants as arity
use Rattle.pt_document.specs.Classes.{kind_of, class_row, classes}
use Rattle.pt_datatypes.specs.Datatype.{Datatype}
use Rattle.pt_datatypes.proofs.Order.{below-trans}
use Rattle.pt_inequalities.specs.declared.row.PortType.{PortType}
use Rattle.pt_inequalities.specs.declared.row.PortType.TheVariants as port
use Rattle.pt_inequalities.specs.Rows.{port_rows}
use Rattle.pt_flow_base.specs.declared.params.Params.{Params}
use Rattle.pt_lib_flow.specs.declared.flow_actor.Class.{Class}
use Rattle.pt_lib_flow.specs.declared.flow_actor.Class.TheVariants as class
use Rattle.pt_typed.specs.NetRows.{ends_from}
use Rattle.pt_typed.proofs.PortFacts.{PortFacts, head_type}
use Rattle.pt_typed.proofs.FlowStarts.{name_of, FlowAsks}
use Rattle.pt_typed.proofs.ClassPorts.{heads_in, marks_in, declares_in, SinglesFrom, outs_from, one-port, first-port, second-port}

-- ---- the ports of the classes

abbrev pub heads_of : Class → List (List ℕ × Direction)
heads_of class.AbsoluteValue = (codes "input", Input) ∷ (codes "output", Output) ∷ []
heads_of class.Accumulator = (codes "input", Input) ∷ (codes "reset", Input) ∷ (codes "output", Output) ∷ []
heads_of class.AddSubtract = (codes "plus", Input) ∷ (codes "minus", Input) ∷ (codes "output", Output) ∷ []
heads_of class.BooleanSelect = (codes "trueInput", Input) ∷ (codes "falseInput", Input) ∷ (codes "control", Input) ∷ (codes "output", Output) ∷ []
heads_of class.BooleanSwitch = (codes "input", Input) ∷ (codes "control", Input) ∷ (codes "trueOutput", Output) ∷ (codes "falseOutput", Output) ∷ []
heads_of class.Const = (codes "trigger", Input) ∷ (codes "output", Output) ∷ []
heads_of class.Counter = (codes "increment", Input) ∷ (codes "decrement", Input) ∷ (codes "output", Output) ∷ []
heads_of class.DownSample = (codes "input", Input) ∷ (codes "output", Output) ∷ []
heads_of class.Expression = (codes "output", Output) ∷ []
heads_of class.Maximum = (codes "input", Input) ∷ (codes "output", Output) ∷ []
heads_of class.Minimum = (codes "input", Input) ∷ (codes "output", Output) ∷ []
heads_of class.MultiplyDivide = (codes "multiply", Input) ∷ (codes "divide", Input) ∷ (codes "output", Output) ∷ []
heads_of class.Ramp = (codes "trigger", Input) ∷ (codes "output", Output) ∷ []
heads_of class.Repeat = (codes "input", Input) ∷ (codes "output", Output) ∷ []
heads_of class.SampleDelay = (codes "input", Input) ∷ (codes "output", Output) ∷ []
heads_of class.Scale = (codes "input", Input) ∷ (codes "output", Output) ∷ []
heads_of class.Sequence = (codes "trigger", Input) ∷ (codes "output", Output) ∷ []
heads_of class.UpSample = (codes "input", Input) ∷ (codes "output", Output) ∷ []

abbrev pub marks_of : Class → List (Direction × Arity)
marks_of class.AbsoluteValue = (Input, arity.Single) ∷ (Output, arity.Single) ∷ []
marks_of class.Accumulator = (Input, arity.Single) ∷ (Input, arity.Optional) ∷ (Output, arity.Single) ∷ []
marks_of class.AddSubtract = (Input, arity.ManyOrNone) ∷ (Input, arity.ManyOrNone) ∷ (Output, arity.Single) ∷ []
marks_of class.BooleanSelect = (Input, arity.Single) ∷ (Input, arity.Single) ∷ (Input, arity.Single) ∷ (Output, arity.Single) ∷ []
marks_of class.BooleanSwitch = (Input, arity.Single) ∷ (Input, arity.Single) ∷ (Output, arity.Single) ∷ (Output, arity.Single) ∷ []
marks_of class.Const = (Input, arity.Optional) ∷ (Output, arity.Single) ∷ []
marks_of class.Counter = (Input, arity.Optional) ∷ (Input, arity.Optional) ∷ (Output, arity.Single) ∷ []
marks_of class.DownSample = (Input, arity.Single) ∷ (Output, arity.Single) ∷ []
marks_of class.Expression = (Output, arity.Single) ∷ []
marks_of class.Maximum = (Input, arity.Many) ∷ (Output, arity.Single) ∷ []
marks_of class.Minimum = (Input, arity.Many) ∷ (Output, arity.Single) ∷ []
marks_of class.MultiplyDivide = (Input, arity.ManyOrNone) ∷ (Input, arity.ManyOrNone) ∷ (Output, arity.Single) ∷ []
marks_of class.Ramp = (Input, arity.Optional) ∷ (Output, arity.Single) ∷ []
marks_of class.Repeat = (Input, arity.Single) ∷ (Output, arity.Single) ∷ []
marks_of class.SampleDelay = (Input, arity.Single) ∷ (Output, arity.Single) ∷ []
marks_of class.Scale = (Input, arity.Single) ∷ (Output, arity.Single) ∷ []
marks_of class.Sequence = (Input, arity.Optional) ∷ (Output, arity.Single) ∷ []
marks_of class.UpSample = (Input, arity.Single) ∷ (Output, arity.Single) ∷ []

-- what passes there
abbrev pub types_of : Class → List PortType
types_of class.AbsoluteValue = port.Int ∷ port.Int ∷ []
types_of class.Accumulator = port.Int ∷ port.Boolean ∷ port.Int ∷ []
types_of class.AddSubtract = port.Int ∷ port.Int ∷ port.Int ∷ []
types_of class.BooleanSelect = port.Row ∷ port.Row ∷ port.Boolean ∷ port.Row ∷ []
types_of class.BooleanSwitch = port.Row ∷ port.Boolean ∷ port.Row ∷ port.Row ∷ []
types_of class.Const = port.Free ∷ port.Row ∷ []
types_of class.Counter = port.Free ∷ port.Free ∷ port.Int ∷ []
types_of class.DownSample = port.Row ∷ port.Row ∷ []
types_of class.Expression = port.Tree ∷ []
types_of class.Maximum = port.Int ∷ port.Int ∷ []
types_of class.Minimum = port.Int ∷ port.Int ∷ []
types_of class.MultiplyDivide = port.Int ∷ port.Int ∷ port.Int ∷ []
types_of class.Ramp = port.Free ∷ port.Int ∷ []
types_of class.Repeat = port.Row ∷ port.Row ∷ []
types_of class.SampleDelay = port.Row ∷ port.Row ∷ []
types_of class.Scale = port.Int ∷ port.Int ∷ []
types_of class.Sequence = port.Free ∷ port.Row ∷ []
types_of class.UpSample = port.Int ∷ port.Int ∷ []

-- it declares no ports, and what it gives is made of its inputs, numbers and truth values
abbrev pub is_plain : Class → Bool
is_plain class.AbsoluteValue = true
is_plain class.Accumulator = true
is_plain class.AddSubtract = true
is_plain class.BooleanSelect = true
is_plain class.BooleanSwitch = true
is_plain class.Const = false
is_plain class.Counter = true
is_plain class.DownSample = true
is_plain class.Expression = false
is_plain class.Maximum = true
is_plain class.Minimum = true
is_plain class.MultiplyDivide = true
is_plain class.Ramp = true
is_plain class.Repeat = true
is_plain class.SampleDelay = false
is_plain class.Scale = true
is_plain class.Sequence = false
is_plain class.UpSample = true

pub heads-are : (c : Class) → heads_in (kind_of (name_of c)) ≡ heads_of c
unfolding kind_of class_row classes
heads-are class.AbsoluteValue = refl
heads-are class.Accumulator = refl
heads-are class.AddSubtract = refl
heads-are class.BooleanSelect = refl
heads-are class.BooleanSwitch = refl
heads-are class.Const = refl
heads-are class.Counter = refl
heads-are class.DownSample = refl
heads-are class.Expression = refl
heads-are class.Maximum = refl
heads-are class.Minimum = refl
heads-are class.MultiplyDivide = refl
heads-are class.Ramp = refl
heads-are class.Repeat = refl
heads-are class.SampleDelay = refl
heads-are class.Scale = refl
heads-are class.Sequence = refl
heads-are class.UpSample = refl

pub marks-are : (c : Class) → marks_in (kind_of (name_of c)) ≡ marks_of c
unfolding kind_of class_row classes
marks-are class.AbsoluteValue = refl
marks-are class.Accumulator = refl
marks-are class.AddSubtract = refl
marks-are class.BooleanSelect = refl
marks-are class.BooleanSwitch = refl
marks-are class.Const = refl
marks-are class.Counter = refl
marks-are class.DownSample = refl
marks-are class.Expression = refl
marks-are class.Maximum = refl
marks-are class.Minimum = refl
marks-are class.MultiplyDivide = refl
marks-are class.Ramp = refl
marks-are class.Repeat = refl
marks-are class.SampleDelay = refl
marks-are class.Scale = refl
marks-are class.Sequence = refl
marks-are class.UpSample = refl

pub plain-declares : (c : Class) → is_plain c ≡ true → declares_in (kind_of (name_of c)) ≡ None
unfolding kind_of class_row classes
plain-declares class.AbsoluteValue p = refl
plain-declares class.Accumulator p = refl
plain-declares class.AddSubtract p = refl
plain-declares class.BooleanSelect p = refl
plain-declares class.BooleanSwitch p = refl
plain-declares class.Const p = refl
plain-declares class.Counter p = refl
plain-declares class.DownSample p = refl
plain-declares class.Expression p = absurd (let e : false ≡ true = p in cc)
plain-declares class.Maximum p = refl
plain-declares class.Minimum p = refl
plain-declares class.MultiplyDivide p = refl
plain-declares class.Ramp p = refl
plain-declares class.Repeat p = refl
plain-declares class.SampleDelay p = refl
plain-declares class.Scale p = refl
plain-declares class.Sequence p = refl
plain-declares class.UpSample p = refl

pub types-are : (c : Class) → map (head_type (name_of c)) (heads_of c) ≡ types_of c
unfolding head_type port_rows
types-are class.AbsoluteValue = refl
types-are class.Accumulator = refl
types-are class.AddSubtract = refl
types-are class.BooleanSelect = refl
types-are class.BooleanSwitch = refl
types-are class.Const = refl
types-are class.Counter = refl
types-are class.DownSample = refl
types-are class.Expression = refl
types-are class.Maximum = refl
types-are class.Minimum = refl
types-are class.MultiplyDivide = refl
types-are class.Ramp = refl
types-are class.Repeat = refl
types-are class.SampleDelay = refl
types-are class.Scale = refl
types-are class.Sequence = refl
types-are class.UpSample = refl

abbrev dirs : Class → List Direction
dirs c = map (λ h. h.1) (heads_of c)

-- what a class asks of types is what is known of its ports
pub flow-fits : (c : Class) (r : Datatype) (types : ℕ → Datatype) (counts : ℕ → ℕ) (params : Params) → is_plain c ≡ true → PortFacts r types 0 (types_of c) → SinglesFrom counts 0 (marks_of c) → FlowAsks (map types (ends_from counts 0 (map (λ h. h.1) (heads_of c)))) (map types (outs_from 0 (map (λ h. h.1) (heads_of c)))) c params
flow-fits class.AbsoluteValue r types counts params p f s = f.1.0
flow-fits class.Accumulator r types counts params p f s = f.1.1.0
flow-fits class.AddSubtract r types counts params p f s = f.1.1.0
flow-fits class.BooleanSelect r types counts params p f s = (first-port types (counts 0) 0 (replicate (counts 1) 1 ++ (replicate (counts 2) 2 ++ [])) (types 3) s.0 (below-trans (types 0) r (types 3) f.0.1 f.1.1.1.0.0), second-port types (counts 0) (counts 1) 0 1 (replicate (counts 2) 2 ++ []) (types 3) s.0 s.1.0 (below-trans (types 1) r (types 3) f.1.0.1 f.1.1.1.0.0))
flow-fits class.BooleanSwitch r types counts params p f s = (first-port types (counts 0) 0 (replicate (counts 1) 1 ++ []) (types 2) s.0 (below-trans (types 0) r (types 2) f.0.1 f.1.1.0.0), first-port types (counts 0) 0 (replicate (counts 1) 1 ++ []) (types 3) s.0 (below-trans (types 0) r (types 3) f.0.1 f.1.1.1.0.0))
flow-fits class.Const r types counts params p f s = absurd (let e : false ≡ true = p in cc)
flow-fits class.Counter r types counts params p f s = f.1.1.0
flow-fits class.DownSample r types counts params p f s = one-port types (counts 0) 0 (types 1) (below-trans (types 0) r (types 1) f.0.1 f.1.0.0)
flow-fits class.Expression r types counts params p f s = absurd (let e : false ≡ true = p in cc)
flow-fits class.Maximum r types counts params p f s = f.1.0
flow-fits class.Minimum r types counts params p f s = f.1.0
flow-fits class.MultiplyDivide r types counts params p f s = f.1.1.0
flow-fits class.Ramp r types counts params p f s = f.1.0
flow-fits class.Repeat r types counts params p f s = one-port types (counts 0) 0 (types 1) (below-trans (types 0) r (types 1) f.0.1 f.1.0.0)
flow-fits class.SampleDelay r types counts params p f s = absurd (let e : false ≡ true = p in cc)
flow-fits class.Scale r types counts params p f s = f.1.0
flow-fits class.Sequence r types counts params p f s = absurd (let e : false ≡ true = p in cc)
flow-fits class.UpSample r types counts params p f s = f.1.0
