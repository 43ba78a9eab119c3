-- The classes of timed models: what the typing of a net says of their ports is what they ask.
use Rattle.std.proofs.Common.{◌≡◌, ℕ, List, [], ◌∷◌, map, true, false, None, refl}
use Rattle.std.specs.Prelude.{codes}
use Rattle.pt_document.specs.declared.job.Direction.{Direction}
use Rattle.pt_document.specs.declared.job.Direction.TheVariants.{Input, Output}
use Rattle.pt_document.specs.declared.classes.Arity.{Arity}
use Rattle.pt_document.specs.declared.classes.Arity.TheVariants as arity
use Rattle.pt_document.specs.Classes.{kind_of, class_row, classes}
use Rattle.pt_datatypes.specs.Datatype.{Datatype}
use Rattle.pt_datatypes.proofs.Order.{below-trans}
use Rattle.pt_inequalities.specs.declared.row.PortType.{PortType}
use Rattle.pt_inequalities.specs.declared.row.PortType.TheVariants as port
use Rattle.pt_inequalities.specs.Rows.{port_rows}
use Rattle.pt_flow_base.specs.declared.params.Params.{Params}
use Rattle.pt_lib_timed.specs.declared.timed_actor.Class.{Class}
use Rattle.pt_lib_timed.specs.declared.timed_actor.Class.TheVariants as class
use Rattle.pt_typed.specs.NetRows.{ends_from}
use Rattle.pt_typed.proofs.PortFacts.{PortFacts, head_type}
use Rattle.pt_typed.proofs.TimedStarts.{name_of, TimedAsks, is_plain}
use Rattle.pt_typed.proofs.ClassPorts.{heads_in, marks_in, declares_in, outs_from, one-port}

-- ---- the ports of the classes

abbrev pub heads_of : Class → List (List ℕ × Direction)
heads_of class.CurrentTime = (codes "trigger", Input) ∷ (codes "output", Output) ∷ []
heads_of class.DiscreteClock = (codes "output", Output) ∷ []
heads_of class.Register = (codes "input", Input) ∷ (codes "trigger", Input) ∷ (codes "output", Output) ∷ []
heads_of class.Sampler = (codes "input", Input) ∷ (codes "trigger", Input) ∷ (codes "output", Output) ∷ []
heads_of class.Server = (codes "input", Input) ∷ (codes "output", Output) ∷ []
heads_of class.SingleEvent = (codes "output", Output) ∷ []
heads_of class.TimeDelay = (codes "input", Input) ∷ (codes "output", Output) ∷ []

abbrev pub marks_of : Class → List (Direction × Arity)
marks_of class.CurrentTime = (Input, arity.Single) ∷ (Output, arity.Single) ∷ []
marks_of class.DiscreteClock = (Output, arity.Single) ∷ []
marks_of class.Register = (Input, arity.Single) ∷ (Input, arity.Single) ∷ (Output, arity.Single) ∷ []
marks_of class.Sampler = (Input, arity.Single) ∷ (Input, arity.Single) ∷ (Output, arity.Single) ∷ []
marks_of class.Server = (Input, arity.Single) ∷ (Output, arity.Single) ∷ []
marks_of class.SingleEvent = (Output, arity.Single) ∷ []
marks_of class.TimeDelay = (Input, arity.Single) ∷ (Output, arity.Single) ∷ []

-- what passes there
abbrev pub types_of : Class → List PortType
types_of class.CurrentTime = port.Free ∷ port.Int ∷ []
types_of class.DiscreteClock = port.Row ∷ []
types_of class.Register = port.Row ∷ port.Free ∷ port.Row ∷ []
types_of class.Sampler = port.Row ∷ port.Free ∷ port.Row ∷ []
types_of class.Server = port.Row ∷ port.Row ∷ []
types_of class.SingleEvent = port.Row ∷ []
types_of class.TimeDelay = port.Row ∷ port.Row ∷ []

pub heads-are : (c : Class) → heads_in (kind_of (name_of c)) ≡ heads_of c
unfolding kind_of class_row classes
heads-are class.CurrentTime = refl
heads-are class.DiscreteClock = refl
heads-are class.Register = refl
heads-are class.Sampler = refl
heads-are class.Server = refl
heads-are class.SingleEvent = refl
heads-are class.TimeDelay = refl

pub marks-are : (c : Class) → marks_in (kind_of (name_of c)) ≡ marks_of c
unfolding kind_of class_row classes
marks-are class.CurrentTime = refl
marks-are class.DiscreteClock = refl
marks-are class.Register = refl
marks-are class.Sampler = refl
marks-are class.Server = refl
marks-are class.SingleEvent = refl
marks-are class.TimeDelay = refl

-- none of them declares ports
pub declares-none : (c : Class) → declares_in (kind_of (name_of c)) ≡ None
unfolding kind_of class_row classes
declares-none class.CurrentTime = refl
declares-none class.DiscreteClock = refl
declares-none class.Register = refl
declares-none class.Sampler = refl
declares-none class.Server = refl
declares-none class.SingleEvent = refl
declares-none class.TimeDelay = refl

pub types-are : (c : Class) → map (head_type (name_of c)) (heads_of c) ≡ types_of c
unfolding head_type port_rows
types-are class.CurrentTime = refl
types-are class.DiscreteClock = refl
types-are class.Register = refl
types-are class.Sampler = refl
types-are class.Server = refl
types-are class.SingleEvent = refl
types-are class.TimeDelay = refl

-- what a class asks of types is what is known of its ports
pub timed-fits : (c : Class) (r : Datatype) (types : ℕ → Datatype) (counts : ℕ → ℕ) (params : Params) → is_plain c ≡ true → PortFacts r types 0 (types_of c) → TimedAsks (map types (ends_from counts 0 (map (λ h. h.1) (heads_of c)))) (map types (outs_from 0 (map (λ h. h.1) (heads_of c)))) c params
timed-fits class.CurrentTime r types counts params p f = f.1.0
timed-fits class.DiscreteClock r types counts params p f = absurd (let e : false ≡ true = p in cc)
timed-fits class.Register r types counts params p f = absurd (let e : false ≡ true = p in cc)
timed-fits class.Sampler r types counts params p f = absurd (let e : false ≡ true = p in cc)
timed-fits class.Server r types counts params p f = one-port types (counts 0) 0 (types 1) (below-trans (types 0) r (types 1) f.0.1 f.1.0.0)
timed-fits class.SingleEvent r types counts params p f = absurd (let e : false ≡ true = p in cc)
timed-fits class.TimeDelay r types counts params p f = one-port types (counts 0) 0 (types 1) (below-trans (types 0) r (types 1) f.0.1 f.1.0.0)
