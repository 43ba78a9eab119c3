-- The classes of synchronous models: what the typing of a net says of their ports is what they ask.
use Rattle.std.proofs.Common.{◌≡◌, ℕ, List, [], ◌∷◌, ◌++◌, map, replicate, drop, true, false, None, refl, sym, subst}
use Rattle.std.specs.Prelude.{codes}
use Rattle.std.specs.List.{AllByRecursion}
use Rattle.pt_document.specs.declared.job.Direction.{Direction}
use Rattle.pt_document.specs.declared.job.Direction.TheVariants.{Input, Output}
use Rattle.pt_document.specs.declared.classes.Arity.{Arity}
use Rattle.pt_document.specs.declared.classes.Arity.TheVariants as arity
use Rattle.pt_document.specs.Classes.{kind_of, class_row, classes}
use Rattle.pt_datatypes.specs.Datatype.{Datatype}
use Rattle.pt_datatypes.specs.Order.{IsBelow}
use Rattle.pt_datatypes.proofs.Order.{below-trans}
use Rattle.pt_inequalities.specs.declared.row.PortType.{PortType}
use Rattle.pt_inequalities.specs.declared.row.PortType.TheVariants as port
use Rattle.pt_inequalities.specs.Rows.{port_rows}
use Rattle.pt_flow_base.specs.declared.params.Params.{Params}
use Rattle.pt_lib_time.specs.declared.time_actor.Class.{Class}
use Rattle.pt_lib_time.specs.declared.time_actor.Class.TheVariants as class
use Rattle.pt_typed.specs.NetRows.{ends_from}
use Rattle.pt_typed.proofs.PortFacts.{PortFacts, head_type}
use Rattle.pt_typed.proofs.TimeStarts.{name_of, TimeAsks, is_plain}
use Rattle.pt_typed.proofs.ClassPorts.{heads_in, marks_in, declares_in, SinglesFrom, outs_from, one-port, all-ports, first-port, second-port}

-- ---- the ports of the classes

abbrev pub heads_of : Class → List (List ℕ × Direction)
heads_of class.Absent = (codes "output", Output) ∷ []
heads_of class.Current = (codes "input", Input) ∷ (codes "output", Output) ∷ []
heads_of class.Default = (codes "preferred", Input) ∷ (codes "alternate", Input) ∷ (codes "output", Output) ∷ []
heads_of class.Merge = (codes "input", Input) ∷ (codes "output", Output) ∷ []
heads_of class.NonStrictDelay = (codes "input", Input) ∷ (codes "output", Output) ∷ []
heads_of class.NonStrictLogicGate = (codes "input", Input) ∷ (codes "output", Output) ∷ []
heads_of class.NonStrictMux = (codes "select", Input) ∷ (codes "input", Input) ∷ (codes "output", Output) ∷ []
heads_of class.Pre = (codes "input", Input) ∷ (codes "output", Output) ∷ []
heads_of class.When = (codes "input", Input) ∷ (codes "control", Input) ∷ (codes "output", Output) ∷ []

abbrev pub marks_of : Class → List (Direction × Arity)
marks_of class.Absent = (Output, arity.Single) ∷ []
marks_of class.Current = (Input, arity.Single) ∷ (Output, arity.Single) ∷ []
marks_of class.Default = (Input, arity.Single) ∷ (Input, arity.Single) ∷ (Output, arity.Single) ∷ []
marks_of class.Merge = (Input, arity.Many) ∷ (Output, arity.Single) ∷ []
marks_of class.NonStrictDelay = (Input, arity.Single) ∷ (Output, arity.Single) ∷ []
marks_of class.NonStrictLogicGate = (Input, arity.Many) ∷ (Output, arity.Single) ∷ []
marks_of class.NonStrictMux = (Input, arity.Single) ∷ (Input, arity.Many) ∷ (Output, arity.Single) ∷ []
marks_of class.Pre = (Input, arity.Single) ∷ (Output, arity.Single) ∷ []
marks_of class.When = (Input, arity.Single) ∷ (Input, arity.Single) ∷ (Output, arity.Single) ∷ []

-- what passes there
abbrev pub types_of : Class → List PortType
types_of class.Absent = port.Free ∷ []
types_of class.Current = port.Row ∷ port.Row ∷ []
types_of class.Default = port.Row ∷ port.Row ∷ port.Row ∷ []
types_of class.Merge = port.Row ∷ port.Row ∷ []
types_of class.NonStrictDelay = port.Row ∷ port.Row ∷ []
types_of class.NonStrictLogicGate = port.Boolean ∷ port.Boolean ∷ []
types_of class.NonStrictMux = port.Int ∷ port.Row ∷ port.Row ∷ []
types_of class.Pre = port.Row ∷ port.Row ∷ []
types_of class.When = port.Row ∷ port.Boolean ∷ port.Row ∷ []

pub heads-are : (c : Class) → heads_in (kind_of (name_of c)) ≡ heads_of c
unfolding kind_of class_row classes
heads-are class.Absent = refl
heads-are class.Current = refl
heads-are class.Default = refl
heads-are class.Merge = refl
heads-are class.NonStrictDelay = refl
heads-are class.NonStrictLogicGate = refl
heads-are class.NonStrictMux = refl
heads-are class.Pre = refl
heads-are class.When = refl

pub marks-are : (c : Class) → marks_in (kind_of (name_of c)) ≡ marks_of c
unfolding kind_of class_row classes
marks-are class.Absent = refl
marks-are class.Current = refl
marks-are class.Default = refl
marks-are class.Merge = refl
marks-are class.NonStrictDelay = refl
marks-are class.NonStrictLogicGate = refl
marks-are class.NonStrictMux = refl
marks-are class.Pre = refl
marks-are class.When = refl

-- none of them declares ports
pub declares-none : (c : Class) → declares_in (kind_of (name_of c)) ≡ None
unfolding kind_of class_row classes
declares-none class.Absent = refl
declares-none class.Current = refl
declares-none class.Default = refl
declares-none class.Merge = refl
declares-none class.NonStrictDelay = refl
declares-none class.NonStrictLogicGate = refl
declares-none class.NonStrictMux = refl
declares-none class.Pre = refl
declares-none class.When = refl

pub types-are : (c : Class) → map (head_type (name_of c)) (heads_of c) ≡ types_of c
unfolding head_type port_rows
types-are class.Absent = refl
types-are class.Current = refl
types-are class.Default = refl
types-are class.Merge = refl
types-are class.NonStrictDelay = refl
types-are class.NonStrictLogicGate = refl
types-are class.NonStrictMux = refl
types-are class.Pre = refl
types-are class.When = refl

-- the places behind that of a port with one channel
behind-first : (types : ℕ → Datatype) (n m i j : ℕ) (u : Datatype) → n ≡ 1 → IsBelow (types j) u → AllByRecursion (λ t. IsBelow t u) (drop 1 (map types (replicate n i ++ (replicate m j ++ []))))
behind-first types n m i j u e h = subst (λ a. AllByRecursion (λ t. IsBelow t u) (drop 1 (map types (replicate a i ++ (replicate m j ++ []))))) (sym e) (all-ports types m j u h)

-- what a class asks of types is what is known of its ports
pub time-fits : (c : Class) (r : Datatype) (types : ℕ → Datatype) (counts : ℕ → ℕ) (params : Params) → is_plain c ≡ true → PortFacts r types 0 (types_of c) → SinglesFrom counts 0 (marks_of c) → TimeAsks (map types (ends_from counts 0 (map (λ h. h.1) (heads_of c)))) (map types (outs_from 0 (map (λ h. h.1) (heads_of c)))) c params
time-fits class.Absent r types counts params p f s = tt
time-fits class.Current r types counts params p f s = one-port types (counts 0) 0 (types 1) (below-trans (types 0) r (types 1) f.0.1 f.1.0.0)
time-fits class.Default r types counts params p f s = (first-port types (counts 0) 0 (replicate (counts 1) 1 ++ []) (types 2) s.0 (below-trans (types 0) r (types 2) f.0.1 f.1.1.0.0), second-port types (counts 0) (counts 1) 0 1 [] (types 2) s.0 s.1.0 (below-trans (types 1) r (types 2) f.1.0.1 f.1.1.0.0))
time-fits class.Merge r types counts params p f s = all-ports types (counts 0) 0 (types 1) (below-trans (types 0) r (types 1) f.0.1 f.1.0.0)
time-fits class.NonStrictDelay r types counts params p f s = absurd (let e : false ≡ true = p in cc)
time-fits class.NonStrictLogicGate r types counts params p f s = f.1.0
time-fits class.NonStrictMux r types counts params p f s = behind-first types (counts 0) (counts 1) 0 1 (types 2) s.0 (below-trans (types 1) r (types 2) f.1.0.1 f.1.1.0.0)
time-fits class.Pre r types counts params p f s = absurd (let e : false ≡ true = p in cc)
time-fits class.When r types counts params p f s = first-port types (counts 0) 0 (replicate (counts 1) 1 ++ []) (types 2) s.0 (below-trans (types 0) r (types 2) f.0.1 f.1.1.0.0)
