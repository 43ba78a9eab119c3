-- The classes of data actors: what the typing of a net says of their ports is what they ask.
use Rattle.std.proofs.Common.{◌≡◌, ℕ, List, [], ◌∷◌, map, Bool, true, false, None, refl}
use Rattle.std.specs.Prelude.{codes}
use Rattle.pt_document.specs.declared.job.Direction.{Direction}
use Rattle.pt_document.specs.declared.job.Direction.TheVariants.{Input, Output}
use Rattle.pt_document.specs.declared.classes.Arity.{Arity}
use Rattle.pt_document.specs.declared.classes.Arity.TheVariants as arity
use Rattle.pt_document.specs.Classes.{kind_of, class_row, classes}
use Rattle.pt_datatypes.specs.Datatype.{Datatype}
use Rattle.pt_datatypes.proofs.Order.{below-trans}
use Rattle.pt_inequalities.specs.declared.row.PortType.{PortType}
use Rattle.pt_inequalities.specs.declared.row.PortType.TheVariants as port
use Rattle.pt_inequalities.specs.Rows.{port_rows}
use Rattle.pt_language.specs.Typing.{or_general}
use Rattle.pt_language.specs.TreeType.{element}
use Rattle.pt_lib_data.specs.declared.function.Class.{Class}
use Rattle.pt_lib_data.specs.declared.function.Class.TheVariants as class
use Rattle.pt_typed.specs.NetRows.{ends_from}
use Rattle.pt_typed.proofs.PortFacts.{PortFacts, head_type}
use Rattle.pt_typed.proofs.DataStarts.{name_of, DataAsks}
use Rattle.pt_typed.proofs.ClassPorts.{heads_in, marks_in, declares_in, outs_from, one-array, all-ports}

-- ---- the ports of the classes

abbrev pub heads_of : Class → List (List ℕ × Direction)
heads_of class.ArrayElement = (codes "input", Input) ∷ (codes "output", Output) ∷ []
heads_of class.ArrayToSequence = (codes "input", Input) ∷ (codes "output", Output) ∷ []
heads_of class.Barrier = (codes "input", Input) ∷ (codes "output", Output) ∷ []
heads_of class.Comparator = (codes "left", Input) ∷ (codes "right", Input) ∷ (codes "output", Output) ∷ []
heads_of class.Discard = (codes "input", Input) ∷ []
heads_of class.ElementsToArray = (codes "input", Input) ∷ (codes "output", Output) ∷ []
heads_of class.Equals = (codes "input", Input) ∷ (codes "output", Output) ∷ []
heads_of class.Limiter = (codes "input", Input) ∷ (codes "output", Output) ∷ []
heads_of class.LogicFunction = (codes "input", Input) ∷ (codes "output", Output) ∷ []
heads_of class.LogicalNot = (codes "input", Input) ∷ (codes "output", Output) ∷ []
heads_of class.RecordAssembler = (codes "output", Output) ∷ []
heads_of class.RecordDisassembler = (codes "input", Input) ∷ []
heads_of class.SequenceToArray = (codes "input", Input) ∷ (codes "output", Output) ∷ []
heads_of class.StringLength = (codes "input", Input) ∷ (codes "output", Output) ∷ []

abbrev pub marks_of : Class → List (Direction × Arity)
marks_of class.ArrayElement = (Input, arity.Single) ∷ (Output, arity.Single) ∷ []
marks_of class.ArrayToSequence = (Input, arity.Single) ∷ (Output, arity.Single) ∷ []
marks_of class.Barrier = (Input, arity.Many) ∷ (Output, arity.Single) ∷ []
marks_of class.Comparator = (Input, arity.Single) ∷ (Input, arity.Single) ∷ (Output, arity.Single) ∷ []
marks_of class.Discard = (Input, arity.Many) ∷ []
marks_of class.ElementsToArray = (Input, arity.Many) ∷ (Output, arity.Single) ∷ []
marks_of class.Equals = (Input, arity.Many) ∷ (Output, arity.Single) ∷ []
marks_of class.Limiter = (Input, arity.Single) ∷ (Output, arity.Single) ∷ []
marks_of class.LogicFunction = (Input, arity.Many) ∷ (Output, arity.Single) ∷ []
marks_of class.LogicalNot = (Input, arity.Single) ∷ (Output, arity.Single) ∷ []
marks_of class.RecordAssembler = (Output, arity.Single) ∷ []
marks_of class.RecordDisassembler = (Input, arity.Single) ∷ []
marks_of class.SequenceToArray = (Input, arity.Single) ∷ (Output, arity.Single) ∷ []
marks_of class.StringLength = (Input, arity.Single) ∷ (Output, arity.Single) ∷ []

-- what passes there
abbrev pub types_of : Class → List PortType
types_of class.ArrayElement = port.RowArray ∷ port.Row ∷ []
types_of class.ArrayToSequence = port.RowArray ∷ port.Row ∷ []
types_of class.Barrier = port.Row ∷ port.RowArray ∷ []
types_of class.Comparator = port.Int ∷ port.Int ∷ port.Boolean ∷ []
types_of class.Discard = port.Free ∷ []
types_of class.ElementsToArray = port.Row ∷ port.RowArray ∷ []
types_of class.Equals = port.Free ∷ port.Boolean ∷ []
types_of class.Limiter = port.Int ∷ port.Int ∷ []
types_of class.LogicFunction = port.Boolean ∷ port.Boolean ∷ []
types_of class.LogicalNot = port.Boolean ∷ port.Boolean ∷ []
types_of class.RecordAssembler = port.Assembled ∷ []
types_of class.RecordDisassembler = port.Free ∷ []
types_of class.SequenceToArray = port.Row ∷ port.RowArray ∷ []
types_of class.StringLength = port.Words ∷ port.Int ∷ []

-- it declares no ports, and what it gives is made of its inputs, numbers and truth values
abbrev pub is_plain : Class → Bool
is_plain class.ArrayElement = true
is_plain class.ArrayToSequence = true
is_plain class.Barrier = true
is_plain class.Comparator = true
is_plain class.Discard = true
is_plain class.ElementsToArray = true
is_plain class.Equals = true
is_plain class.Limiter = true
is_plain class.LogicFunction = true
is_plain class.LogicalNot = true
is_plain class.RecordAssembler = false
is_plain class.RecordDisassembler = false
is_plain class.SequenceToArray = true
is_plain class.StringLength = true

pub heads-are : (c : Class) → heads_in (kind_of (name_of c)) ≡ heads_of c
unfolding kind_of class_row classes
heads-are class.ArrayElement = refl
heads-are class.ArrayToSequence = refl
heads-are class.Barrier = refl
heads-are class.Comparator = refl
heads-are class.Discard = refl
heads-are class.ElementsToArray = refl
heads-are class.Equals = refl
heads-are class.Limiter = refl
heads-are class.LogicFunction = refl
heads-are class.LogicalNot = refl
heads-are class.RecordAssembler = refl
heads-are class.RecordDisassembler = refl
heads-are class.SequenceToArray = refl
heads-are class.StringLength = refl

pub marks-are : (c : Class) → marks_in (kind_of (name_of c)) ≡ marks_of c
unfolding kind_of class_row classes
marks-are class.ArrayElement = refl
marks-are class.ArrayToSequence = refl
marks-are class.Barrier = refl
marks-are class.Comparator = refl
marks-are class.Discard = refl
marks-are class.ElementsToArray = refl
marks-are class.Equals = refl
marks-are class.Limiter = refl
marks-are class.LogicFunction = refl
marks-are class.LogicalNot = refl
marks-are class.RecordAssembler = refl
marks-are class.RecordDisassembler = refl
marks-are class.SequenceToArray = refl
marks-are class.StringLength = refl

pub plain-declares : (c : Class) → is_plain c ≡ true → declares_in (kind_of (name_of c)) ≡ None
unfolding kind_of class_row classes
plain-declares class.ArrayElement p = refl
plain-declares class.ArrayToSequence p = refl
plain-declares class.Barrier p = refl
plain-declares class.Comparator p = refl
plain-declares class.Discard p = refl
plain-declares class.ElementsToArray p = refl
plain-declares class.Equals p = refl
plain-declares class.Limiter p = refl
plain-declares class.LogicFunction p = refl
plain-declares class.LogicalNot p = refl
plain-declares class.RecordAssembler p = absurd (let e : false ≡ true = p in cc)
plain-declares class.RecordDisassembler p = absurd (let e : false ≡ true = p in cc)
plain-declares class.SequenceToArray p = refl
plain-declares class.StringLength p = refl

pub types-are : (c : Class) → map (head_type (name_of c)) (heads_of c) ≡ types_of c
unfolding head_type port_rows
types-are class.ArrayElement = refl
types-are class.ArrayToSequence = refl
types-are class.Barrier = refl
types-are class.Comparator = refl
types-are class.Discard = refl
types-are class.ElementsToArray = refl
types-are class.Equals = refl
types-are class.Limiter = refl
types-are class.LogicFunction = refl
types-are class.LogicalNot = refl
types-are class.RecordAssembler = refl
types-are class.RecordDisassembler = refl
types-are class.SequenceToArray = refl
types-are class.StringLength = refl

-- what a class asks of types is what is known of its ports
pub data-fits : (c : Class) (r : Datatype) (types : ℕ → Datatype) (counts : ℕ → ℕ) (ports : List (List ℕ × ℕ)) → is_plain c ≡ true → PortFacts r types 0 (types_of c) → DataAsks (map types (ends_from counts 0 (map (λ h. h.1) (heads_of c)))) (map types (outs_from 0 (map (λ h. h.1) (heads_of c)))) c ports
data-fits class.ArrayElement r types counts ports p f = one-array types (counts 0) 0 (types 1) (below-trans (or_general (element (types 0))) r (types 1) f.0.1 f.1.0.0)
data-fits class.ArrayToSequence r types counts ports p f = one-array types (counts 0) 0 (types 1) (below-trans (or_general (element (types 0))) r (types 1) f.0.1 f.1.0.0)
data-fits class.Barrier r types counts ports p f = record { element = r; above = all-ports types (counts 0) 0 r f.0.1; taken = f.1.0.0 }
data-fits class.Comparator r types counts ports p f = f.1.1.0
data-fits class.Discard r types counts ports p f = tt
data-fits class.ElementsToArray r types counts ports p f = record { element = r; above = all-ports types (counts 0) 0 r f.0.1; taken = f.1.0.0 }
data-fits class.Equals r types counts ports p f = f.1.0
data-fits class.Limiter r types counts ports p f = f.1.0
data-fits class.LogicFunction r types counts ports p f = f.1.0
data-fits class.LogicalNot r types counts ports p f = f.1.0
data-fits class.RecordAssembler r types counts ports p f = absurd (let e : false ≡ true = p in cc)
data-fits class.RecordDisassembler r types counts ports p f = absurd (let e : false ≡ true = p in cc)
data-fits class.SequenceToArray r types counts ports p f = record { element = r; above = all-ports types (counts 0) 0 r f.0.1; taken = f.1.0.0 }
data-fits class.StringLength r types counts ports p f = f.1.0
