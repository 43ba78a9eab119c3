-- What the actors of the library make of their inputs, each class by its own definition.
use Rattle.std.specs.Prelude.{ℕ, List, [], ◌∷◌, length, replicate, Bool, true, false, Option, Some, None, option_map, codes, bytes_eq, if◌then◌else◌}
use Rattle.pt_meaning.specs.Basics.{Streams}
use Rattle.pt_value.specs.declared.token.Token.{Token}
use Rattle.pt_firing.specs.Params.{names_but}
use Rattle.pt_lib_data.specs.declared.function.Class.{Class}
use Rattle.pt_lib_data.specs.declared.function.Class.TheVariants as class
use Rattle.pt_lib_data.specs.declared.function.Function.{Function}
use Rattle.pt_lib_data.specs.declared.function.Function.TheVariants.{ArrayElement, ArrayToSequence, Barrier, Comparator, Discard, ElementsToArray, Equals, Limiter, LogicFunction, LogicalNot, RecordAssembler, RecordDisassembler, SequenceToArray, StringLength}
use Rattle.pt_lib_data.specs.Reply.{Reply}
use Rattle.pt_lib_data.specs.ArrayElement as array_element
use Rattle.pt_lib_data.specs.ArrayToSequence as array_to_sequence
use Rattle.pt_lib_data.specs.Comparator as comparator
use Rattle.pt_lib_data.specs.Discard as discard
use Rattle.pt_lib_data.specs.ElementsToArray as elements_to_array
use Rattle.pt_lib_data.specs.Equals as equals
use Rattle.pt_lib_data.specs.Limiter as limiter
use Rattle.pt_lib_data.specs.LogicFunction as logic_function
use Rattle.pt_lib_data.specs.LogicalNot as logical_not
use Rattle.pt_lib_data.specs.RecordAssembler as record_assembler
use Rattle.pt_lib_data.specs.RecordDisassembler as record_disassembler
use Rattle.pt_lib_data.specs.SequenceToArray as sequence_to_array
use Rattle.pt_lib_data.specs.StringLength as string_length

-- What each gives. A Barrier gives what an ElementsToArray does: that its tokens come in one meeting is a matter of its director.
abbrev pub give : Function → Streams Token → Reply
give (ArrayElement index) X = array_element.give index X
give (ArrayToSequence count) X = array_to_sequence.give count X
give Barrier X = elements_to_array.give X
give (Comparator relation) X = comparator.give relation X
give Discard X = discard.give
give ElementsToArray X = elements_to_array.give X
give Equals X = equals.give X
give (Limiter range) X = limiter.give range X
give (LogicFunction gate) X = logic_function.give gate X
give LogicalNot X = logical_not.give X
give (RecordAssembler names) X = record_assembler.give names X
give (RecordDisassembler names) X = record_disassembler.give names X
give (SequenceToArray count) X = sequence_to_array.give count X
give StringLength X = string_length.give X

-- how many tokens each place needs, where so many channels come to the input
abbrev pub needed : Function → ℕ → List ℕ
needed (ArrayElement index) channels = replicate 1 1
needed (ArrayToSequence count) channels = replicate 1 1
needed Barrier channels = replicate channels 1
needed (Comparator relation) channels = replicate 2 1
needed Discard channels = replicate channels 1
needed ElementsToArray channels = replicate channels 1
needed Equals channels = replicate channels 1
needed (Limiter range) channels = replicate 1 1
needed (LogicFunction gate) channels = replicate channels 1
needed LogicalNot channels = replicate 1 1
needed (RecordAssembler names) channels = replicate (length names) 1
needed (RecordDisassembler names) channels = replicate 1 1
needed (SequenceToArray count) channels = count ∷ []
needed StringLength channels = replicate 1 1

-- the number of outputs
abbrev pub outputs : Function → ℕ
outputs (ArrayElement index) = 1
outputs (ArrayToSequence count) = 1
outputs Barrier = 1
outputs (Comparator relation) = 1
outputs Discard = 0
outputs ElementsToArray = 1
outputs Equals = 1
outputs (Limiter range) = 1
outputs (LogicFunction gate) = 1
outputs LogicalNot = 1
outputs (RecordAssembler names) = 1
outputs (RecordDisassembler names) = length names
outputs (SequenceToArray count) = 1
outputs StringLength = 1

-- How many tokens a firing gives on each output, where each input has the tokens that it needs, of the types of its row. An ArrayToSequence gives those of an array of its length.
abbrev pub rates : Function → List ℕ
rates (ArrayElement index) = 1 ∷ []
rates (ArrayToSequence count) = count ∷ []
rates Barrier = 1 ∷ []
rates (Comparator relation) = 1 ∷ []
rates Discard = []
rates ElementsToArray = 1 ∷ []
rates Equals = 1 ∷ []
rates (Limiter range) = 1 ∷ []
rates (LogicFunction gate) = 1 ∷ []
rates LogicalNot = 1 ∷ []
rates (RecordAssembler names) = 1 ∷ []
rates (RecordDisassembler names) = replicate (length names) 1
rates (SequenceToArray count) = 1 ∷ []
rates StringLength = 1 ∷ []

-- it takes a token of each channel in one meeting, under Rendezvous
abbrev pub is_barrier : Function → Bool
is_barrier (ArrayElement index) = false
is_barrier (ArrayToSequence count) = false
is_barrier Barrier = true
is_barrier (Comparator relation) = false
is_barrier Discard = false
is_barrier ElementsToArray = false
is_barrier Equals = false
is_barrier (Limiter range) = false
is_barrier (LogicFunction gate) = false
is_barrier LogicalNot = false
is_barrier (RecordAssembler names) = false
is_barrier (RecordDisassembler names) = false
is_barrier (SequenceToArray count) = false
is_barrier StringLength = false

-- the classes by name
abbrev pub class_of : List ℕ → Option Class
class_of name = if bytes_eq name (codes "ArrayElement") then Some class.ArrayElement else (if bytes_eq name (codes "ArrayToSequence") then Some class.ArrayToSequence else (if bytes_eq name (codes "Barrier") then Some class.Barrier else (if bytes_eq name (codes "Comparator") then Some class.Comparator else (if bytes_eq name (codes "Discard") then Some class.Discard else (if bytes_eq name (codes "ElementsToArray") then Some class.ElementsToArray else (if bytes_eq name (codes "Equals") then Some class.Equals else (if bytes_eq name (codes "Limiter") then Some class.Limiter else (if bytes_eq name (codes "LogicFunction") then Some class.LogicFunction else (if bytes_eq name (codes "LogicalNot") then Some class.LogicalNot else (if bytes_eq name (codes "RecordAssembler") then Some class.RecordAssembler else (if bytes_eq name (codes "RecordDisassembler") then Some class.RecordDisassembler else (if bytes_eq name (codes "SequenceToArray") then Some class.SequenceToArray else (if bytes_eq name (codes "StringLength") then Some class.StringLength else None)))))))))))))

-- what these parameters start, where so many channels come to each port, if they are such as the row of the class has them
abbrev pub start_as : Class → List (List ℕ × Token) → List (List ℕ × ℕ) → Option Function
start_as class.ArrayElement values ports = option_map ArrayElement (array_element.start values)
start_as class.ArrayToSequence values ports = option_map ArrayToSequence (sequence_to_array.start values)
start_as class.Barrier values ports = Some Barrier
start_as class.Comparator values ports = option_map Comparator (comparator.start values)
start_as class.Discard values ports = Some Discard
start_as class.ElementsToArray values ports = Some ElementsToArray
start_as class.Equals values ports = Some Equals
start_as class.Limiter values ports = option_map Limiter (limiter.start values)
start_as class.LogicFunction values ports = option_map LogicFunction (logic_function.start values)
start_as class.LogicalNot values ports = Some LogicalNot
start_as class.RecordAssembler values ports = Some (RecordAssembler (names_but (codes "output") ports))
start_as class.RecordDisassembler values ports = Some (RecordDisassembler (names_but (codes "input") ports))
start_as class.SequenceToArray values ports = option_map SequenceToArray (sequence_to_array.start values)
start_as class.StringLength values ports = Some StringLength
