-- What several classes have in common.
pub mod Params
pub mod Reply
-- The rows, class by class.
pub mod ArrayElement
pub mod ArrayToSequence
pub mod Comparator
pub mod Discard
pub mod ElementsToArray
pub mod Equals
pub mod Limiter
pub mod LogicFunction
pub mod LogicalNot
pub mod RecordAssembler
pub mod RecordDisassembler
pub mod SequenceToArray
pub mod StringLength
-- The library.
pub mod Function
pub mod DataActor
pub mod Laws
