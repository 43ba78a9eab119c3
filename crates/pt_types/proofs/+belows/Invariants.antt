use Rattle.std.proofs.Common.{◌≡◌, drop, map}
use Rattle.pt_datatypes.specs.Datatype.{types_of}
use Rattle.pt_datatypes.specs.Order.{are_below}
use Rattle.pt_types.specs.Ty.{entry_of}
use Rattle.pt_types.proofs.+belows.Given as goal

abbrev pub invariant-record::RecordTy::are_below-loop-index : goal.invariant-record::RecordTy::are_below-loop-index
invariant-record::RecordTy::are_below-loop-index l =
    are_below (types_of (map entry_of (drop l.index l.self-inside.fields.items))) (types_of (map entry_of (drop l.index l.other-inside.fields.items))) ≡ are_below (types_of l.self) (types_of l.other)
