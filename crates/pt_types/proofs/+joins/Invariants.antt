use Rattle.std.proofs.Common.{◌≡◌, ◌++◌, drop, map}
use Rattle.pt_datatypes.specs.Datatype.{types_of, fields_of}
use Rattle.pt_datatypes.specs.Join.{joined_fields}
use Rattle.pt_types.specs.Ty.{entry_of}
use Rattle.pt_types.proofs.+joins.Given as goal

abbrev pub invariant-record::RecordTy::joined-loop-index : goal.invariant-record::RecordTy::joined-loop-index
invariant-record::RecordTy::joined-loop-index l =
    map entry_of l.fields.items ++ fields_of (joined_fields (types_of (map entry_of (drop l.index l.self-inside.fields.items))) (types_of (map entry_of (drop l.index l.other-inside.fields.items)))) ≡ fields_of (joined_fields (types_of l.self) (types_of l.other))
