use Rattle.std.proofs.Common.{◌≡◌, drop, map}
use Rattle.pt_datatypes.specs.Datatype.{types_of}
use Rattle.pt_datatypes.specs.Join.{same_names}
use Rattle.pt_types.specs.Ty.{entry_of}
use Rattle.pt_types.proofs.record.RecordTy.same_names.Given as goal

abbrev pub invariant-loop-index : goal.invariant-loop-index
invariant-loop-index l =
    same_names (types_of (map entry_of (drop l.index l.self-inside.fields.items))) (types_of (map entry_of (drop l.index l.other-inside.fields.items))) ≡ same_names (types_of l.self) (types_of l.other)
