use Rattle.std.proofs.Common.{◌≡◌, drop, map}
use Rattle.pt_datatypes.specs.Datatype.{types_of}
use Rattle.pt_datatypes.specs.Normal.{are_plain}
use Rattle.pt_types.specs.Ty.{entry_of}
use Rattle.pt_types.proofs.+plains.Given as goal

abbrev pub invariant-record::RecordTy::is_plain-loop-field : goal.invariant-record::RecordTy::is_plain-loop-field
invariant-record::RecordTy::is_plain-loop-field l = are_plain (types_of (map entry_of (drop l.field-index l.field-items))) ≡ are_plain (types_of l.self)
