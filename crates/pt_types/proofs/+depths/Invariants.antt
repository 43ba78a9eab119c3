use Rattle.std.proofs.Common.{◌≡◌, ◌≤◌, drop, map, min, max}
use Rattle.pt_datatypes.specs.Datatype.{depth_of_fields, types_of}
use Rattle.pt_types.specs.Ty.{entry_of}
use Rattle.pt_types.proofs.+depths.Given as goal

abbrev pub invariant-record::RecordTy::depth-loop-field : goal.invariant-record::RecordTy::depth-loop-field
invariant-record::RecordTy::depth-loop-field l =
    (l.deep ≤ 18446744073709551615) × (min (max l.deep (depth_of_fields (types_of (map entry_of (drop l.field-index l.field-items))))) 18446744073709551615 ≡ min (depth_of_fields (types_of l.self)) 18446744073709551615)
