use Rattle.std.proofs.Common.{◌≡◌, ◌+◌, ◌≤◌, drop, map, min}
use Rattle.pt_datatypes.specs.Datatype.{nodes_of_fields, types_of}
use Rattle.pt_types.specs.Ty.{entry_of}
use Rattle.pt_types.proofs.+node_counts.Given as goal

abbrev pub invariant-record::RecordTy::node_count-loop-field : goal.invariant-record::RecordTy::node_count-loop-field
invariant-record::RecordTy::node_count-loop-field l =
    (l.count ≤ 18446744073709551615) × (min (l.count + nodes_of_fields (types_of (map entry_of (drop l.field-index l.field-items)))) 18446744073709551615 ≡ min (nodes_of_fields (types_of l.self)) 18446744073709551615)
