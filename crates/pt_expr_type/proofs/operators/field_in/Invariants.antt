use Rattle.std.proofs.Common.{◌≡◌, drop, map}
use Rattle.pt_datatypes.specs.Datatype.{types_of}
use Rattle.pt_types.specs.Ty.{entry_of}
use Rattle.pt_language.specs.TreeType as types
use Rattle.pt_expr_type.proofs.operators.field_in.Given as goal

abbrev pub invariant-loop-field : goal.invariant-loop-field
invariant-loop-field l =
    types.type_in (types_of l.fields) l.name ≡ types.type_in (types_of (map entry_of (drop l.field-index l.field-items))) l.name
