-- The types that the program makes of parts.
use Rattle.std.proofs.Common.{◌≡◌, sym, ap, ◌∙◌}
use Rattle.pt_types.specs.declared.ty.Ty.{Ty}
use Rattle.pt_datatypes.specs.Datatype.{Array}
use Rattle.pt_datatypes.specs.Normal.{normal, array_of}
use Rattle.pt_types.specs.Ty.{type_of, written}
use Rattle.pt_datatypes.proofs.Joins.{normal_is_type}
use Rattle.pt_datatypes.proofs.Parts.{array_of-normal}

pub array_typed : (t element : Ty) → written t ≡ array_of (written element) → type_of t ≡ array_of (type_of element)
array_typed t element e = ap normal e ∙ normal_is_type (Array (written element)) ∙ sym (array_of-normal (written element))
