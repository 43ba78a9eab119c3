-- The parts of an array or a record type are lower than it.
use Rattle.std.specs.Prelude.{◌≤◌, max, List, [], ◌∷◌, map}
use Rattle.std.proofs.Common.{arith}
use denote.Param.Weighed.{most}
use Rattle.pt_types.specs.declared.ty.Ty.{Ty}
use Rattle.pt_types.specs.declared.ty.Ty.TheVariants as ty
use Rattle.pt_types.specs.declared.record.FieldTy.{FieldTy}
use Rattle.pt_types.specs.declared.element.ElementTy.TheDeep.{deep-Ty, deep-FieldTy}
use Rattle.pt_datatypes.specs.Datatype.{depth, depth_of_fields, types_of}
use Rattle.pt_types.specs.Ty.{written, entry_of}

pub deep_le-depth : (t : Ty) → deep-Ty t ≤ depth (written t)
deep_le-depth ty.Unknown = omega arith
deep_le-depth ty.Int = omega arith
deep_le-depth ty.Boolean = omega arith
deep_le-depth ty.Words = omega arith
deep_le-depth (ty.Array t) = omega arith
deep_le-depth (ty.Record fs) = omega arith
deep_le-depth ty.General = omega arith

pub most_le-depth : (fs : List FieldTy) → max (most deep-FieldTy fs) 0 ≤ depth_of_fields (types_of (map entry_of fs))
most_le-depth [] = omega arith
most_le-depth (f ∷ fs) = omega (arith, deep_le-depth f.ty, most_le-depth fs)

pub deep_element_le-depth : (t : Ty) → max (deep-Ty t) 0 ≤ depth (written t)
deep_element_le-depth t = omega (arith, deep_le-depth t)
