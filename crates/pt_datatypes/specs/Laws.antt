-- The laws of types: an order with a least and a greatest type, in which any two types have a least type above both.
use Rattle.std.specs.Prelude.{◌≡◌, IsTrue}
use Rattle.pt_datatypes.specs.Datatype.{Datatype, Unknown, General, FieldTypes}
use Rattle.pt_datatypes.specs.Order.{IsBelow, are_below}
use Rattle.pt_datatypes.specs.Normal.{normal, normal_fields, array_of, record_of}
use Rattle.pt_datatypes.specs.Join.{join, IsJoin}

-- a partial order with a least and a greatest type
pub record TypesAreOrdered : Type 0 where
  pub reflexive : (t : Datatype) → IsBelow t t
  pub transitive : (s t u : Datatype) → IsBelow s t → IsBelow t u → IsBelow s u
  pub antisymmetric : (s t : Datatype) → IsBelow s t → IsBelow t s → s ≡ t
  pub least : (t : Datatype) → IsBelow Unknown t
  pub greatest : (t : Datatype) → IsBelow t General

-- the join of any two types is the least type above both
abbrev pub JoinsAreLeast : Type 0
JoinsAreLeast = (s t : Datatype) → IsJoin s t (join s t)

-- greater parts give no smaller array, record or join
pub record TypesGrow : Type 0 where
  pub arrays : (s t : Datatype) → IsBelow s t → IsBelow (array_of s) (array_of t)
  pub records : (fs gs : FieldTypes) → IsTrue (are_below fs gs) → IsBelow (record_of fs) (record_of gs)
  pub joins : (s t u v : Datatype) → IsBelow s u → IsBelow t v → IsBelow (join s t) (join u v)

-- an array or a record of what is written is that of the types which this stands for
pub record PartsStandForTypes : Type 0 where
  pub arrays : (t : Datatype) → array_of (normal t) ≡ array_of t
  pub records : (fs : FieldTypes) → record_of (normal_fields fs) ≡ record_of fs
