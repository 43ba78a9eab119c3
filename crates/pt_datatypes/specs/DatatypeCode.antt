-- Types as trees of numbers, by which a proof tells them apart.
use Rattle.std.specs.Prelude.{◌≡◌, ℕ, zero, suc, List, [], ◌∷◌, refl}
use Rattle.std.specs.Coded.{Coded}
use Rattle.std.proofs.Common.{ap, sym, ◌∙◌}
use base.Stored.{Gv, gnil, gnum, gcons}
use Rattle.pt_datatypes.specs.Datatype.{Datatype, Unknown, Int, Boolean, Words, Array, Record, General, FieldTypes, no_fields, field_then}

abbrev number : Gv → ℕ
number gnil = 0
number (gnum n) = n
number (gcons a b) = 0

abbrev name_code : List ℕ → Gv
name_code [] = gnil
name_code (n ∷ ns) = gcons (gnum n) (name_code ns)

abbrev name_back : Gv → List ℕ
name_back gnil = []
name_back (gnum n) = []
name_back (gcons a b) = number a ∷ name_back b

name_back-code : (ns : List ℕ) → name_back (name_code ns) ≡ ns
name_back-code [] = refl
name_back-code (n ∷ ns) = ap (λ ms. n ∷ ms) (name_back-code ns)

abbrev mutual
  type_code : Datatype → Gv
  type_code Unknown = gnum 0
  type_code Int = gnum 1
  type_code Boolean = gnum 2
  type_code Words = gnum 3
  type_code General = gnum 4
  type_code (Array t) = gcons (gnum 0) (type_code t)
  type_code (Record fs) = gcons (gnum 1) (fields_code fs)

  fields_code : FieldTypes → Gv
  fields_code no_fields = gnil
  fields_code (field_then n t fs) = gcons (name_code n) (gcons (type_code t) (fields_code fs))

-- what a tree stands for where a type, the fields of a record, or fields after a name are wanted
record Read : Type 0 where
  type_of : Datatype
  fields : FieldTypes
  after : List ℕ → FieldTypes

abbrev base_of : ℕ → Datatype
base_of zero = Unknown
base_of (suc zero) = Int
base_of (suc (suc zero)) = Boolean
base_of (suc (suc (suc zero))) = Words
base_of (suc (suc (suc (suc n)))) = General

abbrev by_tag : ℕ → Read → Datatype
by_tag zero r = Array r.type_of
by_tag (suc n) r = Record r.fields

abbrev read : Gv → Read
read gnil = record { type_of = Unknown; fields = no_fields; after = λ n. no_fields }
read (gnum k) = record { type_of = base_of k; fields = no_fields; after = λ n. no_fields }
read (gcons a b) = record {
  type_of = by_tag (number a) (read b);
  fields = (read b).after (name_back a);
  after = λ n. field_then n (read a).type_of (read b).fields;
}

abbrev mutual
  read-type_code : (t : Datatype) → (read (type_code t)).type_of ≡ t
  read-type_code Unknown = refl
  read-type_code Int = refl
  read-type_code Boolean = refl
  read-type_code Words = refl
  read-type_code General = refl
  read-type_code (Array t) = ap Array (read-type_code t)
  read-type_code (Record fs) = ap Record (read-fields_code fs)

  read-fields_code : (fs : FieldTypes) → (read (fields_code fs)).fields ≡ fs
  read-fields_code no_fields = refl
  read-fields_code (field_then n t fs) = λ i. field_then (name_back-code n i) (read-type_code t i) (read-fields_code fs i)

-- the code of a type
pub coded_type : Coded Datatype
coded_type = record { code = type_code; inj = λ x y e. sym (read-type_code x) ∙ ap (λ g. (read g).type_of) e ∙ read-type_code y }
