-- The parts of a type are types.
use Rattle.std.proofs.Common.{◌≡◌, ℕ, zero, suc, ◌<◌, ◌≤◌, inl, inr, sym, true, ◌&&◌, List, [], ◌∷◌, length, map, get_or, leb, subst, arith}
use Rattle.std.proofs.lemmas.Bool.{le-leb}
use Rattle.pt_types.specs.declared.record.FieldTy.{FieldTy}
use Rattle.pt_datatypes.specs.Datatype.{Datatype, Array, Record, General, FieldTypes, types_of, depth, depth_of_fields, nodes, nodes_of_fields}
use Rattle.pt_datatypes.specs.Normal.{is_plain, are_plain, is_proper, IsType}
use Rattle.pt_types.specs.Ty.{written, entry_of}
use Rattle.pt_datatypes.proofs.Fields.{and_left, and_right, and_both}
use Rattle.pt_datatypes.proofs.Joins.{normal-proper, type_cases, proper-plain, proper-depth, proper-nodes}

proper-from : (t : Datatype) → is_plain t ≡ true → depth t ≤ 8 → nodes t ≤ 1024 → is_proper t ≡ true
proper-from t plain deep many = and_both (is_plain t) (leb (depth t) 8 && leb (nodes t) 1024) plain (and_both (leb (depth t) 8) (leb (nodes t) 1024) (le-leb (depth t) 8 deep) (le-leb (nodes t) 1024 many))

not_general : (t : Datatype) → Array t ≡ General → ⊥
not_general t e = cc

record-not_general : (fs : FieldTypes) → Record fs ≡ General → ⊥
record-not_general fs e = cc

pub element_is_type : (t : Datatype) → IsType (Array t) → IsType t
element_is_type t is = elim (type_cases (Array t) is) [
  | inl p ↦ normal-proper t (proper-from t (proper-plain (Array t) p) (omega (arith, proper-depth (Array t) p)) (omega (arith, proper-nodes (Array t) p)))
  | inr e ↦ absurd (not_general t e)
]

-- the types of fields that are plain, no deeper than 8 and with no more than 1,024 nodes together
pub record AreProper (fs : FieldTypes) : Type 0 where
  pub plain : are_plain fs ≡ true
  pub deep : depth_of_fields fs ≤ 8
  pub many : nodes_of_fields fs ≤ 1024

pub fields_are_proper : (fs : FieldTypes) → IsType (Record fs) → AreProper fs
fields_are_proper fs is = elim (type_cases (Record fs) is) [
  | inl p ↦ record { plain = proper-plain (Record fs) p; deep = omega (arith, proper-depth (Record fs) p); many = omega (arith, proper-nodes (Record fs) p) }
  | inr e ↦ absurd (record-not_general fs e)
]

field-at : (fs : List FieldTy) (i : ℕ) (f : FieldTy) → AreProper (types_of (map entry_of fs)) → i < length fs → f ≡ get_or fs i f → IsType (written f.ty)
field-at [] i f h short is = absurd (omega arith)
field-at (g ∷ fs) zero f h short is =
    let t = written g.ty in
    let deep : depth t ≤ 8 = omega (arith, h.deep) in
    let many : nodes t ≤ 1024 = omega (arith, h.many) in
    let here : IsType t = normal-proper t (proper-from t (and_left (is_plain t) (are_plain (types_of (map entry_of fs))) h.plain) deep many) in
    subst (λ (u : FieldTy). IsType (written u.ty)) (sym is) here
field-at (g ∷ fs) (suc i) f h short is =
    let t = written g.ty in
    field-at fs i f (record { plain = and_right (is_plain t) (are_plain (types_of (map entry_of fs))) h.plain; deep = omega (arith, h.deep); many = omega (arith, h.many) }) (omega arith) is

-- a field of a record
pub field_is_type : (fs : List FieldTy) (i : ℕ) (f : FieldTy) (gs : List (List ℕ × Datatype)) → map entry_of fs ≡ gs → IsType (Record (types_of gs)) → i < length fs → f ≡ get_or fs i f → IsType (written f.ty)
field_is_type fs i f gs e is short at = field-at fs i f (subst (λ hs. AreProper (types_of hs)) (sym e) (fields_are_proper (types_of gs) is)) short at
