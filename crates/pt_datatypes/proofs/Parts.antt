-- An array or a record of what is written is that of the types which this stands for.
use Rattle.std.proofs.Common.{◌≡◌, ◌≤◌, inl, inr, true, false, ◌&&◌, refl, sym, ap, ◌∙◌, leb, arith}
use Rattle.std.proofs.lemmas.Bool.{le-leb}
use Rattle.pt_datatypes.specs.Datatype.{Datatype, Array, Record, FieldTypes, no_fields, field_then, depth, depth_of_fields, nodes, nodes_of_fields}
use Rattle.pt_datatypes.specs.Normal.{is_plain, are_plain, is_proper, normal, normal_fields, array_of, record_of}
use Rattle.pt_datatypes.proofs.Fields.{and_left, and_right, and_both}
use Rattle.pt_datatypes.proofs.Joins.{bool_cases, normal-proper, normal-not_proper, proper-plain, proper-depth, proper-nodes}

differ : true ≡ false → ⊥
differ e = cc

pub proper-from : (t : Datatype) → is_plain t ≡ true → depth t ≤ 8 → nodes t ≤ 1024 → is_proper t ≡ true
proper-from t plain deep many = and_both (is_plain t) (leb (depth t) 8 && leb (nodes t) 1024) plain (and_both (leb (depth t) 8) (leb (nodes t) 1024) (le-leb (depth t) 8 deep) (le-leb (nodes t) 1024 many))

pub element-proper : (t : Datatype) → is_proper (Array t) ≡ true → is_proper t ≡ true
element-proper t p =
    let deep : depth t ≤ 8 = omega (arith, proper-depth (Array t) p) in
    let many : nodes t ≤ 1024 = omega (arith, proper-nodes (Array t) p) in
    proper-from t (proper-plain (Array t) p) deep many

pub array_of-normal : (t : Datatype) → array_of (normal t) ≡ array_of t
array_of-normal t = elim (bool_cases (is_proper t)) [
  | inl e ↦ ap array_of (normal-proper t e)
  | inr e ↦ elim (bool_cases (is_proper (Array t))) [
    | inl p ↦ absurd (differ (sym (element-proper t p) ∙ e))
    | inr f ↦ ap array_of (normal-not_proper t e) ∙ sym (normal-not_proper (Array t) f)
  ]
]

-- a type whose normal form is plain is that form
plain-normal : (t : Datatype) → is_plain (normal t) ≡ true → normal t ≡ t
plain-normal t p = elim (bool_cases (is_proper t)) [
  | inl e ↦ normal-proper t e
  | inr e ↦ absurd (differ (sym p ∙ ap is_plain (normal-not_proper t e)))
]

plain-fields : (fs : FieldTypes) → are_plain (normal_fields fs) ≡ true → normal_fields fs ≡ fs
plain-fields no_fields p = refl
plain-fields (field_then n t fs) p = λ i. field_then n (plain-normal t (and_left (is_plain (normal t)) (are_plain (normal_fields fs)) p) i) (plain-fields fs (and_right (is_plain (normal t)) (are_plain (normal_fields fs)) p) i)

proper-fields : (fs : FieldTypes) → are_plain fs ≡ true → depth_of_fields fs ≤ 8 → nodes_of_fields fs ≤ 1024 → normal_fields fs ≡ fs
proper-fields no_fields p deep many = refl
proper-fields (field_then n t fs) p deep many =
    let here : normal t ≡ t = normal-proper t (proper-from t (and_left (is_plain t) (are_plain fs) p) (omega (arith, deep)) (omega (arith, many))) in
    let rest : normal_fields fs ≡ fs = proper-fields fs (and_right (is_plain t) (are_plain fs) p) (omega (arith, deep)) (omega (arith, many)) in
    λ i. field_then n (here i) (rest i)

pub record_of-normal : (fs : FieldTypes) → record_of (normal_fields fs) ≡ record_of fs
record_of-normal fs = elim (bool_cases (is_proper (Record (normal_fields fs)))) [
  | inl p ↦ ap record_of (plain-fields fs (proper-plain (Record (normal_fields fs)) p))
  | inr e ↦ elim (bool_cases (is_proper (Record fs))) [
    | inl p ↦ (let deep : depth_of_fields fs ≤ 8 = omega (arith, proper-depth (Record fs) p) in
        let many : nodes_of_fields fs ≤ 1024 = omega (arith, proper-nodes (Record fs) p) in
        ap record_of (proper-fields fs (proper-plain (Record fs) p) deep many))
    | inr f ↦ normal-not_proper (Record (normal_fields fs)) e ∙ sym (normal-not_proper (Record fs) f)
  ]
]
