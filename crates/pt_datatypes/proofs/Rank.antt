-- How far up a type stands: each strict step up raises it, and it is at most 1,025.
use Rattle.std.proofs.Common.{◌≡◌, ◌≤◌, ◌<◌, ◌⊎◌, inl, inr, true, ◌&&◌, refl, sym, ap, ◌∙◌, arith}
use Rattle.std.specs.Str.{bytes_eq}
use Rattle.pt_datatypes.specs.Datatype.{Datatype, Unknown, Int, Boolean, Words, Array, Record, General, FieldTypes, no_fields, field_then, nodes, nodes_of_fields}
use Rattle.pt_datatypes.specs.Order.{is_below, are_below, IsBelow}
use Rattle.pt_datatypes.specs.Rank.{rank, rank_of_fields}
use Rattle.pt_datatypes.specs.Normal.{is_plain, are_plain, IsType}
use Rattle.pt_datatypes.proofs.Fields.{and_left, and_right}
use Rattle.pt_datatypes.proofs.Order.{same_bytes}
use Rattle.pt_datatypes.proofs.Joins.{type_cases, proper-plain, proper-nodes}

mutual
  pub rank-nodes : (t : Datatype) → is_plain t ≡ true → rank t ≤ nodes t
  rank-nodes Unknown p = omega arith
  rank-nodes Int p = omega arith
  rank-nodes Boolean p = omega arith
  rank-nodes Words p = omega arith
  rank-nodes (Array t) p = omega (arith, rank-nodes t p)
  rank-nodes (Record fs) p = omega (arith, ranks-nodes fs p)
  rank-nodes General p = cc

  ranks-nodes : (fs : FieldTypes) → are_plain fs ≡ true → rank_of_fields fs ≤ nodes_of_fields fs
  ranks-nodes no_fields p = omega arith
  ranks-nodes (field_then n t fs) p = omega (arith, rank-nodes t (and_left _ _ p), ranks-nodes fs (and_right (is_plain t) _ p))

mutual
  pub rank-plain : (s t : Datatype) → IsBelow s t → is_plain t ≡ true → (s ≡ t) ⊎ (rank s < rank t)
  rank-plain Unknown Unknown h p = inl refl
  rank-plain Unknown General h p = cc
  rank-plain Unknown Int h p = inr (omega arith)
  rank-plain Unknown Boolean h p = inr (omega arith)
  rank-plain Unknown Words h p = inr (omega arith)
  rank-plain Unknown (Array t) h p = inr (omega arith)
  rank-plain Unknown (Record fs) h p = inr (omega arith)
  rank-plain s General h p = cc
  rank-plain Int Int h p = inl refl
  rank-plain Boolean Boolean h p = inl refl
  rank-plain Words Words h p = inl refl
  rank-plain (Array s) (Array t) h p = elim (rank-plain s t h p) [ inl e ↦ inl (ap Array e) | inr low ↦ inr (omega (arith, low)) ]
  rank-plain (Record fs) (Record gs) h p = elim (ranks-plain fs gs h p) [ inl e ↦ inl (ap Record e) | inr low ↦ inr (omega (arith, low)) ]
  rank-plain s t h p = cc

  ranks-plain : (fs gs : FieldTypes) → are_below fs gs ≡ true → are_plain gs ≡ true → (fs ≡ gs) ⊎ (rank_of_fields fs < rank_of_fields gs)
  ranks-plain no_fields no_fields h p = inl refl
  ranks-plain no_fields (field_then n t gs) h p = cc
  ranks-plain (field_then m s fs) no_fields h p = cc
  ranks-plain (field_then m s fs) (field_then n t gs) h p =
      let a = and_left (bytes_eq m n && is_below s t) (are_below fs gs) h in
      elim (rank-plain s t (and_right (bytes_eq m n) _ a) (and_left _ _ p)) [
        | inl e ↦ elim (ranks-plain fs gs (and_right _ _ h) (and_right (is_plain t) _ p)) [
          | inl f ↦ inl (λ i. field_then (same_bytes m n (and_left _ _ a) i) (e i) (f i))
          | inr low ↦ inr (omega (arith, ap rank e, low))
        ]
        | inr low ↦ elim (ranks-plain fs gs (and_right _ _ h) (and_right (is_plain t) _ p)) [
          | inl f ↦ inr (omega (arith, ap rank_of_fields f, low))
          | inr lower ↦ inr (omega (arith, low, lower))
        ]
      ]

pub rank-type : (t : Datatype) → IsType t → rank t ≤ 1025
rank-type t is = elim (type_cases t is) [ inl p ↦ omega (arith, rank-nodes t (proper-plain t p), proper-nodes t p) | inr e ↦ omega (arith, ap rank e) ]

-- a strict step up raises the rank
pub rank-above : (s t : Datatype) → IsType s → IsType t → IsBelow s t → (s ≡ t) ⊎ (rank s < rank t)
rank-above s t is it h = elim (type_cases t it) [
  | inl p ↦ rank-plain s t h (proper-plain t p)
  | inr e ↦ elim (type_cases s is) [
    | inl p ↦ inr (omega (arith, rank-nodes s (proper-plain s p), proper-nodes s p, ap rank e))
    | inr f ↦ inl (f ∙ sym e)
  ]
]
