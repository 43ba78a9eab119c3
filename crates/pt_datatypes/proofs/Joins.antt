-- The join is the least type above both.
use Rattle.std.proofs.Common.{◌≡◌, ◌≤◌, ◌⊎◌, inl, inr, Bool, true, false, ◌&&◌, refl, sym, ap, subst, ◌∙◌, leb, arith}
use Rattle.std.specs.Str.{bytes_eq}
use Rattle.std.proofs.lemmas.Bool.{leb-true, le-leb}
use Rattle.pt_datatypes.specs.Datatype.{Datatype, Unknown, Int, Boolean, Words, Array, Record, General, FieldTypes, no_fields, field_then, depth, depth_of_fields, nodes, nodes_of_fields}
use Rattle.pt_datatypes.specs.Order.{is_below, are_below, IsBelow}
use Rattle.pt_datatypes.specs.Normal.{is_plain, are_plain, is_proper, normal, IsType}
use Rattle.pt_datatypes.specs.Join.{same_names, joined, joined_fields, join, IsJoin}
use Rattle.pt_datatypes.proofs.Fields.{and_left, and_right, and_both}
use Rattle.pt_datatypes.proofs.Order.{bytes_eq-refl, bytes_eq-sym, bytes_eq-trans, below-refl, are_below-refl, below-General, below-trans}

pub bool_cases : (b : Bool) → (b ≡ true) ⊎ (b ≡ false)
bool_cases true = inl refl
bool_cases false = inr refl

-- ---- part by part

above_first : (t : Datatype) → IsBelow General (joined General t)
above_first Unknown = refl
above_first t = refl

keep : (s u : Datatype) → IsBelow s u → IsBelow (joined s Unknown) u
keep Unknown u h = refl
keep s u h = h

mutual
  pub joined-first : (s t : Datatype) → IsBelow s (joined s t)
  joined-first Unknown t = refl
  joined-first Int Unknown = refl
  joined-first Boolean Unknown = refl
  joined-first Words Unknown = refl
  joined-first (Array s) Unknown = below-refl s
  joined-first (Record fs) Unknown = are_below-refl fs
  joined-first General t = above_first t
  joined-first (Array s) (Array t) = joined-first s t
  joined-first (Record fs) (Record gs) =
      elim (bool_cases (same_names fs gs)) [ inl e ↦ rw e (fields-first fs gs) | inr e ↦ rw e refl ]
  joined-first Int Int = refl
  joined-first Boolean Boolean = refl
  joined-first Words Words = refl
  joined-first s t = refl

  fields-first : (fs gs : FieldTypes) → are_below fs (joined_fields fs gs) ≡ true
  fields-first no_fields gs = refl
  fields-first (field_then m s fs) no_fields = are_below-refl (field_then m s fs)
  fields-first (field_then m s fs) (field_then n t gs) = and_both _ _ (and_both _ _ (bytes_eq-refl m) (joined-first s t)) (fields-first fs gs)

mutual
  pub joined-second : (s t : Datatype) → IsBelow t (joined s t)
  joined-second Unknown t = below-refl t
  joined-second s Unknown = refl
  joined-second (Array s) (Array t) = joined-second s t
  joined-second (Record fs) (Record gs) =
      elim (bool_cases (same_names fs gs)) [ inl e ↦ rw e (fields-second fs gs e) | inr e ↦ rw e refl ]
  joined-second s t = refl

  fields-second : (fs gs : FieldTypes) → same_names fs gs ≡ true → are_below gs (joined_fields fs gs) ≡ true
  fields-second no_fields no_fields e = refl
  fields-second (field_then m s fs) (field_then n t gs) e =
      and_both _ _ (and_both _ _ (bytes_eq-sym m n (and_left _ _ e)) (joined-second s t)) (fields-second fs gs (and_right (bytes_eq m n) _ e))
  fields-second fs gs e = cc

-- two records below one have the same names
same_names-below : (fs gs hs : FieldTypes) → are_below fs hs ≡ true → are_below gs hs ≡ true → same_names fs gs ≡ true
same_names-below no_fields no_fields hs h k = refl
same_names-below (field_then l s fs) (field_then m t gs) (field_then n u hs) h k =
    let a = and_left (bytes_eq l n && is_below s u) (are_below fs hs) h in
    let b = and_left (bytes_eq m n && is_below t u) (are_below gs hs) k in
    and_both _ _ (bytes_eq-trans l n m (and_left _ _ a) (bytes_eq-sym m n (and_left _ _ b))) (same_names-below fs gs hs (and_right _ _ h) (and_right _ _ k))
same_names-below no_fields (field_then m t gs) no_fields h k = cc
same_names-below no_fields (field_then m t gs) (field_then n u hs) h k = cc
same_names-below (field_then l s fs) no_fields no_fields h k = cc
same_names-below (field_then l s fs) no_fields (field_then n u hs) h k = cc
same_names-below (field_then l s fs) (field_then m t gs) no_fields h k = cc

mutual
  pub joined-least : (s t u : Datatype) → IsBelow s u → IsBelow t u → IsBelow (joined s t) u
  joined-least Unknown t u h k = k
  joined-least s Unknown u h k = keep s u h
  joined-least s t General h k = below-General (joined s t)
  joined-least Int Int u h k = h
  joined-least Boolean Boolean u h k = h
  joined-least Words Words u h k = h
  joined-least (Array s) (Array t) (Array u) h k = joined-least s t u h k
  joined-least (Record fs) (Record gs) (Record hs) h k =
      rw (same_names-below fs gs hs h k) (fields-least fs gs hs h k)
  joined-least s t u h k = let e : ⊥ = cc in absurd e

  fields-least : (fs gs hs : FieldTypes) → are_below fs hs ≡ true → are_below gs hs ≡ true → are_below (joined_fields fs gs) hs ≡ true
  fields-least no_fields gs hs h k = h
  fields-least (field_then l s fs) no_fields hs h k = h
  fields-least (field_then l s fs) (field_then m t gs) (field_then n u hs) h k =
      let a = and_left (bytes_eq l n && is_below s u) (are_below fs hs) h in
      let b = and_left (bytes_eq m n && is_below t u) (are_below gs hs) k in
      and_both _ _ (and_both _ _ (and_left _ _ a) (joined-least s t u (and_right (bytes_eq l n) _ a) (and_right (bytes_eq m n) _ b))) (fields-least fs gs hs (and_right _ _ h) (and_right _ _ k))
  fields-least (field_then l s fs) (field_then m t gs) no_fields h k = cc

-- ---- normal forms

pub normal-proper : (t : Datatype) → is_proper t ≡ true → normal t ≡ t
normal-proper t e = rw e refl

pub normal-not_proper : (t : Datatype) → is_proper t ≡ false → normal t ≡ General
normal-not_proper t e = rw e refl

-- a type is proper or general
pub type_cases : (t : Datatype) → IsType t → (is_proper t ≡ true) ⊎ (t ≡ General)
type_cases t h = elim (bool_cases (is_proper t)) [ inl e ↦ inl e | inr e ↦ inr (sym h ∙ normal-not_proper t e) ]

pub normal_is_type : (t : Datatype) → IsType (normal t)
normal_is_type t = elim (bool_cases (is_proper t)) [ inl e ↦ ap normal (normal-proper t e) | inr e ↦ ap normal (normal-not_proper t e) ∙ sym (normal-not_proper t e) ]

pub below-normal : (t : Datatype) → IsBelow t (normal t)
below-normal t = elim (bool_cases (is_proper t)) [ inl e ↦ subst (λ u. IsBelow t u) (sym (normal-proper t e)) (below-refl t) | inr e ↦ subst (λ u. IsBelow t u) (sym (normal-not_proper t e)) (below-General t) ]

nodes-some : (t : Datatype) → 1 ≤ nodes t
nodes-some Unknown = omega arith
nodes-some Int = omega arith
nodes-some Boolean = omega arith
nodes-some Words = omega arith
nodes-some (Array t) = omega arith
nodes-some (Record fs) = omega arith
nodes-some General = omega arith

-- what is below a plain type is plain, no deeper and no larger
mutual
  pub plain-below : (s t : Datatype) → IsBelow s t → is_plain t ≡ true → is_plain s ≡ true
  plain-below Unknown t h p = refl
  plain-below s General h p = cc
  plain-below Int t h p = refl
  plain-below Boolean t h p = refl
  plain-below Words t h p = refl
  plain-below (Array s) (Array t) h p = plain-below s t h p
  plain-below (Record fs) (Record gs) h p = are_plain-below fs gs h p
  plain-below s t h p = cc

  are_plain-below : (fs gs : FieldTypes) → are_below fs gs ≡ true → are_plain gs ≡ true → are_plain fs ≡ true
  are_plain-below no_fields gs h p = refl
  are_plain-below (field_then m s fs) no_fields h p = cc
  are_plain-below (field_then m s fs) (field_then n t gs) h p =
      let a = and_left (bytes_eq m n && is_below s t) (are_below fs gs) h in
      and_both _ _ (plain-below s t (and_right (bytes_eq m n) _ a) (and_left _ _ p)) (are_plain-below fs gs (and_right _ _ h) (and_right (is_plain t) _ p))

mutual
  pub depth-below : (s t : Datatype) → IsBelow s t → is_plain t ≡ true → depth s ≤ depth t
  depth-below Unknown t h p = omega arith
  depth-below s General h p = cc
  depth-below Int t h p = omega arith
  depth-below Boolean t h p = omega arith
  depth-below Words t h p = omega arith
  depth-below (Array s) (Array t) h p = omega (arith, depth-below s t h p)
  depth-below (Record fs) (Record gs) h p = omega (arith, depths-below fs gs h p)
  depth-below s t h p = cc

  depths-below : (fs gs : FieldTypes) → are_below fs gs ≡ true → are_plain gs ≡ true → depth_of_fields fs ≤ depth_of_fields gs
  depths-below no_fields gs h p = omega arith
  depths-below (field_then m s fs) no_fields h p = cc
  depths-below (field_then m s fs) (field_then n t gs) h p =
      let a = and_left (bytes_eq m n && is_below s t) (are_below fs gs) h in
      omega (arith, depth-below s t (and_right (bytes_eq m n) _ a) (and_left _ _ p), depths-below fs gs (and_right _ _ h) (and_right (is_plain t) _ p))

mutual
  pub nodes-below : (s t : Datatype) → IsBelow s t → is_plain t ≡ true → nodes s ≤ nodes t
  nodes-below Unknown t h p = nodes-some t
  nodes-below s General h p = cc
  nodes-below Int t h p = nodes-some t
  nodes-below Boolean t h p = nodes-some t
  nodes-below Words t h p = nodes-some t
  nodes-below (Array s) (Array t) h p = omega (arith, nodes-below s t h p)
  nodes-below (Record fs) (Record gs) h p = omega (arith, many_nodes-below fs gs h p)
  nodes-below s t h p = cc

  many_nodes-below : (fs gs : FieldTypes) → are_below fs gs ≡ true → are_plain gs ≡ true → nodes_of_fields fs ≤ nodes_of_fields gs
  many_nodes-below no_fields gs h p = omega arith
  many_nodes-below (field_then m s fs) no_fields h p = cc
  many_nodes-below (field_then m s fs) (field_then n t gs) h p =
      let a = and_left (bytes_eq m n && is_below s t) (are_below fs gs) h in
      omega (arith, nodes-below s t (and_right (bytes_eq m n) _ a) (and_left _ _ p), many_nodes-below fs gs (and_right _ _ h) (and_right (is_plain t) _ p))

pub proper-plain : (t : Datatype) → is_proper t ≡ true → is_plain t ≡ true
proper-plain t p = and_left (is_plain t) (leb (depth t) 8 && leb (nodes t) 1024) p

pub proper-depth : (t : Datatype) → is_proper t ≡ true → depth t ≤ 8
proper-depth t p = leb-true (depth t) 8 (and_left (leb (depth t) 8) (leb (nodes t) 1024) (and_right (is_plain t) (leb (depth t) 8 && leb (nodes t) 1024) p))

pub proper-nodes : (t : Datatype) → is_proper t ≡ true → nodes t ≤ 1024
proper-nodes t p = leb-true (nodes t) 1024 (and_right (leb (depth t) 8) (leb (nodes t) 1024) (and_right (is_plain t) (leb (depth t) 8 && leb (nodes t) 1024) p))

-- proper types are closed downwards
pub proper-below : (s t : Datatype) → IsBelow s t → is_proper t ≡ true → is_proper s ≡ true
proper-below s t h p =
    let plain = proper-plain t p in
    let deep : depth s ≤ 8 = omega (arith, depth-below s t h plain, proper-depth t p) in
    let many : nodes s ≤ 1024 = omega (arith, nodes-below s t h plain, proper-nodes t p) in
    and_both (is_plain s) (leb (depth s) 8 && leb (nodes s) 1024) (plain-below s t h plain) (and_both (leb (depth s) 8) (leb (nodes s) 1024) (le-leb (depth s) 8 deep) (le-leb (nodes s) 1024 many))

-- what is below a type has its normal form below it
pub normal-least : (s u : Datatype) → IsType u → IsBelow s u → IsBelow (normal s) u
normal-least s u t h = elim (type_cases u t) [ inl p ↦ subst (λ v. IsBelow v u) (sym (normal-proper s (proper-below s u h p))) h | inr e ↦ subst (λ v. IsBelow (normal s) v) (sym e) (below-General (normal s)) ]

pub normal-below : (s t : Datatype) → IsBelow s t → IsBelow (normal s) (normal t)
normal-below s t h = normal-least s (normal t) (normal_is_type t) (below-trans s t (normal t) h (below-normal t))

pub join-is_join : (s t : Datatype) → IsJoin s t (join s t)
join-is_join s t = record {
  is_type = normal_is_type (joined s t);
  first = below-trans s (joined s t) (join s t) (joined-first s t) (below-normal (joined s t));
  second = below-trans t (joined s t) (join s t) (joined-second s t) (below-normal (joined s t));
  least = λ u is h k. normal-least (joined s t) u is (joined-least s t u h k);
}

pub join-below : (s t u v : Datatype) → IsBelow s u → IsBelow t v → IsBelow (join s t) (join u v)
join-below s t u v h k = normal-below (joined s t) (joined u v) (joined-least s t (joined u v) (below-trans s u (joined u v) h (joined-first u v)) (below-trans t v (joined u v) k (joined-second u v)))
