-- The order of types is a partial order with a least and a greatest type.
use Rattle.std.proofs.Common.{◌≡◌, ℕ, true, ◌&&◌, List, refl, sym, ap, ◌∙◌}
use Rattle.std.specs.Str.{bytes_eq}
use Rattle.std.proofs.lemmas.Slice.Eq.{bytes_eq-Decides}
use Rattle.pt_datatypes.specs.Datatype.{Datatype, Unknown, Int, Boolean, Words, Array, Record, General, FieldTypes, no_fields, field_then}
use Rattle.pt_datatypes.specs.Order.{is_below, are_below, IsBelow}
use Rattle.pt_datatypes.proofs.Fields.{and_left, and_right, and_both}

pub same_bytes : (m n : List ℕ) → bytes_eq m n ≡ true → m ≡ n
same_bytes m n = (bytes_eq-Decides m n).0

pub bytes_eq-refl : (n : List ℕ) → bytes_eq n n ≡ true
bytes_eq-refl n = (bytes_eq-Decides n n).1 refl

pub bytes_eq-sym : (m n : List ℕ) → bytes_eq m n ≡ true → bytes_eq n m ≡ true
bytes_eq-sym m n e = (bytes_eq-Decides n m).1 (sym (same_bytes m n e))

pub bytes_eq-trans : (l m n : List ℕ) → bytes_eq l m ≡ true → bytes_eq m n ≡ true → bytes_eq l n ≡ true
bytes_eq-trans l m n d e = (bytes_eq-Decides l n).1 (same_bytes l m d ∙ same_bytes m n e)

mutual
  pub below-refl : (t : Datatype) → IsBelow t t
  below-refl Unknown = refl
  below-refl Int = refl
  below-refl Boolean = refl
  below-refl Words = refl
  below-refl (Array t) = below-refl t
  below-refl (Record fs) = are_below-refl fs
  below-refl General = refl

  pub are_below-refl : (fs : FieldTypes) → are_below fs fs ≡ true
  are_below-refl no_fields = refl
  are_below-refl (field_then n t fs) = and_both _ _ (and_both _ _ (bytes_eq-refl n) (below-refl t)) (are_below-refl fs)

pub below-General : (t : Datatype) → IsBelow t General
below-General Unknown = refl
below-General Int = refl
below-General Boolean = refl
below-General Words = refl
below-General (Array t) = refl
below-General (Record fs) = refl
below-General General = refl

-- what is above general is above all
pub above-General : (s u : Datatype) → IsBelow General u → IsBelow s u
above-General s General h = below-General s
above-General s _ h = cc

mutual
  pub below-trans : (s t u : Datatype) → IsBelow s t → IsBelow t u → IsBelow s u
  below-trans Unknown t u h k = refl
  below-trans s General u h k = above-General s u k
  below-trans Int Int u h k = k
  below-trans Boolean Boolean u h k = k
  below-trans Words Words u h k = k
  below-trans (Array s) (Array t) (Array u) h k = below-trans s t u h k
  below-trans (Array s) (Array t) General h k = refl
  below-trans (Record fs) (Record gs) (Record hs) h k = are_below-trans fs gs hs h k
  below-trans (Record fs) (Record gs) General h k = refl
  below-trans s t u h k = cc

  pub are_below-trans : (fs gs hs : FieldTypes) → are_below fs gs ≡ true → are_below gs hs ≡ true → are_below fs hs ≡ true
  are_below-trans no_fields no_fields hs h k = k
  are_below-trans (field_then l s fs) (field_then m t gs) (field_then n u hs) h k =
      let a = and_left (bytes_eq l m && is_below s t) (are_below fs gs) h in
      let b = and_left (bytes_eq m n && is_below t u) (are_below gs hs) k in
      and_both _ _ (and_both _ _ (bytes_eq-trans l m n (and_left _ _ a) (and_left _ _ b)) (below-trans s t u (and_right (bytes_eq l m) _ a) (and_right (bytes_eq m n) _ b))) (are_below-trans fs gs hs (and_right _ _ h) (and_right _ _ k))
  are_below-trans fs gs hs h k = cc

mutual
  pub below-antisymm : (s t : Datatype) → IsBelow s t → IsBelow t s → s ≡ t
  below-antisymm Unknown Unknown h k = refl
  below-antisymm Int Int h k = refl
  below-antisymm Boolean Boolean h k = refl
  below-antisymm Words Words h k = refl
  below-antisymm (Array s) (Array t) h k = ap Array (below-antisymm s t h k)
  below-antisymm (Record fs) (Record gs) h k = ap Record (are_below-antisymm fs gs h k)
  below-antisymm General General h k = refl
  below-antisymm s t h k = cc

  pub are_below-antisymm : (fs gs : FieldTypes) → are_below fs gs ≡ true → are_below gs fs ≡ true → fs ≡ gs
  are_below-antisymm no_fields no_fields h k = refl
  are_below-antisymm (field_then m s fs) (field_then n t gs) h k =
      let a = and_left (bytes_eq m n && is_below s t) (are_below fs gs) h in
      let b = and_left (bytes_eq n m && is_below t s) (are_below gs fs) k in
      λ i. field_then (same_bytes m n (and_left _ _ a) i) (below-antisymm s t (and_right (bytes_eq m n) _ a) (and_right (bytes_eq n m) _ b) i) (are_below-antisymm fs gs (and_right _ _ h) (and_right _ _ k) i)
  are_below-antisymm fs gs h k = cc
