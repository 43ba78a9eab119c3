-- Fields of two records side by side.
use Rattle.std.proofs.Common.{◌≡◌, ℕ, suc, Bool, true, false, ◌&&◌, List, [], ◌∷◌, length, refl, ap, ◌∙◌}
use Rattle.std.specs.Str.{bytes_eq}
use Rattle.pt_datatypes.specs.Datatype.{Datatype, FieldTypes, no_fields, field_then, types_of, fields_of}
use Rattle.pt_datatypes.specs.RecordType.{names}
use Rattle.pt_datatypes.specs.Order.{is_below, are_below}
use Rattle.pt_datatypes.specs.Join.{same_names, joined_fields}

pub and_false : (b : Bool) → false ≡ (b && false)
and_false true = refl
and_false false = refl

-- records of different lengths
pub are_below-length : (fs gs : List (List ℕ × Datatype)) → (length fs ≡ length gs → ⊥) → false ≡ are_below (types_of fs) (types_of gs)
are_below-length [] [] d = absurd (d refl)
are_below-length [] (g ∷ gs) d = refl
are_below-length (f ∷ fs) [] d = refl
are_below-length (f ∷ fs) (g ∷ gs) d = and_false _ ∙ ap (λ r. (bytes_eq f.0 g.0 && is_below f.1 g.1) && r) (are_below-length fs gs (λ e. d (ap suc e)))

pub same_names-length : (fs gs : List (List ℕ × Datatype)) → (length fs ≡ length gs → ⊥) → false ≡ same_names (types_of fs) (types_of gs)
same_names-length [] [] d = absurd (d refl)
same_names-length [] (g ∷ gs) d = refl
same_names-length (f ∷ fs) [] d = refl
same_names-length (f ∷ fs) (g ∷ gs) d = and_false _ ∙ ap (λ r. bytes_eq f.0 g.0 && r) (same_names-length fs gs (λ e. d (ap suc e)))

pub and_left : (a b : Bool) → (a && b) ≡ true → a ≡ true
and_left true b e = refl
and_left false b e = e

pub and_right : (a b : Bool) → (a && b) ≡ true → b ≡ true
and_right true b e = e
and_right false b e = cc

pub and_both : (a b : Bool) → a ≡ true → b ≡ true → (a && b) ≡ true
and_both a b d e = rw (d, e) refl

-- records of the same names have the same length
pub length-same_names : (fs gs : List (List ℕ × Datatype)) → same_names (types_of fs) (types_of gs) ≡ true → length fs ≡ length gs
length-same_names [] [] e = refl
length-same_names [] (g ∷ gs) e = cc
length-same_names (f ∷ fs) [] e = cc
length-same_names (f ∷ fs) (g ∷ gs) e = ap suc (length-same_names fs gs (and_right (bytes_eq f.0 g.0) _ e))

-- the join has the names of the first
pub names-joined : (fs : FieldTypes) (gs : FieldTypes) → names (fields_of (joined_fields fs gs)) ≡ names (fields_of fs)
names-joined no_fields gs = refl
names-joined (field_then m s fs) no_fields = refl
names-joined (field_then m s fs) (field_then n t gs) = ap (λ ns. m ∷ ns) (names-joined fs gs)
