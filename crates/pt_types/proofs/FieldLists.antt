-- Fields of the program side by side.
use Rattle.std.proofs.Common.{◌≡◌, ℕ, suc, ◌+◌, ◌<◌, ◌≤◌, List, [], ◌∷◌, ◌++◌, length, get_or, drop, map, sym, ap, ◌∙◌, add-one, drop-cons, append_assoc}
use Rattle.std.proofs.lemmas.List.{length-map, map-append, append-nil}
use Rattle.std.proofs.Math.ListN.{drop_of_length-le}
use Rattle.pt_types.specs.Ty.{entry_of, written}
use Rattle.pt_types.specs.declared.record.FieldTy.{FieldTy}
use Rattle.pt_datatypes.specs.Datatype.{Datatype, FieldTypes, types_of, fields_of}
use Rattle.pt_datatypes.specs.Join.{joined, joined_fields}

-- the front of what is left
pub drop-at : (xs : List FieldTy) (i : ℕ) (x : FieldTy) → i < length xs → x ≡ get_or xs i x → drop i xs ≡ x ∷ drop (i + 1) xs
drop-at xs i x short is = rw add-one (drop-cons xs i x short ∙ ap (λ y. y ∷ drop (suc i) xs) (sym is))

pub length-view : (xs : List FieldTy) (fs : List (List ℕ × Datatype)) → map entry_of xs ≡ fs → length xs ≡ length fs
length-view xs fs e = sym (length-map xs entry_of) ∙ ap length e

-- one more field joined
pub joined-step : (done xs ys : List FieldTy) (i : ℕ) (x y f : FieldTy) (whole : List (List ℕ × Datatype)) → i < length xs → i < length ys → x ≡ get_or xs i x → y ≡ get_or ys i y → entry_of f ≡ (x.name, joined (written x.ty) (written y.ty)) → map entry_of done ++ fields_of (joined_fields (types_of (map entry_of (drop i xs))) (types_of (map entry_of (drop i ys)))) ≡ whole → map entry_of (done ++ f ∷ []) ++ fields_of (joined_fields (types_of (map entry_of (drop (i + 1) xs))) (types_of (map entry_of (drop (i + 1) ys)))) ≡ whole
joined-step done xs ys i x y f whole short short2 is is2 e h =
    let k = rw (drop-at xs i x short is, drop-at ys i y short2 is2) at h in
    simp (map-append, append_assoc) (rw e k)

-- all fields joined
pub joined-end : (done xs : List FieldTy) (i : ℕ) (gs j : FieldTypes) → length xs ≤ i → map entry_of done ++ fields_of (joined_fields (types_of (map entry_of (drop i xs))) gs) ≡ fields_of j → map entry_of done ≡ fields_of j
joined-end done xs i gs j past h = sym (append-nil (map entry_of done)) ∙ rw (drop_of_length-le xs past) at h
