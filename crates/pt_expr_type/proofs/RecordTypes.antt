-- The record of some fields, as the program makes it.
use Rattle.std.proofs.Common.{◌≡◌, ℕ, List, [], ◌∷◌, map, true, false, IsPermutation, refl, sym, ap, subst, ◌∙◌}
use Rattle.std.proofs.lemmas.Simd.{map-map}
use Rattle.std.proofs.lemmas.List.Sorted.{IsPermutation-map}
use Rattle.pt_types.specs.declared.ty.Ty.{Ty}
use Rattle.pt_datatypes.specs.Datatype.{Datatype, Record, types_of, field_then}
use Rattle.pt_datatypes.specs.Normal.{normal, normal_fields, record_of}
use Rattle.pt_datatypes.specs.RecordType.{names, IsRecordType, AreRecordNames}
use Rattle.pt_types.specs.Ty.{type_of, written, entry_of_pair}
use Rattle.pt_datatypes.proofs.Joins.{normal_is_type}
use Rattle.pt_datatypes.proofs.Parts.{record_of-normal}
use Rattle.pt_language.specs.RecordOf.{make_record}
use Rattle.pt_language.specs.ByName.{by_name}
use Rattle.pt_types.specs.Entry.{typed_entry}
use Rattle.pt_language.specs.Typing.{where_true}
use Rattle.pt_language.specs.declared.type_fault.TypeFault.TheVariants.{Clash}
use Rattle.pt_language.specs.Answer.{Gives, Stops, judged}
use Rattle.pt_language.specs.TreeType.{recorded}
use Rattle.pt_language.proofs.Records.{by_name-record}
use Rattle.pt_language.proofs.Making.{make_record-lawful}

abbrev normal_entry : List ℕ × Datatype → List ℕ × Datatype
normal_entry f = (f.0, normal f.1)

normal_fields-types_of : (fs : List (List ℕ × Datatype)) → types_of (map normal_entry fs) ≡ normal_fields (types_of fs)
normal_fields-types_of [] = refl
normal_fields-types_of (f ∷ fs) = ap (field_then f.0 (normal f.1)) (normal_fields-types_of fs)

pub names-typed : (ps : List (List ℕ × Ty)) → map (λ f. f.0) (map typed_entry ps) ≡ map (λ f. f.0) ps
names-typed ps = map-map (λ f. f.0) typed_entry ps

names-written : (ps : List (List ℕ × Ty)) → names (map entry_of_pair ps) ≡ map (λ f. f.0) (map typed_entry ps)
names-written ps = map-map (λ f. f.0) entry_of_pair ps ∙ sym (names-typed ps)

module _ (ps : List (List ℕ × Ty)) (fs : List (List ℕ × Datatype)) (moved : IsPermutation (map entry_of_pair ps) fs) (lawful : IsRecordType fs) where
  make : make_record (map (λ f. f.0) (map typed_entry ps)) ≡ true
  make = subst (λ ns. make_record ns ≡ true) (names-written ps) (make_record-lawful (names (map entry_of_pair ps)) (names fs) (IsPermutation-map (λ f. f.0) (map entry_of_pair ps) fs moved) lawful)

  ordered : by_name (map typed_entry ps) ≡ map normal_entry fs
  ordered = by_name-record (map typed_entry ps) (map normal_entry fs)
      (subst (λ qs. IsPermutation qs (map normal_entry fs)) (map-map normal_entry entry_of_pair ps) (IsPermutation-map normal_entry (map entry_of_pair ps) fs moved))
      (subst AreRecordNames (sym (map-map (λ f. f.0) normal_entry fs)) lawful)

  -- the record of the fields in order, which is normal
  pub recorded-gives : (t : Ty) → written t ≡ record_of (types_of fs) → judged (recorded (map typed_entry ps)) ≡ Gives (type_of t)
  recorded-gives t e =
      let same : record_of (types_of (by_name (map typed_entry ps))) ≡ record_of (types_of fs) = ap (λ gs. record_of (types_of gs)) ordered ∙ ap record_of (normal_fields-types_of fs) ∙ record_of-normal (types_of fs) in
      let is : type_of t ≡ record_of (types_of fs) = ap normal e ∙ normal_is_type (Record (types_of fs)) in
      ap (λ b. judged (where_true b (record_of (types_of (by_name (map typed_entry ps)))))) make ∙ ap Gives (same ∙ sym is)

-- a clash where the names make no record
pub recorded-clash : (ps : List (List ℕ × Ty)) → make_record (map (λ f. f.0) ps) ≡ false → judged (recorded (map typed_entry ps)) ≡ Stops Clash
recorded-clash ps e =
    let no : make_record (map (λ f. f.0) (map typed_entry ps)) ≡ false = ap make_record (names-typed ps) ∙ e in
    ap (λ b. judged (where_true b (record_of (types_of (by_name (map typed_entry ps)))))) no
