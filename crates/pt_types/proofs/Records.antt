-- Fields in the order of their names, as a record type.
use Rattle.std.proofs.Common.{◌≡◌, ℕ, ◌+◌, ◌<◌, List, [], ◌∷◌, ◌++◌, length, get_or, map, All, Contains, IsPermutation, IsSortedByKey, count_by, cond, refl, sym, ap, subst, ◌∙◌, arith, append_assoc}
use Rattle.std.specs.Str.{bytes_eq}
use Rattle.std.specs.List.{AllAdjacentBelow}
use Rattle.std.specs.Ordering.{nat_cmp}
use Rattle.std.specs.Cmp.Lexicographic.{slice_cmp}
use Rattle.std.proofs.lemmas.List.{length-map, map-append, get_or_default}
use Rattle.std.proofs.lemmas.Simd.{map-map}
use Rattle.std.proofs.lemmas.List.Elements.{Contains-append_right}
use Rattle.std.proofs.Math.ListN.{get_or-map}
use Rattle.std.proofs.lemmas.List.Sorted.{IsPermutation-map, sum_by-IsPermutation}
use Rattle.pt_value.specs.Name.{IsName}
use Rattle.pt_value.specs.Record.{IsBelow, IsRepeated}
use Rattle.pt_value.proofs.Names.{IsBelow-from_sorted, IsBelow-trans, count_by-neighbours}
use Rattle.pt_value.proofs.Records.{AllPairs-from_adjacent}
use Rattle.pt_types.specs.declared.record.FieldTy.{FieldTy}
use Rattle.pt_types.specs.declared.ty.Ty.{Ty}
use Rattle.pt_types.specs.declared.ty.Ty.TheVariants as ty
use Rattle.pt_datatypes.specs.RecordType.{names, IsRecordType}
use Rattle.pt_types.specs.Ty.{entry_of, entry_of_pair}

-- some field of a name, which stands for one past the end
abbrev field_of : List ℕ → FieldTy
field_of n = record { name = n; ty = ty.Int }

-- the names of fields, one by one
pub names-at : (xs : List FieldTy) (k : ℕ) (n : List ℕ) → get_or (names (map entry_of xs)) k n ≡ (get_or xs k (field_of n)).name
names-at xs k n = get_or-map (λ f. f.0) (map entry_of xs) k (entry_of (field_of n)) ∙ ap (λ f. f.0) (get_or-map entry_of xs k (field_of n))

pub length-names : (xs : List FieldTy) → length (names (map entry_of xs)) ≡ length xs
length-names xs = length-map (map entry_of xs) (λ f. f.0) ∙ length-map xs entry_of

-- fields under names, sorted by them, no two neighbours of one name
pub IsRecordType-from_sorted : (xs : List FieldTy) → 0 < length xs → All (λ f. IsName f.name) xs → IsSortedByKey (λ f. f.name) (slice_cmp nat_cmp) xs → AllAdjacentBelow (λ e f. e.name ≡ f.name → ⊥) xs (length xs) → IsRecordType (map entry_of xs)
IsRecordType-from_sorted xs some named sorted differ = record {
  some = rw length-names some;
  named = λ k n short. rw (names-at xs k n) (named k (field_of n) (omega (arith, length-names xs)));
  ascending = AllPairs-from_adjacent IsBelow IsBelow-trans (names (map entry_of xs)) (λ k n short.
      let here : k + 1 < length xs = omega (arith, length-names xs) in
      rw (names-at xs k n, names-at xs (k + 1) n) (IsBelow-from_sorted _ _ (sorted k (field_of n) (omega arith) here) (differ k (field_of n) here)));
}

-- the names of pairs, by way of the fields made of them
pub names-of_pairs : (xs : List FieldTy) (ps : List (List ℕ × Ty)) → map entry_of xs ≡ map entry_of_pair ps → names (map entry_of xs) ≡ map (λ p. p.0) ps
names-of_pairs xs ps e = ap names e ∙ map-map (λ f. f.0) entry_of_pair ps

-- two neighbours of one name, once the fields are sorted
pub IsRepeated-from_sorted : (list xs : List FieldTy) (ps : List (List ℕ × Ty)) (i : ℕ) (f : FieldTy) → map entry_of list ≡ map entry_of_pair ps → IsPermutation list xs → i + 1 < length xs → ((d : FieldTy) → (get_or xs i d).name ≡ (get_or xs (i + 1) d).name) → f ≡ get_or xs i f → IsRepeated (map (λ p. p.0) ps) f.name
IsRepeated-from_sorted list xs ps i f e moved short same is =
    let first : (get_or xs i (field_of [])).name ≡ f.name = ap (λ (g : FieldTy). g.name) (get_or_default xs i (field_of []) f (omega arith) ∙ sym is) in
    let twice : 1 < count_by (bytes_eq f.name) (names (map entry_of xs)) = count_by-neighbours (names (map entry_of xs)) i f.name (omega (arith, length-names xs)) (names-at xs i [] ∙ first) (names-at xs (i + 1) [] ∙ sym (same (field_of [])) ∙ first) in
    let kept = sum_by-IsPermutation (λ m. cond (bytes_eq f.name m) 1 0) _ _ (IsPermutation-map (λ p. p.0) _ _ (IsPermutation-map entry_of list xs moved)) in
    subst (λ ns. 1 < count_by (bytes_eq f.name) ns) (names-of_pairs list ps e) (omega arith)

-- one more field, of what is left
pub entries-push : (xs : List FieldTy) (p : List ℕ × Ty) (rest ps : List (List ℕ × Ty)) → map entry_of xs ++ map entry_of_pair (p ∷ rest) ≡ map entry_of_pair ps → map entry_of (xs ++ record { name = p.0; ty = p.1 } ∷ []) ++ map entry_of_pair rest ≡ map entry_of_pair ps
entries-push xs p rest ps e = simp (map-append, append_assoc) e

-- the first of what is left is one of the names
pub Contains-left : (xs : List FieldTy) (p : List ℕ × Ty) (rest ps : List (List ℕ × Ty)) → map entry_of xs ++ map entry_of_pair (p ∷ rest) ≡ map entry_of_pair ps → Contains (map (λ q. q.0) ps) p.0
Contains-left xs p rest ps e =
    let h : Contains (names (map entry_of xs) ++ names (map entry_of_pair (p ∷ rest))) p.0 = Contains-append_right (names (map entry_of xs)) (names (map entry_of_pair (p ∷ rest))) p.0 (0, omega arith, refl) in
    subst (λ ns. Contains ns p.0) (sym (map-append (λ q. q.0) (map entry_of xs) (map entry_of_pair (p ∷ rest))) ∙ ap names e ∙ map-map (λ q. q.0) entry_of_pair ps) h
