-- Fields in the order of their names, as a record.
use Rattle.std.proofs.Common.{◌≡◌, ℕ, zero, suc, ◌+◌, ◌-◌, ◌<◌, List, [], ◌∷◌, ◌++◌, length, get_or, map, All, Contains, AllPairs, IsPermutation, IsSortedByKey, count_by, Some, None, cond, pos, refl, sym, ap, subst, ◌∙◌, arith, append_assoc, is_lt, inl, inr}
use Rattle.std.specs.Str.{bytes_eq}
use Rattle.std.specs.List.{AllAdjacentBelow}
use Rattle.std.specs.List.Sorted.{IsPartitionPoint}
use Rattle.std.specs.declared.cmp.Ordering.{Ordering}
use Rattle.std.specs.declared.cmp.Ordering.TheVariants.{Less, Equal, Greater}
use Rattle.std.proofs.lemmas.Bool.{cases_lt}
use Rattle.std.specs.Ordering.{nat_cmp, ordering_reverse}
use Rattle.std.specs.Cmp.Lexicographic.{slice_cmp, nat_list_cmp_total}
use Rattle.std.proofs.lemmas.List.{length-map, map-append, get_or_default}
use Rattle.std.proofs.lemmas.Simd.{map-map}
use Rattle.std.proofs.lemmas.List.Elements.{Contains-append_right}
use Rattle.std.proofs.Math.ListN.{get_or-map}
use Rattle.std.proofs.lemmas.List.Sorted.{IsPermutation-map, sum_by-IsPermutation}
use Rattle.pt_value.specs.declared.fields.Field.{Field}
use Rattle.pt_value.specs.declared.token.Token.{Token}
use Rattle.pt_value.specs.declared.token.Token.TheVariants as token
use Rattle.pt_value.specs.Token.{value_of, entry_of, entry_of_pair}
use Rattle.pt_value.specs.Name.{IsName}
use Rattle.pt_value.specs.Record.{IsRecord, IsBelow, IsRepeated, names, field_at}
use Rattle.pt_value.proofs.Names.{compare, Equal-same, same-Equal, bytes_eq-same, bytes_eq-differ, IsBelow-from_sorted, IsBelow-trans, IsBelow-differ, count_by-neighbours}

-- some field of a name, which stands for one past the end
abbrev field_of : List ℕ → Field
field_of n = record { name = n; value = token.Int (pos 0) }

-- the names of fields, one by one
pub names-at : (xs : List Field) (k : ℕ) (n : List ℕ) → get_or (names (map entry_of xs)) k n ≡ (get_or xs k (field_of n)).name
names-at xs k n = get_or-map (λ f. f.0) (map entry_of xs) k (entry_of (field_of n)) ∙ ap (λ f. f.0) (get_or-map entry_of xs k (field_of n))

pub length-names : (xs : List Field) → length (names (map entry_of xs)) ≡ length xs
length-names xs = length-map (map entry_of xs) (λ f. f.0) ∙ length-map xs entry_of

-- a chain of neighbours, each related to the next, relates each with each later one
module _ {X : Type 0} (R : X → X → Type 0) (trans : (x y z : X) → R x y → R y z → R x z) (xs : List X) (h : AllAdjacentBelow R xs (length xs)) where
  along : (i m : ℕ) (d : X) → (i + 1) + m < length xs → R (get_or xs i d) (get_or xs ((i + 1) + m) d)
  along i zero d short = let e : (i + 1) + 0 ≡ i + 1 = omega arith in rw e (h i d (omega arith))
  along i (suc m) d short = let e : (i + 1) + suc m ≡ ((i + 1) + m) + 1 = omega arith in rw e (trans _ _ _ (along i m d (omega arith)) (h ((i + 1) + m) d (omega arith)))

  pub AllPairs-from_adjacent : AllPairs R xs
  AllPairs-from_adjacent i j d lt short = let e : (i + 1) + (j - (i + 1)) ≡ j = omega arith in subst (λ k. R (get_or xs i d) (get_or xs k d)) e (along i (j - (i + 1)) d (omega arith))

-- fields under names, sorted by them, no two neighbours of one name
pub IsRecord-from_sorted : (xs : List Field) → 0 < length xs → All (λ f. IsName f.name) xs → IsSortedByKey (λ f. f.name) (slice_cmp nat_cmp) xs → AllAdjacentBelow (λ e f. e.name ≡ f.name → ⊥) xs (length xs) → IsRecord (map entry_of xs)
IsRecord-from_sorted xs some named sorted differ = record {
  some = rw length-map some;
  named = λ k n short. rw (names-at xs k n) (named k (field_of n) (omega (arith, length-names xs)));
  ascending = AllPairs-from_adjacent IsBelow IsBelow-trans (names (map entry_of xs)) (λ k n short.
      let here : k + 1 < length xs = omega (arith, length-names xs) in
      rw (names-at xs k n, names-at xs (k + 1) n) (IsBelow-from_sorted _ _ (sorted k (field_of n) (omega arith) here) (differ k (field_of n) here)));
}

-- the names of pairs, by way of the fields made of them
pub names-of_pairs : (xs : List Field) (ps : List (List ℕ × Token)) → map entry_of xs ≡ map entry_of_pair ps → names (map entry_of xs) ≡ map (λ p. p.0) ps
names-of_pairs xs ps e = ap names e ∙ map-map (λ f. f.0) entry_of_pair ps

-- two neighbours of one name, once the fields are sorted
pub IsRepeated-from_sorted : (list xs : List Field) (ps : List (List ℕ × Token)) (i : ℕ) (f : Field) → map entry_of list ≡ map entry_of_pair ps → IsPermutation list xs → i + 1 < length xs → ((d : Field) → (get_or xs i d).name ≡ (get_or xs (i + 1) d).name) → f ≡ get_or xs i f → IsRepeated (map (λ p. p.0) ps) f.name
IsRepeated-from_sorted list xs ps i f e moved short same is =
    let first : (get_or xs i (field_of [])).name ≡ f.name = ap (λ (g : Field). g.name) (get_or_default xs i (field_of []) f (omega arith) ∙ sym is) in
    let twice : 1 < count_by (bytes_eq f.name) (names (map entry_of xs)) = count_by-neighbours (names (map entry_of xs)) i f.name (omega (arith, length-names xs)) (names-at xs i [] ∙ first) (names-at xs (i + 1) [] ∙ sym (same (field_of [])) ∙ first) in
    let kept = sum_by-IsPermutation (λ m. cond (bytes_eq f.name m) 1 0) _ _ (IsPermutation-map (λ p. p.0) _ _ (IsPermutation-map entry_of list xs moved)) in
    subst (λ ns. 1 < count_by (bytes_eq f.name) ns) (names-of_pairs list ps e) (omega arith)

-- one more field, of what is left
pub entries-push : (xs : List Field) (p : List ℕ × Token) (rest ps : List (List ℕ × Token)) → map entry_of xs ++ map entry_of_pair (p ∷ rest) ≡ map entry_of_pair ps → map entry_of (xs ++ record { name = p.0; value = p.1 } ∷ []) ++ map entry_of_pair rest ≡ map entry_of_pair ps
entries-push xs p rest ps e = simp (map-append, append_assoc) e

-- the first of what is left is one of the names
pub Contains-left : (xs : List Field) (p : List ℕ × Token) (rest ps : List (List ℕ × Token)) → map entry_of xs ++ map entry_of_pair (p ∷ rest) ≡ map entry_of_pair ps → Contains (map (λ q. q.0) ps) p.0
Contains-left xs p rest ps e =
    let h : Contains (names (map entry_of xs) ++ names (map entry_of_pair (p ∷ rest))) p.0 = Contains-append_right (names (map entry_of xs)) (names (map entry_of_pair (p ∷ rest))) p.0 (0, omega arith, refl) in
    subst (λ ns. Contains ns p.0) (sym (map-append (λ q. q.0) (map entry_of xs) (map entry_of_pair (p ∷ rest))) ∙ ap names e ∙ map-map (λ q. q.0) entry_of_pair ps) h

-- what stands under a name: nothing where no field has it, else the value of the first field that has it
pub field_at-none : (xs : List Field) (n : List ℕ) → All (λ f. f.name ≡ n → ⊥) xs → field_at (map entry_of xs) n ≡ None
field_at-none [] n h = refl
field_at-none (f ∷ xs) n h = rw (bytes_eq-differ f.name n (h 0 f (omega arith))) (field_at-none xs n (λ k d s. h (suc k) d (omega arith)))

pub field_at-first : (xs : List Field) (n : List ℕ) (i : ℕ) (f : Field) → i < length xs → f ≡ get_or xs i f → f.name ≡ n → ((k : ℕ) (d : Field) → k < i → (get_or xs k d).name ≡ n → ⊥) → field_at (map entry_of xs) n ≡ Some (value_of f.value)
field_at-first [] n i f short is e h = absurd (omega arith)
field_at-first (g ∷ xs) n zero f short is e h = rw (← is, bytes_eq-same f.name n e)
field_at-first (g ∷ xs) n (suc i) f short is e h = rw (bytes_eq-differ g.name n (h 0 f (omega arith))) (field_at-first xs n i f (omega arith) is e (λ k d s. h (suc k) d (omega arith)))

-- names ascend, so no field before has the same name
pub IsRecord-before : (xs : List Field) (i : ℕ) (f : Field) → IsRecord (map entry_of xs) → i < length xs → f ≡ get_or xs i f → (k : ℕ) (d : Field) → k < i → (get_or xs k d).name ≡ f.name → ⊥
IsRecord-before xs i f r short is k d before e =
    let there : (get_or xs k (field_of [])).name ≡ f.name = ap (λ (g : Field). g.name) (get_or_default xs k (field_of []) d (omega arith)) ∙ e in
    let here : (get_or xs i (field_of [])).name ≡ f.name = ap (λ (g : Field). g.name) (get_or_default xs i (field_of []) f short ∙ sym is) in
    IsBelow-differ _ _ (r.ascending k i [] before (omega (arith, length-names xs))) (names-at xs k [] ∙ there ∙ sym (names-at xs i [] ∙ here))

-- fields in the order of their names are sorted by them
pub IsSorted-from_IsRecord : (xs : List Field) → IsRecord (map entry_of xs) → IsSortedByKey (λ f. f.name) compare xs
IsSorted-from_IsRecord xs r k d low short =
    let below = r.ascending k (k + 1) [] (omega arith) (omega (arith, length-names xs)) in
    let first : (get_or xs k d).name ≡ get_or (names (map entry_of xs)) k [] = ap (λ (f : Field). f.name) (get_or_default xs k d (field_of []) (omega arith)) ∙ sym (names-at xs k []) in
    let second : (get_or xs (k + 1) d).name ≡ get_or (names (map entry_of xs)) (k + 1) [] = ap (λ (f : Field). f.name) (get_or_default xs (k + 1) d (field_of []) short) ∙ sym (names-at xs (k + 1) []) in
    rw (first, second) (ap is_lt (nat_list_cmp_total.antisymm (get_or (names (map entry_of xs)) (k + 1) []) (get_or (names (map entry_of xs)) k [])) ∙ ap (λ o. is_lt (ordering_reverse o)) below)

-- what a search by name finds in a record
pub field_at-found : (xs : List Field) (n : List ℕ) (i : ℕ) (f : Field) → IsRecord (map entry_of xs) → i < length xs → f ≡ get_or xs i f → ((d : Field) → compare (get_or xs i d).name n ≡ Equal) → field_at (map entry_of xs) n ≡ Some (value_of f.value)
field_at-found xs n i f r short is e =
    let same : f.name ≡ n = ap (λ (g : Field). g.name) is ∙ Equal-same (get_or xs i f).name n (e f) in
    field_at-first xs n i f short is same (λ k d before h. IsRecord-before xs i f r short is k d before (h ∙ sym same))

pub field_at-split : (xs : List Field) (n : List ℕ) (i : ℕ) → IsPartitionPoint (λ (f : Field). compare f.name n ≡ Less) (λ f. compare f.name n ≡ Greater) xs i → field_at (map entry_of xs) n ≡ None
field_at-split xs n i h = field_at-none xs n (λ k d short e. differ k d short e)
  where
    differ : (k : ℕ) (d : Field) → k < length xs → (get_or xs k d).name ≡ n → ⊥
    differ k d short e =
        let equal = λ (r : Ordering) (h : compare (get_or xs k d).name n ≡ r). same-Equal (get_or xs k d).name n r h e in
        elim (cases_lt k i) [ inl low ↦ (let c = equal Less (h.0 k d (omega arith) low) in cc) | inr high ↦ (let c = equal Greater (h.1 k d high short) in cc) ]
