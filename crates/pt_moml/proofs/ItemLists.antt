-- Lists that are read item by item.
use Rattle.std.proofs.Common.{◌≡◌, ◌<◌, ◌⊎◌, ◌||◌, inl, inr, List, [], ◌∷◌, ◌++◌, ℕ, zero, suc, Result, Ok, Err, Option, Some, Bool, true, false, cond, map, codes, refl, sym, ap, ◌∙◌, append_assoc, arith, bytes_eq}
use Rattle.std.specs.Prelude.{option_and_then}
use Rattle.std.proofs.lemmas.Slice.Eq.{bytes_eq-Decides}
use Rattle.serde_json.specs.Data.{Data, Items, no_items, item}
use Rattle.serde_json.specs.Find.{get_item}
use Rattle.pt_document.specs.declared.refusal.Refusal.{Refusal}
use Rattle.pt_document.specs.Names.{has_name, are_distinct_after}
use Rattle.pt_moml.specs.Fields.{items_at}
use Rattle.pt_moml.specs.Stands.{text_in, HasRepeatedName}
use Rattle.pt_document.proofs.Chains.{bind_err, bind_ok}

-- a list that isn't read has an item that isn't
pub items_told : {A : Type 0} (read : Data → Result A Refusal) (done : List A) (ds : Items) (r : Refusal) → items_at read done ds ≡ Err r → (i : ℕ) × (x : Data) × (get_item i ds ≡ Some x) × (read x ≡ Err r)
items_told read done no_items r e = absurd cc
items_told read done (item d ds) r e =
    elim (bind_err (read d) (λ x. items_at read (done ++ x ∷ []) ds) r e) [
      | inl h ↦ (zero, d, refl, h)
      | inr h ↦ (let t = items_told read (done ++ h.0 ∷ []) ds r h.2 in (suc t.0, t.1, t.2, t.3))
    ]

-- each item of a list that is read is read
pub items_clean : {A : Type 0} (read : Data → Result A Refusal) (done : List A) (ds : Items) (xs : List A) → items_at read done ds ≡ Ok xs → (i : ℕ) (x : Data) → get_item i ds ≡ Some x → (a : A) × (read x ≡ Ok a)
items_clean read done no_items xs e i x is = absurd cc
items_clean read done (item d ds) xs e zero x is =
    let h = bind_ok (read d) (λ x. items_at read (done ++ x ∷ []) ds) xs e in
    let same : d ≡ x = cc in
    (h.0, sym (ap read same) ∙ h.1)
items_clean read done (item d ds) xs e (suc i) x is =
    let h = bind_ok (read d) (λ x. items_at read (done ++ x ∷ []) ds) xs e in
    items_clean read (done ++ h.0 ∷ []) ds xs h.2 i x is

-- these are the names of the items
abbrev pub AreNames : List (List ℕ) → Items → Type 0
AreNames [] no_items = Unit {0}
AreNames [] (item d ds) = ⊥
AreNames (n ∷ ns) no_items = ⊥
AreNames (n ∷ ns) (item d ds) = (text_in (codes "name") d ≡ Some n) × AreNames ns ds

-- the items that are read have the names that stand there
pub items_named : {A : Type 0} (read : Data → Result A Refusal) (name : A → List ℕ) → ((x : Data) (a : A) → read x ≡ Ok a → text_in (codes "name") x ≡ Some (name a)) → (done : List A) (ds : Items) (xs : List A) → items_at read done ds ≡ Ok xs
    → (ys : List A) × (xs ≡ done ++ ys) × AreNames (map name ys) ds
items_named read name named done no_items xs e = let same : done ≡ xs = cc in ([], sym same ∙ sym (append_nil done), tt)
  where
    append_nil : {A : Type 0} (zs : List A) → zs ++ [] ≡ zs
    append_nil [] = refl
    append_nil (z ∷ zs) = ap (λ ws. z ∷ ws) (append_nil zs)
items_named read name named done (item d ds) xs e =
    let h = bind_ok (read d) (λ x. items_at read (done ++ x ∷ []) ds) xs e in
    let t = items_named read name named (done ++ h.0 ∷ []) ds xs h.2 in
    (h.0 ∷ t.0, t.1 ∙ append_assoc done (h.0 ∷ []) t.0, (named d h.0 h.1, t.2))

-- ---- names that differ

abbrev pub item_name : ℕ → Items → Option (List ℕ)
item_name i ds = option_and_then (text_in (codes "name")) (get_item i ds)

pub has_name-push : (seen : List (List ℕ)) (n s : List ℕ) → has_name (seen ++ n ∷ []) s ≡ true → (has_name seen s ≡ true) ⊎ (s ≡ n)
has_name-push [] n s h = chosen (bytes_eq s n) refl h
  where
    chosen : (b : Bool) → bytes_eq s n ≡ b → (b || false) ≡ true → (has_name [] s ≡ true) ⊎ (s ≡ n)
    chosen true is h = inr ((bytes_eq-Decides s n).0 is)
    chosen false is h = inl h
has_name-push (m ∷ seen) n s h = chosen (bytes_eq s m) (λ g. has_name-push seen n s g) h
  where
    chosen : (b : Bool) → (has_name (seen ++ n ∷ []) s ≡ true → (has_name seen s ≡ true) ⊎ (s ≡ n)) → (b || has_name (seen ++ n ∷ []) s) ≡ true → ((b || has_name seen s) ≡ true) ⊎ (s ≡ n)
    chosen true rest h = inl refl
    chosen false rest h = rest h

pub has_name-old : (seen : List (List ℕ)) (n s : List ℕ) → has_name seen s ≡ true → has_name (seen ++ n ∷ []) s ≡ true
has_name-old [] n s h = absurd cc
has_name-old (m ∷ seen) n s h = chosen (bytes_eq s m) (λ g. has_name-old seen n s g) h
  where
    chosen : (b : Bool) → (has_name seen s ≡ true → has_name (seen ++ n ∷ []) s ≡ true) → (b || has_name seen s) ≡ true → (b || has_name (seen ++ n ∷ []) s) ≡ true
    chosen true rest h = refl
    chosen false rest h = rest h

pub has_name-new : (seen : List (List ℕ)) (n : List ℕ) → has_name (seen ++ n ∷ []) n ≡ true
has_name-new [] n = ap (λ b. b || false) ((bytes_eq-Decides n n).1 refl)
has_name-new (m ∷ seen) n = chosen (bytes_eq n m) (has_name-new seen n)
  where
    chosen : (b : Bool) → has_name (seen ++ n ∷ []) n ≡ true → (b || has_name (seen ++ n ∷ []) n) ≡ true
    chosen true h = refl
    chosen false h = h

-- a name among these that was seen before, or two that are the same
abbrev Repeats : List (List ℕ) → Items → Type 0
Repeats seen ds = ((i : ℕ) × (s : List ℕ) × (item_name i ds ≡ Some s) × (has_name seen s ≡ true)) ⊎ HasRepeatedName ds

repeats : (seen ns : List (List ℕ)) (ds : Items) → AreNames ns ds → are_distinct_after seen ns ≡ false → Repeats seen ds
repeats seen [] no_items names e = absurd cc
repeats seen [] (item d ds) names e = absurd names
repeats seen (n ∷ ns) no_items names e = absurd names
repeats seen (n ∷ ns) (item d ds) names e = chosen (has_name seen n) refl (λ g. repeats (seen ++ n ∷ []) ns ds names.1 g) e
  where
    later : Repeats (seen ++ n ∷ []) ds → Repeats seen (item d ds)
    later (inl (i, s, is, there)) =
        elim (has_name-push seen n s there) [
          | inl old ↦ inl (suc i, s, is, old)
          | inr same ↦ inr (record { first = zero; second = suc i; apart = omega arith; repeated = s; first_name = names.0 ∙ ap Some (sym same); second_name = is })
        ]
    later (inr h) = inr (record { first = suc h.first; second = suc h.second; apart = omega (arith, h.apart); repeated = h.repeated; first_name = h.first_name; second_name = h.second_name })

    chosen : (b : Bool) → has_name seen n ≡ b → (are_distinct_after (seen ++ n ∷ []) ns ≡ false → Repeats (seen ++ n ∷ []) ds) → cond b false (are_distinct_after (seen ++ n ∷ []) ns) ≡ false → Repeats seen (item d ds)
    chosen true is rest e = inl (zero, n, names.0, is)
    chosen false is rest e = later (rest e)

-- names that don't differ are repeated
pub not_distinct : (ns : List (List ℕ)) (ds : Items) → AreNames ns ds → are_distinct_after [] ns ≡ false → HasRepeatedName ds
not_distinct ns ds names e = elim (repeats [] ns ds names e) [ inl (i, s, is, there) ↦ absurd (none s there) | inr h ↦ h ]
  where
    none : (s : List ℕ) → has_name [] s ≡ true → ⊥
    none s h = cc

seen_before : (seen ns : List (List ℕ)) (ds : Items) → AreNames ns ds → are_distinct_after seen ns ≡ true → (i : ℕ) (s : List ℕ) → item_name i ds ≡ Some s → has_name seen s ≡ true → ⊥
seen_before seen [] no_items names e i s is there = absurd cc
seen_before seen [] (item d ds) names e i s is there = absurd names
seen_before seen (n ∷ ns) no_items names e i s is there = absurd names
seen_before seen (n ∷ ns) (item d ds) names e zero s is there =
    let same : n ≡ s = cc in chosen (has_name seen n) (ap (has_name seen) same ∙ there) e
  where
    chosen : (b : Bool) → b ≡ true → cond b false (are_distinct_after (seen ++ n ∷ []) ns) ≡ true → ⊥
    chosen true h e = cc
    chosen false h e = cc
seen_before seen (n ∷ ns) (item d ds) names e (suc i) s is there =
    chosen (has_name seen n) (λ g. seen_before (seen ++ n ∷ []) ns ds names.1 g i s is (has_name-old seen n s there)) e
  where
    chosen : (b : Bool) → (are_distinct_after (seen ++ n ∷ []) ns ≡ true → ⊥) → cond b false (are_distinct_after (seen ++ n ∷ []) ns) ≡ true → ⊥
    chosen true rest e = cc
    chosen false rest e = rest e

differ : (seen ns : List (List ℕ)) (ds : Items) → AreNames ns ds → are_distinct_after seen ns ≡ true → (i j : ℕ) → i < j → (s : List ℕ) → item_name i ds ≡ Some s → item_name j ds ≡ Some s → ⊥
differ seen [] no_items names e i j apart s one two = absurd cc
differ seen [] (item d ds) names e i j apart s one two = absurd names
differ seen (n ∷ ns) no_items names e i j apart s one two = absurd names
differ seen (n ∷ ns) (item d ds) names e i zero apart s one two = absurd (omega arith)
differ seen (n ∷ ns) (item d ds) names e zero (suc j) apart s one two =
    let same : n ≡ s = cc in
    chosen (has_name seen n) (λ g. seen_before (seen ++ n ∷ []) ns ds names.1 g j s two (ap (has_name (seen ++ n ∷ [])) (sym same) ∙ has_name-new seen n)) e
  where
    chosen : (b : Bool) → (are_distinct_after (seen ++ n ∷ []) ns ≡ true → ⊥) → cond b false (are_distinct_after (seen ++ n ∷ []) ns) ≡ true → ⊥
    chosen true rest e = cc
    chosen false rest e = rest e
differ seen (n ∷ ns) (item d ds) names e (suc i) (suc j) apart s one two =
    chosen (has_name seen n) (λ g. differ (seen ++ n ∷ []) ns ds names.1 g i j (omega (arith, apart)) s one two) e
  where
    chosen : (b : Bool) → (are_distinct_after (seen ++ n ∷ []) ns ≡ true → ⊥) → cond b false (are_distinct_after (seen ++ n ∷ []) ns) ≡ true → ⊥
    chosen true rest e = cc
    chosen false rest e = rest e

-- names that differ aren't repeated
pub distinct_clean : (ns : List (List ℕ)) (ds : Items) → AreNames ns ds → are_distinct_after [] ns ≡ true → HasRepeatedName ds → ⊥
distinct_clean ns ds names e h = differ [] ns ds names e h.first h.second h.apart h.repeated h.first_name h.second_name
