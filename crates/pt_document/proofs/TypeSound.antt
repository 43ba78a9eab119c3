-- A text whose words lead to its end is the text of a type.
use Rattle.std.proofs.Common.{◌≡◌, ◌+◌, ◌⊎◌, inl, inr, ℕ, zero, suc, List, [], ◌∷◌, ◌++◌, length, take, drop, Option, Some, None, Bool, true, false, cond, codes, refl, sym, ap, ◌∙◌, subst, append_assoc}
use Rattle.std.specs.List.{prefix_len}
use Rattle.std.proofs.lemmas.List.{take-append-drop}
use Rattle.pt_document.specs.Names.{is_later, has_name}
use Rattle.pt_document.specs.TypeTexts.{TypeTree, int_type, boolean_type, string_type, array_type, record_type, FieldTrees, last_field, one_field, type_text, fields_text, is_field_name, has_names, have_names, IsTextOf}
use Rattle.pt_document.specs.TypeWords.{Open, in_array, in_record, Ends, behind, goes_or, one_more, named_or, field, field_or, or_behind, behind_base, begin, go_on, is_nothing, from_next, leads, is_type_text}
use Rattle.pt_document.proofs.TextWords.{behind_some}
use Rattle.pt_document.proofs.TypeLaws.{wants, after, append_nothing}

-- what is left of a text closes what is open round it
abbrev Closes : List Open → List ℕ → Type 0
Closes [] text = text ≡ []
Closes (in_array ∷ around) text = (rest : List ℕ) × (text ≡ codes ")" ++ rest) × Closes around rest
Closes (in_record names ∷ around) text =
    ((rest : List ℕ) × (text ≡ codes "}" ++ rest) × Closes around rest)
    ⊎ ((fs : FieldTrees) × (rest : List ℕ) × (text ≡ codes ", " ++ (fields_text fs ++ rest)) × (have_names names fs ≡ true) × Closes around rest)

-- the text begins with that of a type, and what is left closes what is open round it
abbrev HasType : List Open → List ℕ → Type 0
HasType around text = (t : TypeTree) × (rest : List ℕ) × (text ≡ type_text t ++ rest) × (has_names t ≡ true) × Closes around rest

-- the same of the fields of a record
abbrev HasFields : List (List ℕ) → List Open → List ℕ → Type 0
HasFields names around text = (fs : FieldTrees) × (rest : List ℕ) × (text ≡ fields_text fs ++ rest) × (have_names names fs ≡ true) × Closes around rest

-- so many words are told apart rightly
record Sound (n : ℕ) : Type 0 where
  wanted : (around : List Open) (text : List ℕ) → leads n (wants around text) ≡ true → HasType around text
  left : (around : List Open) (text : List ℕ) → leads n (after around text) ≡ true → Closes around text

never : false ≡ true → ⊥
never e = cc

-- ---- fields

more_name : (names : List (List ℕ)) (name : List ℕ) (more : List (List ℕ)) → one_more names name ≡ Some more → (is_field_name name ≡ true) × (has_name names name ≡ false) × (names ++ name ∷ [] ≡ more)
more_name names name more e = chosen (is_field_name name) (has_name names name) refl refl e
  where
    chosen : (a b : Bool) → is_field_name name ≡ a → has_name names name ≡ b → cond a (cond b None (Some (names ++ name ∷ []))) None ≡ Some more → (is_field_name name ≡ true) × (has_name names name ≡ false) × (names ++ name ∷ [] ≡ more)
    chosen true false good fresh e = (good, fresh, cc)
    chosen true true good fresh e = absurd cc
    chosen false b good fresh e = absurd cc

-- a field's name, the blanks, its type, and then the end of the record or more fields
fields_from : (names : List (List ℕ)) (around : List Open) (name text rest : List ℕ) → is_field_name name ≡ true → has_name names name ≡ false → text ≡ name ++ (codes " = " ++ rest) → HasType (in_record (names ++ name ∷ []) ∷ around) rest → HasFields names around text
unfolding type_text has_names
fields_from names around name text rest good fresh is (t, left, is_type, named, inl (others, closed, closes)) = (
  last_field name t,
  others,
  is ∙ ap (λ (s : List ℕ). name ++ (codes " = " ++ s)) (is_type ∙ ap (λ (s : List ℕ). type_text t ++ s) closed)
      ∙ sym (append_assoc name (codes " = " ++ (type_text t ++ codes "}")) others ∙ ap (λ (s : List ℕ). name ++ (codes " = " ++ s)) (append_assoc (type_text t) (codes "}") others)),
  rw (good, fresh, named) refl,
  closes,
)
fields_from names around name text rest good fresh is (t, left, is_type, named, inr (fs, others, more, fields_named, closes)) = (
  one_field name t fs,
  others,
  is ∙ ap (λ (s : List ℕ). name ++ (codes " = " ++ s)) (is_type ∙ ap (λ (s : List ℕ). type_text t ++ s) more)
      ∙ sym (append_assoc name (codes " = " ++ (type_text t ++ (codes ", " ++ fields_text fs))) others ∙ ap (λ (s : List ℕ). name ++ (codes " = " ++ s)) (append_assoc (type_text t) (codes ", " ++ fields_text fs) others)),
  rw (good, fresh, named, fields_named) refl,
  closes,
)

field_sound : (n : ℕ) → Sound n → (names : List (List ℕ)) (around : List Open) (text : List ℕ) → from_next (λ p. leads n p) (field names around text) ≡ true → HasFields names around text
unfolding field
field_sound n sound names around text e = by_name (one_more names (take (prefix_len is_later text) text)) refl e
  where
    by_rest : (more : List (List ℕ)) → one_more names (take (prefix_len is_later text) text) ≡ Some more → (o : Option (List ℕ)) → behind (codes " = ") (drop (prefix_len is_later text) text) ≡ o → from_next (λ p. leads n p) (goes_or true (in_record more ∷ around) o (Ends false)) ≡ true → HasFields names around text
    by_rest more is None back e = absurd (never e)
    by_rest more is (Some rest) back e =
        let t = more_name names (take (prefix_len is_later text) text) more is in
        let whole : text ≡ take (prefix_len is_later text) text ++ (codes " = " ++ rest) = sym (take-append-drop (prefix_len is_later text) text) ∙ ap (λ (s : List ℕ). take (prefix_len is_later text) text ++ s) (behind_some (codes " = ") (drop (prefix_len is_later text) text) rest back) in
        fields_from names around (take (prefix_len is_later text) text) text rest t.0 t.1 whole (subst (λ (m : List (List ℕ)). HasType (in_record m ∷ around) rest) (sym t.2) (sound.wanted (in_record more ∷ around) rest e))

    by_name : (o : Option (List (List ℕ))) → one_more names (take (prefix_len is_later text) text) ≡ o → from_next (λ p. leads n p) (named_or around o (drop (prefix_len is_later text) text)) ≡ true → HasFields names around text
    by_name None is e = absurd (never e)
    by_name (Some more) is e = by_rest more is (behind (codes " = ") (drop (prefix_len is_later text) text)) refl e

-- ---- types

base_sound : (text rest : List ℕ) → behind_base text ≡ Some rest → (t : TypeTree) × (text ≡ type_text t ++ rest) × (has_names t ≡ true)
unfolding type_text has_names
base_sound text rest e = by_int (behind (codes "int") text) refl e
  where
    by_string : behind (codes "string") text ≡ Some rest → (t : TypeTree) × (text ≡ type_text t ++ rest) × (has_names t ≡ true)
    by_string is = (string_type, behind_some (codes "string") text rest is, refl)

    by_boolean : (o : Option (List ℕ)) → behind (codes "boolean") text ≡ o → or_behind o (behind (codes "string") text) ≡ Some rest → (t : TypeTree) × (text ≡ type_text t ++ rest) × (has_names t ≡ true)
    by_boolean None is e = by_string e
    by_boolean (Some s) is e = let same : s ≡ rest = cc in (boolean_type, behind_some (codes "boolean") text rest (is ∙ ap Some same), refl)

    by_int : (o : Option (List ℕ)) → behind (codes "int") text ≡ o → or_behind o (or_behind (behind (codes "boolean") text) (behind (codes "string") text)) ≡ Some rest → (t : TypeTree) × (text ≡ type_text t ++ rest) × (has_names t ≡ true)
    by_int None is e = by_boolean (behind (codes "boolean") text) refl e
    by_int (Some s) is e = let same : s ≡ rest = cc in (int_type, behind_some (codes "int") text rest (is ∙ ap Some same), refl)

begin_sound : (n : ℕ) → Sound n → (around : List Open) (text : List ℕ) → from_next (λ p. leads n p) (begin around text) ≡ true → HasType around text
unfolding begin type_text has_names
begin_sound n sound around text e = by_base (behind_base text) refl e
  where
    by_record : (o : Option (List ℕ)) → behind (codes "{") text ≡ o → from_next (λ p. leads n p) (field_or [] around o) ≡ true → HasType around text
    by_record None is e = absurd (never e)
    by_record (Some rest) is e =
        let h = field_sound n sound [] around rest e in
        (record_type h.0, h.1, behind_some (codes "{") text rest is ∙ ap (λ (s : List ℕ). codes "{" ++ s) h.2, h.3, h.4)

    by_array : (o : Option (List ℕ)) → behind (codes "arrayType(") text ≡ o → from_next (λ p. leads n p) (goes_or true (in_array ∷ around) o (field_or [] around (behind (codes "{") text))) ≡ true → HasType around text
    by_array None is e = by_record (behind (codes "{") text) refl e
    by_array (Some rest) is e =
        let h = sound.wanted (in_array ∷ around) rest e in
        let c = h.4 in
        (array_type h.0, c.0, behind_some (codes "arrayType(") text rest is ∙ ap (λ (s : List ℕ). codes "arrayType(" ++ s) (h.2 ∙ ap (λ (s : List ℕ). type_text h.0 ++ s) c.1 ∙ sym (append_assoc (type_text h.0) (codes ")") c.0)), h.3, c.2)

    by_base : (o : Option (List ℕ)) → behind_base text ≡ o → from_next (λ p. leads n p) (goes_or false around o (goes_or true (in_array ∷ around) (behind (codes "arrayType(") text) (field_or [] around (behind (codes "{") text)))) ≡ true → HasType around text
    by_base None is e = by_array (behind (codes "arrayType(") text) refl e
    by_base (Some rest) is e = let b = base_sound text rest is in (b.0, rest, b.1, b.2, sound.left around rest e)

left_sound : (n : ℕ) → Sound n → (around : List Open) (text : List ℕ) → from_next (λ p. leads n p) (go_on around text) ≡ true → Closes around text
unfolding go_on
left_sound n sound [] text e = nothing text e
  where
    nothing : (s : List ℕ) → is_nothing s ≡ true → s ≡ []
    nothing [] e = refl
    nothing (c ∷ s) e = absurd (never e)
left_sound n sound (in_array ∷ around) text e = by_rest (behind (codes ")") text) refl e
  where
    by_rest : (o : Option (List ℕ)) → behind (codes ")") text ≡ o → from_next (λ p. leads n p) (goes_or false around o (Ends false)) ≡ true → Closes (in_array ∷ around) text
    by_rest None is e = absurd (never e)
    by_rest (Some rest) is e = (rest, behind_some (codes ")") text rest is, sound.left around rest e)
left_sound n sound (in_record names ∷ around) text e = by_end (behind (codes "}") text) refl e
  where
    by_more : (o : Option (List ℕ)) → behind (codes ", ") text ≡ o → from_next (λ p. leads n p) (field_or names around o) ≡ true → Closes (in_record names ∷ around) text
    by_more None is e = absurd (never e)
    by_more (Some rest) is e =
        let h = field_sound n sound names around rest e in
        inr (h.0, h.1, behind_some (codes ", ") text rest is ∙ ap (λ (s : List ℕ). codes ", " ++ s) h.2, h.3, h.4)

    by_end : (o : Option (List ℕ)) → behind (codes "}") text ≡ o → from_next (λ p. leads n p) (goes_or false around o (field_or names around (behind (codes ", ") text))) ≡ true → Closes (in_record names ∷ around) text
    by_end None is e = by_more (behind (codes ", ") text) refl e
    by_end (Some rest) is e = inl (rest, behind_some (codes "}") text rest is, sound.left around rest e)

sound : (n : ℕ) → Sound n
unfolding leads
sound zero = record { wanted = λ around text e. absurd (never e); left = λ around text e. absurd (never e) }
sound (suc n) = record { wanted = λ around text e. begin_sound n (sound n) around text e; left = λ around text e. left_sound n (sound n) around text e }

-- A text that is taken is that of a type.
pub taken_is_text : (text : List ℕ) → is_type_text text ≡ true → (t : TypeTree) × IsTextOf text t
unfolding is_type_text
taken_is_text text e =
    let h = (sound (length text + 1)).wanted [] text e in
    (h.0, record { named = h.3; same = h.2 ∙ ap (λ (s : List ℕ). type_text h.0 ++ s) h.4 ∙ append_nothing (type_text h.0) })
