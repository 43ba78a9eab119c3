-- The words of a text lead to its end exactly where it is the text of a type.
use Rattle.std.proofs.Common.{◌≡◌, ◌<◌, ◌≤◌, ◌+◌, ◌-◌, ◌&&◌, ℕ, zero, suc, List, [], ◌∷◌, ◌++◌, length, take, drop, Some, Bool, true, false, not, cond, codes, refl, sym, ap, ◌∙◌, append_assoc, arith, length-append}
use Rattle.std.specs.List.{list_all, prefix_len}
use Rattle.std.proofs.Math.Seq.{take-append_seam, drop-append_seam}
use Rattle.pt_document.specs.Names.{is_name, is_later, has_name}
use Rattle.pt_document.specs.TypeTexts.{TypeTree, int_type, boolean_type, string_type, array_type, record_type, FieldTrees, last_field, one_field, type_text, fields_text, is_field_name, has_names, have_names, IsTextOf}
use Rattle.pt_document.specs.TypeWords.{Open, in_array, in_record, Place, Goes, one_more, named_or, field, begin, go_on, step, from_next, leads, is_type_text}

-- a place where a type is wanted, and one behind a type
abbrev pub wants : List Open → List ℕ → Place
wants around text = record { wants_type = true; around = around; rest = text }

abbrev pub after : List Open → List ℕ → Place
after around text = record { wants_type = false; around = around; rest = text }

-- ---- tests on names

both_true : (a b : Bool) → (a && b) ≡ true → (a ≡ true) × (b ≡ true)
both_true true b h = (refl, h)
both_true false b h = absurd cc

not_true : (b : Bool) → not b ≡ true → b ≡ false
not_true true h = absurd cc
not_true false h = refl

field_letters : (name : List ℕ) → is_field_name name ≡ true → list_all is_later name ≡ true
unfolding is_field_name is_name
field_letters name h = (both_true _ (list_all is_later name) (both_true (is_name name) _ h).0).1

letters_end : (name : List ℕ) (rest : List ℕ) → list_all is_later name ≡ true → prefix_len is_later (name ++ (32 ∷ rest)) ≡ length name
letters_end [] rest h = refl
letters_end (c ∷ name) rest h =
    let t = both_true (is_later c) (list_all is_later name) h in
    ap (λ (b : Bool). cond b (1 + prefix_len is_later (name ++ (32 ∷ rest))) 0) t.0 ∙ (let e = letters_end name rest t.1 in omega arith)

-- ---- from a type to its text

-- So many words at most lead from one place to the other.
abbrev Within : ℕ → Place → Place → Type 0
Within bound p q = (k : ℕ) × (k ≤ bound) × ((n : ℕ) → leads (k + n) p ≡ leads n q)

one_word : (p q : Place) → step p ≡ Goes q → Within 1 p q
unfolding leads
one_word p q is = (1, omega arith, λ n. let one : 1 + n ≡ suc n = omega arith in ap (λ (m : ℕ). leads m p) one ∙ ap (from_next (λ r. leads n r)) is)

further : (a b c : ℕ) (p q r : Place) → a + b ≤ c → Within a p q → Within b q r → Within c p r
further a b c p q r bound one two =
    (one.0 + two.0, omega (arith, one.1, two.1), λ n. let same : (one.0 + two.0) + n ≡ one.0 + (two.0 + n) = omega arith in ap (λ (m : ℕ). leads m p) same ∙ one.2 (two.0 + n) ∙ two.2 n)

field_goes : (names : List (List ℕ)) (around : List Open) (name rest : List ℕ) → is_field_name name ≡ true → has_name names name ≡ false → field names around (name ++ (codes " = " ++ rest)) ≡ Goes (wants (in_record (names ++ name ∷ []) ∷ around) rest)
unfolding field
field_goes names around name rest good fresh =
    let count : prefix_len is_later (name ++ (codes " = " ++ rest)) ≡ length name = letters_end name (61 ∷ 32 ∷ rest) (field_letters name good) in
    let front : take (prefix_len is_later (name ++ (codes " = " ++ rest))) (name ++ (codes " = " ++ rest)) ≡ name = ap (λ (n : ℕ). take n (name ++ (codes " = " ++ rest))) count ∙ take-append_seam name (codes " = " ++ rest) in
    let back : drop (prefix_len is_later (name ++ (codes " = " ++ rest))) (name ++ (codes " = " ++ rest)) ≡ codes " = " ++ rest = ap (λ (n : ℕ). drop n (name ++ (codes " = " ++ rest))) count ∙ drop-append_seam name (codes " = " ++ rest) in
    let more : one_more names name ≡ Some (names ++ name ∷ []) = rw (good, fresh) refl in
    ap (λ (n : List ℕ). named_or around (one_more names n) (drop (prefix_len is_later (name ++ (codes " = " ++ rest))) (name ++ (codes " = " ++ rest)))) front
    ∙ ap (named_or around (one_more names name)) back ∙ ap (λ o. named_or around o (codes " = " ++ rest)) more

-- the place behind the text of a field's type
abbrev field_place : List (List ℕ) → List Open → List ℕ → List ℕ → Place
field_place names around name rest = wants (in_record (names ++ name ∷ []) ∷ around) rest

length_pair : (a b c : List ℕ) → length (a ++ (b ++ c)) ≡ length a + (length b + length c)
length_pair a b c = omega (arith, length-append a (b ++ c), length-append b c)

mutual
  unfolding type_text has_names begin go_on

  type_within : (t : TypeTree) (around : List Open) (rest : List ℕ) → has_names t ≡ true → Within (length (type_text t)) (wants around (type_text t ++ rest)) (after around rest)
  type_within int_type around rest named = further 1 0 3 _ _ _ (omega arith) (one_word (wants around (codes "int" ++ rest)) (after around rest) refl) (0, omega arith, λ n. let same : 0 + n ≡ n = omega arith in ap (λ (m : ℕ). leads m (after around rest)) same)
  type_within boolean_type around rest named = further 1 0 7 _ _ _ (omega arith) (one_word (wants around (codes "boolean" ++ rest)) (after around rest) refl) (0, omega arith, λ n. let same : 0 + n ≡ n = omega arith in ap (λ (m : ℕ). leads m (after around rest)) same)
  type_within string_type around rest named = further 1 0 6 _ _ _ (omega arith) (one_word (wants around (codes "string" ++ rest)) (after around rest) refl) (0, omega arith, λ n. let same : 0 + n ≡ n = omega arith in ap (λ (m : ℕ). leads m (after around rest)) same)
  type_within (array_type t) around rest named =
      let inner : (type_text t ++ codes ")") ++ rest ≡ type_text t ++ (codes ")" ++ rest) = append_assoc (type_text t) (codes ")") rest in
      let first = one_word (wants around ((codes "arrayType(" ++ (type_text t ++ codes ")")) ++ rest)) (wants (in_array ∷ around) (type_text t ++ (codes ")" ++ rest))) (ap (λ (s : List ℕ). Goes (wants (in_array ∷ around) s)) inner) in
      let last = one_word (after (in_array ∷ around) (codes ")" ++ rest)) (after around rest) refl in
      let size : length (codes "arrayType(" ++ (type_text t ++ codes ")")) ≡ 10 + (length (type_text t) + 1) = length_pair (codes "arrayType(") (type_text t) (codes ")") in
      further 1 (length (type_text t) + 1) (length (codes "arrayType(" ++ (type_text t ++ codes ")"))) _ _ _ (omega arith) first
      (further (length (type_text t)) 1 (length (type_text t) + 1) _ _ _ (omega arith) (type_within t (in_array ∷ around) (codes ")" ++ rest) named) last)
  type_within (record_type fs) around rest named =
      let h = fields_within fs [] around rest named in
      let first = one_word (wants around ((codes "{" ++ fields_text fs) ++ rest)) h.0 h.1 in
      let size : length (codes "{" ++ fields_text fs) ≡ 1 + length (fields_text fs) = length-append (codes "{") (fields_text fs) in
      further 1 (length (fields_text fs)) (length (codes "{" ++ fields_text fs)) _ _ _ (omega arith) first h.2

  fields_within : (fs : FieldTrees) (names : List (List ℕ)) (around : List Open) (rest : List ℕ) → have_names names fs ≡ true → (p : Place) × (field names around (fields_text fs ++ rest) ≡ Goes p) × Within (length (fields_text fs)) p (after around rest)
  fields_within (last_field name t) names around rest named =
      let h = both_true _ (has_names t) named in
      let n = both_true (is_field_name name) _ h.0 in
      let text : (name ++ (codes " = " ++ (type_text t ++ codes "}"))) ++ rest ≡ name ++ (codes " = " ++ (type_text t ++ (codes "}" ++ rest))) = append_assoc name (codes " = " ++ (type_text t ++ codes "}")) rest ∙ ap (λ (s : List ℕ). name ++ (codes " = " ++ s)) (append_assoc (type_text t) (codes "}") rest) in
      let size : length (name ++ (codes " = " ++ (type_text t ++ codes "}"))) ≡ length name + (3 + (length (type_text t) + 1)) = omega (arith, length-append name (codes " = " ++ (type_text t ++ codes "}")), length_pair (codes " = ") (type_text t) (codes "}")) in (
        field_place names around name (type_text t ++ (codes "}" ++ rest)),
        ap (field names around) text ∙ field_goes names around name (type_text t ++ (codes "}" ++ rest)) n.0 (not_true (has_name names name) n.1),
        further (length (type_text t)) 1 (length (name ++ (codes " = " ++ (type_text t ++ codes "}")))) _ _ _ (omega arith) (type_within t (in_record (names ++ name ∷ []) ∷ around) (codes "}" ++ rest) h.1) (one_word (after (in_record (names ++ name ∷ []) ∷ around) (codes "}" ++ rest)) (after around rest) refl),
      )
  fields_within (one_field name t fs) names around rest named =
      let h = both_true _ (has_names t && have_names (names ++ name ∷ []) fs) named in
      let n = both_true (is_field_name name) _ h.0 in
      let k = both_true (has_names t) _ h.1 in
      let later = fields_within fs (names ++ name ∷ []) around rest k.1 in
      let text : (name ++ (codes " = " ++ (type_text t ++ (codes ", " ++ fields_text fs)))) ++ rest ≡ name ++ (codes " = " ++ (type_text t ++ (codes ", " ++ (fields_text fs ++ rest)))) =
      append_assoc name (codes " = " ++ (type_text t ++ (codes ", " ++ fields_text fs))) rest ∙ ap (λ (s : List ℕ). name ++ (codes " = " ++ s)) (append_assoc (type_text t) (codes ", " ++ fields_text fs) rest) in
      let size : length (name ++ (codes " = " ++ (type_text t ++ (codes ", " ++ fields_text fs)))) ≡ length name + (3 + (length (type_text t) + (2 + length (fields_text fs)))) =
      omega (arith, length-append name (codes " = " ++ (type_text t ++ (codes ", " ++ fields_text fs))), length_pair (codes " = ") (type_text t) (codes ", " ++ fields_text fs), length-append (codes ", ") (fields_text fs)) in (
        field_place names around name (type_text t ++ (codes ", " ++ (fields_text fs ++ rest))),
        ap (field names around) text ∙ field_goes names around name (type_text t ++ (codes ", " ++ (fields_text fs ++ rest))) n.0 (not_true (has_name names name) n.1),
        further (length (type_text t)) (1 + length (fields_text fs)) (length (name ++ (codes " = " ++ (type_text t ++ (codes ", " ++ fields_text fs))))) _ _ _ (omega arith) (type_within t (in_record (names ++ name ∷ []) ∷ around) (codes ", " ++ (fields_text fs ++ rest)) k.0)
            (further 1 (length (fields_text fs)) (1 + length (fields_text fs)) _ _ _ (omega arith) (one_word (after (in_record (names ++ name ∷ []) ∷ around) (codes ", " ++ (fields_text fs ++ rest))) later.0 later.1) later.2),
      )

pub append_nothing : (s : List ℕ) → s ++ [] ≡ s
append_nothing [] = refl
append_nothing (c ∷ s) = ap (λ (t : List ℕ). c ∷ t) (append_nothing s)

ends_well : (n : ℕ) → 0 < n → leads n (after [] []) ≡ true
unfolding leads go_on
ends_well zero h = absurd (omega arith)
ends_well (suc n) h = refl

-- The text of a type is taken.
pub text_is_taken : (text : List ℕ) (t : TypeTree) → IsTextOf text t → is_type_text text ≡ true
unfolding is_type_text
text_is_taken text t is =
    let w = type_within t [] [] is.named in
    let n = length (type_text t) + 1 - w.0 in
    let fuel : length (type_text t) + 1 ≡ w.0 + n = omega (arith, w.1) in
    let start : leads (length (type_text t) + 1) (wants [] (type_text t)) ≡ true =
    ap (λ (m : ℕ). leads m (wants [] (type_text t))) fuel ∙ ap (λ (s : List ℕ). leads (w.0 + n) (wants [] s)) (sym (append_nothing (type_text t))) ∙ w.2 n ∙ ends_well n (omega (arith, w.1)) in
    ap (λ (s : List ℕ). leads (length s + 1) (wants [] s)) is.same ∙ start
