-- The type that is read is the one that the text says.
use Rattle.std.proofs.Common.{◌≡◌, ◌<◌, ◌≤◌, ◌+◌, ◌-◌, ◌&&◌, ℕ, zero, suc, List, [], ◌∷◌, ◌++◌, length, take, drop, Some, None, Bool, true, false, not, codes, if◌then◌else◌, refl, sym, ap, subst, ◌∙◌, append_assoc, arith, length-append}
use Rattle.std.specs.List.{list_all, prefix_len}
use Rattle.std.proofs.lemmas.Bool.{not-true}
use Rattle.std.proofs.Math.Seq.{take-append_seam, drop-append_seam}
use Rattle.pt_document.specs.Names.{is_later, has_name}
use Rattle.pt_document.specs.TypeTexts.{TypeTree, int_type, boolean_type, string_type, array_type, record_type, FieldTrees, last_field, one_field, type_text, fields_text, is_field_name, has_names, have_names, IsTextOf}
use Rattle.pt_document.specs.TypeWords.{one_more}
use Rattle.pt_datatypes.specs.Datatype.{Datatype}
use Rattle.pt_datatypes.proofs.Fields.{and_left, and_right}
use Rattle.pt_inequalities.specs.Typing.{said, said_fields}
use Rattle.pt_said.specs.SaidWords.{Fields, Open, in_array, in_record, Place, Goes, named_or, field, begin, go_on, step, from_next, leads, record_said, type_in}
use Rattle.pt_inequalities.proofs.Steps.{append-none}
use Rattle.pt_said.proofs.SaidNames.{letters}
use Rattle.pt_said.proofs.SaidRecords.{record-said}

-- a place where a type is wanted, and one behind a type
abbrev pub wants : List Open → List ℕ → Place
wants around text = record { ty = None; around = around; rest = text }

abbrev pub after : Datatype → List Open → List ℕ → Place
after t around text = record { ty = Some t; around = around; rest = text }

letters_end : (name : List ℕ) (rest : List ℕ) → list_all is_later name ≡ true → prefix_len is_later (name ++ (32 ∷ rest)) ≡ length name
letters_end [] rest h = refl
letters_end (c ∷ name) rest h =
    ap (λ (b : Bool). if b then 1 + prefix_len is_later (name ++ (32 ∷ rest)) else 0) (and_left (is_later c) (list_all is_later name) h)
    ∙ (let e = letters_end name rest (and_right (is_later c) (list_all is_later name) h) in omega arith)

-- So many words at most lead from one place to the other.
abbrev Within : ℕ → Place → Place → Type 0
Within bound p q = (k : ℕ) × (k ≤ bound) × ((n : ℕ) → leads (k + n) p ≡ leads n q)

stays : (p : Place) → Within 0 p p
stays p = (0, omega arith, λ n. let same : 0 + n ≡ n = omega arith in ap (λ (m : ℕ). leads m p) same)

one_word : (p q : Place) → step p ≡ Goes q → Within 1 p q
unfolding leads
one_word p q is = (1, omega arith, λ n. let one : 1 + n ≡ suc n = omega arith in ap (λ (m : ℕ). leads m p) one ∙ ap (from_next (λ r. leads n r)) is)

further : (a b c : ℕ) (p q r : Place) → a + b ≤ c → Within a p q → Within b q r → Within c p r
further a b c p q r bound one two =
    (one.0 + two.0, omega (arith, one.1, two.1), λ n. let same : (one.0 + two.0) + n ≡ one.0 + (two.0 + n) = omega arith in ap (λ (m : ℕ). leads m p) same ∙ one.2 (two.0 + n) ∙ two.2 n)

field_goes : (names : List (List ℕ)) (fields : Fields) (around : List Open) (name rest : List ℕ) → is_field_name name ≡ true → has_name names name ≡ false → field names fields around (name ++ (codes " = " ++ rest)) ≡ Goes (wants (in_record (names ++ name ∷ []) fields name ∷ around) rest)
unfolding field
field_goes names fields around name rest good fresh =
    let text : List ℕ = name ++ (codes " = " ++ rest) in
    let count : prefix_len is_later text ≡ length name = letters_end name (61 ∷ 32 ∷ rest) (letters name good) in
    let front : take (prefix_len is_later text) text ≡ name = ap (λ (n : ℕ). take n text) count ∙ take-append_seam name (codes " = " ++ rest) in
    let back : drop (prefix_len is_later text) text ≡ codes " = " ++ rest = ap (λ (n : ℕ). drop n text) count ∙ drop-append_seam name (codes " = " ++ rest) in
    let more : one_more names name ≡ Some (names ++ name ∷ []) = rw (good, fresh) refl in
    ap (λ (n : List ℕ). named_or fields around n (one_more names n) (drop (prefix_len is_later text) text)) front
    ∙ ap (named_or fields around name (one_more names name)) back ∙ ap (λ o. named_or fields around name o (codes " = " ++ rest)) more

length_pair : (a b c : List ℕ) → length (a ++ (b ++ c)) ≡ length a + (length b + length c)
length_pair a b c = omega (arith, length-append a (b ++ c), length-append b c)

-- the place behind the name of a field, and the one behind its type
abbrev named : List (List ℕ) → Fields → List Open → List ℕ → List ℕ → Place
named names fields around name rest = wants (in_record (names ++ name ∷ []) fields name ∷ around) rest

abbrev typed : List (List ℕ) → Fields → List Open → List ℕ → Datatype → List ℕ → Place
typed names fields around name t rest = after t (in_record (names ++ name ∷ []) fields name ∷ around) rest

mutual
  unfolding type_text has_names begin go_on

  type_within : (t : TypeTree) (around : List Open) (rest : List ℕ) → has_names t ≡ true → Within (length (type_text t)) (wants around (type_text t ++ rest)) (after (said t) around rest)
  type_within int_type around rest named = further 1 0 3 _ _ _ (omega arith) (one_word (wants around (codes "int" ++ rest)) (after (said int_type) around rest) refl) (stays (after (said int_type) around rest))
  type_within boolean_type around rest named = further 1 0 7 _ _ _ (omega arith) (one_word (wants around (codes "boolean" ++ rest)) (after (said boolean_type) around rest) refl) (stays (after (said boolean_type) around rest))
  type_within string_type around rest named = further 1 0 6 _ _ _ (omega arith) (one_word (wants around (codes "string" ++ rest)) (after (said string_type) around rest) refl) (stays (after (said string_type) around rest))
  type_within (array_type t) around rest named =
      let inner : (type_text t ++ codes ")") ++ rest ≡ type_text t ++ (codes ")" ++ rest) = append_assoc (type_text t) (codes ")") rest in
      let first = one_word (wants around ((codes "arrayType(" ++ (type_text t ++ codes ")")) ++ rest)) (wants (in_array ∷ around) (type_text t ++ (codes ")" ++ rest))) (ap (λ (s : List ℕ). Goes (wants (in_array ∷ around) s)) inner) in
      let last = one_word (after (said t) (in_array ∷ around) (codes ")" ++ rest)) (after (said (array_type t)) around rest) refl in
      let size : length (codes "arrayType(" ++ (type_text t ++ codes ")")) ≡ 10 + (length (type_text t) + 1) = length_pair (codes "arrayType(") (type_text t) (codes ")") in
      further 1 (length (type_text t) + 1) (length (codes "arrayType(" ++ (type_text t ++ codes ")"))) _ _ _ (omega arith) first
      (further (length (type_text t)) 1 (length (type_text t) + 1) _ _ _ (omega arith) (type_within t (in_array ∷ around) (codes ")" ++ rest) named) last)
  type_within (record_type fs) around rest named =
      let h = fields_within fs [] [] around rest named in
      let first = one_word (wants around ((codes "{" ++ fields_text fs) ++ rest)) h.0 h.1 in
      let size : length (codes "{" ++ fields_text fs) ≡ 1 + length (fields_text fs) = length-append (codes "{") (fields_text fs) in
      let end : Within (length (fields_text fs)) h.0 (after (said (record_type fs)) around rest) = subst (λ (t : Datatype). Within (length (fields_text fs)) h.0 (after t around rest)) (record-said fs named) h.2 in
      further 1 (length (fields_text fs)) (length (codes "{" ++ fields_text fs)) _ _ _ (omega arith) first end

  fields_within : (fs : FieldTrees) (names : List (List ℕ)) (before : Fields) (around : List Open) (rest : List ℕ) → have_names names fs ≡ true → (p : Place) × (field names before around (fields_text fs ++ rest) ≡ Goes p) × Within (length (fields_text fs)) p (after (record_said (before ++ said_fields fs)) around rest)
  fields_within (last_field name t) names before around rest h =
      let own = and_left (is_field_name name && not (has_name names name)) (has_names t) h in
      let inner = and_right (is_field_name name && not (has_name names name)) (has_names t) h in
      let good = and_left (is_field_name name) (not (has_name names name)) own in
      let fresh = not-true (has_name names name) (and_right (is_field_name name) (not (has_name names name)) own) in
      let text : (name ++ (codes " = " ++ (type_text t ++ codes "}"))) ++ rest ≡ name ++ (codes " = " ++ (type_text t ++ (codes "}" ++ rest))) = append_assoc name (codes " = " ++ (type_text t ++ codes "}")) rest ∙ ap (λ (s : List ℕ). name ++ (codes " = " ++ s)) (append_assoc (type_text t) (codes "}") rest) in
      let size : length (name ++ (codes " = " ++ (type_text t ++ codes "}"))) ≡ length name + (3 + (length (type_text t) + 1)) = omega (arith, length-append name (codes " = " ++ (type_text t ++ codes "}")), length_pair (codes " = ") (type_text t) (codes "}")) in (
        named names before around name (type_text t ++ (codes "}" ++ rest)),
        ap (field names before around) text ∙ field_goes names before around name (type_text t ++ (codes "}" ++ rest)) good fresh,
        further (length (type_text t)) 1 (length (name ++ (codes " = " ++ (type_text t ++ codes "}")))) _ _ _ (omega arith) (type_within t (in_record (names ++ name ∷ []) before name ∷ around) (codes "}" ++ rest) inner)
            (one_word (typed names before around name (said t) (codes "}" ++ rest)) (after (record_said (before ++ said_fields (last_field name t))) around rest) refl),
      )
  fields_within (one_field name t fs) names before around rest h =
      let own = and_left (is_field_name name && not (has_name names name)) (has_names t && have_names (names ++ name ∷ []) fs) h in
      let both = and_right (is_field_name name && not (has_name names name)) (has_names t && have_names (names ++ name ∷ []) fs) h in
      let inner = and_left (has_names t) (have_names (names ++ name ∷ []) fs) both in
      let good = and_left (is_field_name name) (not (has_name names name)) own in
      let fresh = not-true (has_name names name) (and_right (is_field_name name) (not (has_name names name)) own) in
      let next : Fields = before ++ (name, said t) ∷ [] in
      let later = fields_within fs (names ++ name ∷ []) next around rest (and_right (has_names t) (have_names (names ++ name ∷ []) fs) both) in
      let whole : next ++ said_fields fs ≡ before ++ said_fields (one_field name t fs) = append_assoc before ((name, said t) ∷ []) (said_fields fs) in
      let end : Within (length (fields_text fs)) later.0 (after (record_said (before ++ said_fields (one_field name t fs))) around rest) = subst (λ (gs : Fields). Within (length (fields_text fs)) later.0 (after (record_said gs) around rest)) whole later.2 in
      let text : (name ++ (codes " = " ++ (type_text t ++ (codes ", " ++ fields_text fs)))) ++ rest ≡ name ++ (codes " = " ++ (type_text t ++ (codes ", " ++ (fields_text fs ++ rest)))) =
      append_assoc name (codes " = " ++ (type_text t ++ (codes ", " ++ fields_text fs))) rest ∙ ap (λ (s : List ℕ). name ++ (codes " = " ++ s)) (append_assoc (type_text t) (codes ", " ++ fields_text fs) rest) in
      let size : length (name ++ (codes " = " ++ (type_text t ++ (codes ", " ++ fields_text fs)))) ≡ length name + (3 + (length (type_text t) + (2 + length (fields_text fs)))) =
      omega (arith, length-append name (codes " = " ++ (type_text t ++ (codes ", " ++ fields_text fs))), length_pair (codes " = ") (type_text t) (codes ", " ++ fields_text fs), length-append (codes ", ") (fields_text fs)) in (
        named names before around name (type_text t ++ (codes ", " ++ (fields_text fs ++ rest))),
        ap (field names before around) text ∙ field_goes names before around name (type_text t ++ (codes ", " ++ (fields_text fs ++ rest))) good fresh,
        further (length (type_text t)) (1 + length (fields_text fs)) (length (name ++ (codes " = " ++ (type_text t ++ (codes ", " ++ fields_text fs))))) _ _ _ (omega arith) (type_within t (in_record (names ++ name ∷ []) before name ∷ around) (codes ", " ++ (fields_text fs ++ rest)) inner)
            (further 1 (length (fields_text fs)) (1 + length (fields_text fs)) _ _ _ (omega arith) (one_word (typed names before around name (said t) (codes ", " ++ (fields_text fs ++ rest))) later.0 later.1) end),
      )

ends_well : (n : ℕ) (t : Datatype) → 0 < n → leads n (after t [] []) ≡ Some t
unfolding leads go_on
ends_well zero t h = absurd (omega arith)
ends_well (suc n) t h = refl

-- The text of a tree is read as what the tree says.
pub read_is_said : (text : List ℕ) (t : TypeTree) → IsTextOf text t → type_in text ≡ Some (said t)
unfolding type_in
read_is_said text t is =
    let w = type_within t [] [] is.named in
    let n = length (type_text t) + 1 - w.0 in
    let fuel : length (type_text t) + 1 ≡ w.0 + n = omega (arith, w.1) in
    let start : leads (length (type_text t) + 1) (wants [] (type_text t)) ≡ Some (said t) =
    ap (λ (m : ℕ). leads m (wants [] (type_text t))) fuel ∙ ap (λ (s : List ℕ). leads (w.0 + n) (wants [] s)) (sym (append-none (type_text t))) ∙ w.2 n ∙ ends_well n (said t) (omega (arith, w.1)) in
    ap (λ (s : List ℕ). leads (length s + 1) (wants [] s)) is.same ∙ start
