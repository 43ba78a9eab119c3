-- The fields of a type's text make a record.
use Rattle.std.proofs.Common.{◌≡◌, ◌+◌, ◌≤◌, ℕ, List, [], ◌∷◌, ◌++◌, map, length, Bool, true, false, cond, not, ◌&&◌, ◌||◌, count_by, refl, sym, ap, subst, ◌∙◌, append_assoc, arith}
use Rattle.std.specs.Prelude.{nat_le, nat_lt, ◌==◌, codes, if◌then◌else◌}
use Rattle.std.specs.List.{list_all}
use Rattle.std.specs.Str.{bytes_eq}
use Rattle.std.specs.Char.{is_ascii_alphabetic, is_ascii_alphanumeric}
use Rattle.std.proofs.lemmas.Bool.{le-leb, not-true}
use Rattle.std.proofs.lemmas.List.Sums.{sum_by-cons}
use Rattle.pt_datatypes.specs.Datatype.{types_of}
use Rattle.pt_datatypes.specs.Normal.{record_of}
use Rattle.pt_datatypes.proofs.Fields.{and_left, and_right, and_both}
use Rattle.pt_datatypes.proofs.Order.{same_bytes}
use Rattle.pt_document.specs.Names as moml
use Rattle.pt_document.specs.Names.{has_name, words}
use Rattle.pt_document.specs.TypeTexts.{FieldTrees, last_field, one_field, is_field_name, has_names, have_names}
use Rattle.pt_value.specs.Name.{is_reserved}
use Rattle.pt_value.proofs.Names.{bytes_eq-same}
use Rattle.pt_language.specs.RecordOf.{has_name_form, is_name, differ, make_record}
use Rattle.pt_language.specs.ByName.{by_name}
use Rattle.pt_language.specs.Typing.{where_true, or_general}
use Rattle.pt_inequalities.specs.Typing.{said_fields}
use Rattle.pt_said.specs.SaidWords.{record_said}
use Rattle.pt_inequalities.proofs.Steps.{append-none}

-- ---- names

swapped : (a b c : Bool) → ((a || b) || c) ≡ true → ((b || a) || c) ≡ true
swapped true true c h = refl
swapped true false c h = refl
swapped false true c h = refl
swapped false false c h = h

reordered : (l u s d : Bool) → (((l || u) || s) || d) ≡ true → (((d || u) || l) || s) ≡ true
reordered true true true true h = refl
reordered true true true false h = refl
reordered true true false true h = refl
reordered true true false false h = refl
reordered true false true true h = refl
reordered true false true false h = refl
reordered true false false true h = refl
reordered true false false false h = refl
reordered false true true true h = refl
reordered false true true false h = refl
reordered false true false true h = refl
reordered false true false false h = refl
reordered false false true true h = refl
reordered false false true false h = refl
reordered false false false true h = refl
reordered false false false false h = h

first-alpha : (c : ℕ) → moml.is_first c ≡ true → (is_ascii_alphabetic c || c == 95) ≡ true
first-alpha c h = swapped (nat_le 97 c && nat_le c 122) (nat_le 65 c && nat_le c 90) (c == 95) h

later-alnum : (c : ℕ) → moml.is_later c ≡ true → (is_ascii_alphanumeric c || c == 95) ≡ true
later-alnum c h = reordered (nat_le 97 c && nat_le c 122) (nat_le 65 c && nat_le c 90) (c == 95) (nat_le 48 c && nat_le c 57) h

all-alnum : (cs : List ℕ) → list_all moml.is_later cs ≡ true → list_all (λ d. is_ascii_alphanumeric d || d == 95) cs ≡ true
all-alnum [] h = refl
all-alnum (c ∷ cs) h = and_both (is_ascii_alphanumeric c || c == 95) (list_all (λ d. is_ascii_alphanumeric d || d == 95) cs) (later-alnum c (and_left (moml.is_later c) (list_all moml.is_later cs) h)) (all-alnum cs (and_right (moml.is_later c) (list_all moml.is_later cs) h))

-- a text that is none of the words of the expression language is no reserved one
parted : (b rest : Bool) → not (if b then true else rest) ≡ true → (b ≡ false) × (not rest ≡ true)
parted true rest h = absurd (cc)
parted false rest h = (refl, h)

differs-by : (word name : List ℕ) (b : Bool) → bytes_eq name word ≡ b → bytes_eq word name ≡ false → b ≡ false
differs-by word name true e h = let other : bytes_eq word name ≡ true = bytes_eq-same word name (sym (same_bytes name word e)) in cc
differs-by word name false e h = refl

differs : (word name : List ℕ) → bytes_eq word name ≡ false → bytes_eq name word ≡ false
differs word name h = differs-by word name (bytes_eq name word) refl h

free-is : (name : List ℕ) → not (moml.is_among words name) ≡ true → is_reserved name ≡ false
free-is name h =
    let a = parted (bytes_eq (codes "true") name) _ h in
    let b = parted (bytes_eq (codes "false") name) _ a.1 in
    let c = parted (bytes_eq (codes "abs") name) _ b.1 in
    let d = parted (bytes_eq (codes "max") name) _ c.1 in
    let e = parted (bytes_eq (codes "min") name) _ d.1 in
    rw (differs (codes "true") name a.0, differs (codes "false") name b.0, differs (codes "abs") name c.0, differs (codes "max") name d.0, differs (codes "min") name e.0) refl

formed : (name : List ℕ) → moml.is_name name ≡ true → has_name_form name && nat_le (length name) 64 ≡ true
unfolding moml.is_name
formed [] h = cc
formed (c ∷ cs) h =
    let n : List ℕ = c ∷ cs in
    let all = and_right ((nat_lt 0 (length n) && nat_le (length n) 64) && moml.is_first c) (list_all moml.is_later n) h in
    let front = and_left ((nat_lt 0 (length n) && nat_le (length n) 64) && moml.is_first c) (list_all moml.is_later n) h in
    let first = and_right (nat_lt 0 (length n) && nat_le (length n) 64) (moml.is_first c) front in
    let short = and_right (nat_lt 0 (length n)) (nat_le (length n) 64) (and_left (nat_lt 0 (length n) && nat_le (length n) 64) (moml.is_first c) front) in
    let form : has_name_form n ≡ true = and_both (is_ascii_alphabetic c || c == 95) (list_all (λ d. is_ascii_alphanumeric d || d == 95) cs) (first-alpha c first) (all-alnum cs (and_right (moml.is_later c) (list_all moml.is_later cs) all)) in
    and_both (has_name_form n) (nat_le (length n) 64) form short

-- ---- names that differ

-- names that differ from these and from each other
abbrev AreNew : List (List ℕ) → List (List ℕ) → Type 0
AreNew before [] = Unit {0}
AreNew before (n ∷ ns) = (has_name before n ≡ false) × AreNew (before ++ n ∷ []) ns

abbrev times : List ℕ → List (List ℕ) → ℕ
times n ns = count_by (bytes_eq n) ns

abbrev one_if : Bool → ℕ
one_if b = cond b 1 0

times-cons : (n m : List ℕ) (ms : List (List ℕ)) → times n (m ∷ ms) ≡ one_if (bytes_eq n m) + times n ms
times-cons n m ms = sum_by-cons (λ l. one_if (bytes_eq n l)) m ms

none-by : (n m : List ℕ) (ms : List (List ℕ)) (b : Bool) → bytes_eq n m ≡ b → (b || has_name ms n) ≡ false → (has_name ms n ≡ false → times n ms ≡ 0) → times n (m ∷ ms) ≡ 0
none-by n m ms true e h rest = cc
none-by n m ms false e h rest = let no : one_if (bytes_eq n m) ≡ 0 = ap one_if e in omega (arith, times-cons n m ms, no, rest h)

none-there : (n : List ℕ) (ms : List (List ℕ)) → has_name ms n ≡ false → times n ms ≡ 0
none-there n [] h = refl
none-there n (m ∷ ms) h = none-by n m ms (bytes_eq n m) refl h (none-there n ms)

times-append : (n m : List ℕ) (ms : List (List ℕ)) → times n (ms ++ m ∷ []) ≡ times n ms + one_if (bytes_eq n m)
times-append n m [] = omega (arith, times-cons n m [])
times-append n m (k ∷ ms) = omega (arith, times-cons n k (ms ++ m ∷ []), times-cons n k ms, times-append n m ms)

once-more : (n m : List ℕ) (ms : List (List ℕ)) (b : Bool) → bytes_eq n m ≡ b → has_name ms m ≡ false → times n ms ≤ 1 → times n (ms ++ m ∷ []) ≤ 1
once-more n m ms true e fresh le =
    let none : times n ms ≡ 0 = ap (λ k. times k ms) (same_bytes n m e) ∙ none-there m ms fresh in
    let one : one_if (bytes_eq n m) ≡ 1 = ap one_if e in
    omega (arith, times-append n m ms, none, one)
once-more n m ms false e fresh le = let no : one_if (bytes_eq n m) ≡ 0 = ap one_if e in omega (arith, times-append n m ms, no, le)

once : (n : List ℕ) (ns before : List (List ℕ)) → AreNew before ns → times n before ≤ 1 → times n (before ++ ns) ≤ 1
once n [] before h le = subst (λ (ms : List (List ℕ)). times n ms ≤ 1) (sym (append-none before)) le
once n (m ∷ ns) before h le = subst (λ (ms : List (List ℕ)). times n ms ≤ 1) (append_assoc before (m ∷ []) ns) (once n ns (before ++ m ∷ []) h.1 (once-more n m before (bytes_eq n m) refl h.0 le))

differ-from : (ns ms : List (List ℕ)) → ((n : List ℕ) → times n ns ≤ 1) → list_all (λ n. nat_le (times n ns) 1) ms ≡ true
differ-from ns [] h = refl
differ-from ns (m ∷ ms) h = and_both (nat_le (times m ns) 1) (list_all (λ n. nat_le (times n ns) 1) ms) (le-leb (times m ns) 1 (h m)) (differ-from ns ms h)

-- ---- the fields of a type's text

abbrev names_of : FieldTrees → List (List ℕ)
names_of fs = map (λ f. f.0) (said_fields fs)

named-of : (name : List ℕ) → is_field_name name ≡ true → is_name name ≡ true
unfolding is_field_name
named-of name h =
    let free : not (is_reserved name) ≡ true = ap not (free-is name (and_right (moml.is_name name) _ h)) in
    and_both (has_name_form name && nat_le (length name) 64) (not (is_reserved name)) (formed name (and_left (moml.is_name name) _ h)) free

are-new : (fs : FieldTrees) (before : List (List ℕ)) → have_names before fs ≡ true → AreNew before (names_of fs)
unfolding has_names
are-new (last_field name t) before h =
    let own = and_left (is_field_name name && not (has_name before name)) (has_names t) h in
    (not-true (has_name before name) (and_right (is_field_name name) (not (has_name before name)) own), tt)
are-new (one_field name t fs) before h =
    let own = and_left (is_field_name name && not (has_name before name)) (has_names t && have_names (before ++ name ∷ []) fs) h in
    let rest = and_right (has_names t) (have_names (before ++ name ∷ []) fs) (and_right (is_field_name name && not (has_name before name)) (has_names t && have_names (before ++ name ∷ []) fs) h) in
    (not-true (has_name before name) (and_right (is_field_name name) (not (has_name before name)) own), are-new fs (before ++ name ∷ []) rest)

all-names : (fs : FieldTrees) (before : List (List ℕ)) → have_names before fs ≡ true → list_all is_name (names_of fs) ≡ true
unfolding has_names
all-names (last_field name t) before h =
    let own = and_left (is_field_name name && not (has_name before name)) (has_names t) h in
    and_both (is_name name) true (named-of name (and_left (is_field_name name) (not (has_name before name)) own)) refl
all-names (one_field name t fs) before h =
    let own = and_left (is_field_name name && not (has_name before name)) (has_names t && have_names (before ++ name ∷ []) fs) h in
    let rest = and_right (has_names t) (have_names (before ++ name ∷ []) fs) (and_right (is_field_name name && not (has_name before name)) (has_names t && have_names (before ++ name ∷ []) fs) h) in
    and_both (is_name name) (list_all is_name (names_of fs)) (named-of name (and_left (is_field_name name) (not (has_name before name)) own)) (all-names fs (before ++ name ∷ []) rest)

some-name : (fs : FieldTrees) → list_all is_name (names_of fs) ≡ true → differ (names_of fs) ≡ true → make_record (names_of fs) ≡ true
some-name (last_field name t) names once = and_both (list_all is_name (names_of (last_field name t))) (differ (names_of (last_field name t))) names once
some-name (one_field name t fs) names once = and_both (list_all is_name (names_of (one_field name t fs))) (differ (names_of (one_field name t fs))) names once

make : (fs : FieldTrees) → have_names [] fs ≡ true → make_record (names_of fs) ≡ true
make fs h = some-name fs (all-names fs [] h) (differ-from (names_of fs) (names_of fs) (λ n. once n (names_of fs) [] (are-new fs [] h) (omega arith)))

-- the record that the program makes of the fields is the one that is said
pub record-said : (fs : FieldTrees) → have_names [] fs ≡ true → record_said (said_fields fs) ≡ record_of (types_of (by_name (said_fields fs)))
record-said fs h = ap (λ b. or_general (where_true b (record_of (types_of (by_name (said_fields fs)))))) (make fs h)
