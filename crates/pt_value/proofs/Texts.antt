-- The printed text of arrays and records, part by part.
use Rattle.std.proofs.Common.{◌≡◌, ℕ, suc, ◌+◌, ◌<◌, ◌≤◌, List, [], ◌∷◌, ◌++◌, length, take, get_or, map, codes, refl, sym, ap, ◌∙◌, append_assoc, arith}
use Rattle.std.proofs.lemmas.List.{take_all, take_more, append-nil, length-take-le}
use Rattle.std.specs.List.{flat_map}
use Rattle.pt_value.specs.declared.token.Token.{Token}
use Rattle.pt_value.specs.declared.fields.Field.{Field}
use Rattle.pt_value.specs.Value.{Value, values_of, named_of}
use Rattle.pt_value.specs.Token.{value_of, entry_of}
use Rattle.pt_value.specs.Printed.{escaped, quoted, in_braces, printed, printed_field, each_printed, each_named, separated_by, more_after, separator_before}
use Rattle.pt_value.proofs.Extended.{appended}

abbrev pub array_body : List Token → List ℕ
array_body ts = separated_by (codes ", ") (each_printed (values_of (map value_of ts)))

abbrev pub record_body : List Field → List ℕ
record_body fs = separated_by (codes ", ") (each_named (named_of (map entry_of fs)))

-- a text in quotes, once its last byte is written
pub quoted-last : (old text items mid done new : List ℕ) (i : ℕ) → items ≡ text → length items ≤ i → mid ≡ old ++ codes "\"" → done ≡ mid ++ flat_map escaped (take i items) → new ≡ done ++ codes "\"" → new ≡ old ++ quoted text
quoted-last old text items mid done new i e l a b c =
    appended old (codes "\"") (flat_map escaped text) (codes "\"") mid done new a (b ∙ ap (λ w. mid ++ flat_map escaped w) (take_all i items l ∙ e)) c

-- an array and a record, once their last byte is written
pub array-last : (old mid done new : List ℕ) (ts : List Token) (self : List Value) (i : ℕ) → map value_of ts ≡ self → length ts ≤ i → mid ≡ old ++ codes "{" → done ≡ mid ++ array_body (take i ts) → new ≡ done ++ codes "}" → new ≡ old ++ in_braces (each_printed (values_of self))
array-last old mid done new ts self i e l a b c =
    let body : array_body (take i ts) ≡ separated_by (codes ", ") (each_printed (values_of self)) = ap array_body (take_all i ts l) ∙ ap (λ vs. separated_by (codes ", ") (each_printed (values_of vs))) e in
    appended old (codes "{") (separated_by (codes ", ") (each_printed (values_of self))) (codes "}") mid done new a (b ∙ ap (λ w. mid ++ w) body) c

pub record-last : (old mid done new : List ℕ) (fs : List Field) (self : List (List ℕ × Value)) (i : ℕ) → map entry_of fs ≡ self → length fs ≤ i → mid ≡ old ++ codes "{" → done ≡ mid ++ record_body (take i fs) → new ≡ done ++ codes "}" → new ≡ old ++ in_braces (each_named (named_of self))
record-last old mid done new fs self i e l a b c =
    let body : record_body (take i fs) ≡ separated_by (codes ", ") (each_named (named_of self)) = ap record_body (take_all i fs l) ∙ ap (λ vs. separated_by (codes ", ") (each_named (named_of vs))) e in
    appended old (codes "{") (separated_by (codes ", ") (each_named (named_of self))) (codes "}") mid done new a (b ∙ ap (λ w. mid ++ w) body) c

-- one text more
more_after-push : (s : List ℕ) (xs : List (List ℕ)) (y : List ℕ) → more_after s (xs ++ y ∷ []) ≡ (more_after s xs ++ s) ++ y
more_after-push s [] y = simp append-nil
more_after-push s (x ∷ xs) y = simp append_assoc (ap (λ t. s ++ (x ++ t)) (more_after-push s xs y ∙ simp append_assoc))

separated_by-push : (xs : List (List ℕ)) (y : List ℕ) → separated_by (codes ", ") (xs ++ y ∷ []) ≡ (separated_by (codes ", ") xs ++ separator_before (length xs)) ++ y
separated_by-push [] y = append-nil y
separated_by-push (x ∷ xs) y = ap (λ t. x ++ t) (more_after-push (codes ", ") xs y) ∙ simp append_assoc

each_printed-push : (ts : List Token) (t : Token) → each_printed (values_of (map value_of (ts ++ t ∷ []))) ≡ each_printed (values_of (map value_of ts)) ++ printed (value_of t) ∷ []
each_printed-push [] t = refl
each_printed-push (s ∷ ts) t = ap (λ xs. printed (value_of s) ∷ xs) (each_printed-push ts t)

length-each_printed : (ts : List Token) → length (each_printed (values_of (map value_of ts))) ≡ length ts
length-each_printed [] = refl
length-each_printed (t ∷ ts) = ap (λ n. suc n) (length-each_printed ts)

each_named-push : (fs : List Field) (f : Field) → each_named (named_of (map entry_of (fs ++ f ∷ []))) ≡ each_named (named_of (map entry_of fs)) ++ printed_field f.name (value_of f.value) ∷ []
each_named-push [] f = refl
each_named-push (g ∷ fs) f = ap (λ xs. printed_field g.name (value_of g.value) ∷ xs) (each_named-push fs f)

length-each_named : (fs : List Field) → length (each_named (named_of (map entry_of fs))) ≡ length fs
length-each_named [] = refl
length-each_named (f ∷ fs) = ap (λ n. suc n) (length-each_named fs)

-- the text so far and what one more part adds
pub array_body-more : (ts : List Token) (i : ℕ) (t : Token) → i < length ts → t ≡ get_or ts i t → array_body (take (i + 1) ts) ≡ (array_body (take i ts) ++ separator_before i) ++ printed (value_of t)
array_body-more ts i t short is =
    let e : take (i + 1) ts ≡ take i ts ++ t ∷ [] = take_more ts i t short ∙ ap (λ u. take i ts ++ u ∷ []) (sym is) in
    let n : length (each_printed (values_of (map value_of (take i ts)))) ≡ i = length-each_printed (take i ts) ∙ length-take-le i ts (omega arith) in
    ap array_body e ∙ ap (separated_by (codes ", ")) (each_printed-push (take i ts) t) ∙ separated_by-push _ (printed (value_of t)) ∙ ap (λ k. (array_body (take i ts) ++ separator_before k) ++ printed (value_of t)) n

pub record_body-more : (fs : List Field) (i : ℕ) (f : Field) → i < length fs → f ≡ get_or fs i f → record_body (take (i + 1) fs) ≡ (record_body (take i fs) ++ separator_before i) ++ printed_field f.name (value_of f.value)
record_body-more fs i f short is =
    let e : take (i + 1) fs ≡ take i fs ++ f ∷ [] = take_more fs i f short ∙ ap (λ g. take i fs ++ g ∷ []) (sym is) in
    let n : length (each_named (named_of (map entry_of (take i fs)))) ≡ i = length-each_named (take i fs) ∙ length-take-le i fs (omega arith) in
    ap record_body e ∙ ap (separated_by (codes ", ")) (each_named-push (take i fs) f) ∙ separated_by-push _ (printed_field f.name (value_of f.value)) ∙ ap (λ k. (record_body (take i fs) ++ separator_before k) ++ printed_field f.name (value_of f.value)) n
