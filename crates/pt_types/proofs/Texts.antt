-- The printed text of records, field by field.
use Rattle.std.proofs.Common.{◌≡◌, ℕ, suc, ◌+◌, ◌<◌, ◌≤◌, List, [], ◌∷◌, ◌++◌, length, take, get_or, map, codes, refl, sym, ap, ◌∙◌, append_assoc, arith}
use Rattle.std.proofs.lemmas.List.{take_all, take_more, append-nil, length-take-le}
use Rattle.pt_value.specs.Printed.{in_braces, separated_by, more_after, separator_before}
use Rattle.pt_value.proofs.Extended.{appended}
use Rattle.pt_types.specs.declared.record.FieldTy.{FieldTy}
use Rattle.pt_datatypes.specs.Datatype.{Datatype, types_of}
use Rattle.pt_types.specs.Ty.{written, entry_of}
use Rattle.pt_types.specs.Printed.{printed_field, each_named}

abbrev pub record_body : List FieldTy → List ℕ
record_body fs = separated_by (codes ", ") (each_named (types_of (map entry_of fs)))

-- a record, once its last byte is written
pub record-last : (old mid done new : List ℕ) (fs : List FieldTy) (self : List (List ℕ × Datatype)) (i : ℕ) → map entry_of fs ≡ self → length fs ≤ i → mid ≡ old ++ codes "{" → done ≡ mid ++ record_body (take i fs) → new ≡ done ++ codes "}" → new ≡ old ++ in_braces (each_named (types_of self))
record-last old mid done new fs self i e l a b c =
    let body : record_body (take i fs) ≡ separated_by (codes ", ") (each_named (types_of self)) = ap record_body (take_all i fs l) ∙ ap (λ vs. separated_by (codes ", ") (each_named (types_of vs))) e in
    appended old (codes "{") (separated_by (codes ", ") (each_named (types_of self))) (codes "}") mid done new a (b ∙ ap (λ w. mid ++ w) body) c

-- one text more
more_after-push : (s : List ℕ) (xs : List (List ℕ)) (y : List ℕ) → more_after s (xs ++ y ∷ []) ≡ (more_after s xs ++ s) ++ y
more_after-push s [] y = simp append-nil
more_after-push s (x ∷ xs) y = simp append_assoc (ap (λ t. s ++ (x ++ t)) (more_after-push s xs y ∙ simp append_assoc))

separated_by-push : (xs : List (List ℕ)) (y : List ℕ) → separated_by (codes ", ") (xs ++ y ∷ []) ≡ (separated_by (codes ", ") xs ++ separator_before (length xs)) ++ y
separated_by-push [] y = append-nil y
separated_by-push (x ∷ xs) y = ap (λ t. x ++ t) (more_after-push (codes ", ") xs y) ∙ simp append_assoc

each_named-push : (fs : List FieldTy) (f : FieldTy) → each_named (types_of (map entry_of (fs ++ f ∷ []))) ≡ each_named (types_of (map entry_of fs)) ++ printed_field f.name (written f.ty) ∷ []
each_named-push [] f = refl
each_named-push (g ∷ fs) f = ap (λ xs. printed_field g.name (written g.ty) ∷ xs) (each_named-push fs f)

length-each_named : (fs : List FieldTy) → length (each_named (types_of (map entry_of fs))) ≡ length fs
length-each_named [] = refl
length-each_named (f ∷ fs) = ap (λ n. suc n) (length-each_named fs)

-- the text so far and what one more field adds
pub record_body-more : (fs : List FieldTy) (i : ℕ) (f : FieldTy) → i < length fs → f ≡ get_or fs i f → record_body (take (i + 1) fs) ≡ (record_body (take i fs) ++ separator_before i) ++ printed_field f.name (written f.ty)
record_body-more fs i f short is =
    let e : take (i + 1) fs ≡ take i fs ++ f ∷ [] = take_more fs i f short ∙ ap (λ g. take i fs ++ g ∷ []) (sym is) in
    let n : length (each_named (types_of (map entry_of (take i fs)))) ≡ i = length-each_named (take i fs) ∙ length-take-le i fs (omega arith) in
    ap record_body e ∙ ap (separated_by (codes ", ")) (each_named-push (take i fs) f) ∙ separated_by-push _ (printed_field f.name (written f.ty)) ∙ ap (λ k. (record_body (take i fs) ++ separator_before k) ++ printed_field f.name (written f.ty)) n
