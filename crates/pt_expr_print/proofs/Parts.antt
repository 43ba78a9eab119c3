-- The printed text of arrays and records, part by part.
use Rattle.std.proofs.Common.{◌≡◌, ℕ, suc, ◌+◌, ◌<◌, List, [], ◌∷◌, ◌++◌, length, take, get_or, map, codes, refl, sym, ap, ◌∙◌, append_assoc, arith}
use Rattle.std.proofs.lemmas.List.{take_more, append-nil, length-take-le}
use Rattle.pt_value.specs.Printed.{separated_by, more_after, separator_before}
use Rattle.pt_language.specs.declared.expr.Expr.{Expr}
use Rattle.pt_language.specs.declared.exprs.NamedExpr.{NamedExpr}
use Rattle.pt_language.specs.Tree.{trees_of, named_of}
use Rattle.pt_language.specs.Expr.{tree_of, entry_of}
use Rattle.pt_expr_print.specs.Printed.{printed, printed_field, each_printed, each_named}

abbrev pub array_body : List Expr → List ℕ
array_body es = separated_by (codes ", ") (each_printed (trees_of (map tree_of es)))

abbrev pub record_body : List NamedExpr → List ℕ
record_body fs = separated_by (codes ", ") (each_named (named_of (map entry_of fs)))

-- one text more
more_after-push : (s : List ℕ) (xs : List (List ℕ)) (y : List ℕ) → more_after s (xs ++ y ∷ []) ≡ (more_after s xs ++ s) ++ y
more_after-push s [] y = simp append-nil
more_after-push s (x ∷ xs) y = simp append_assoc (ap (λ t. s ++ (x ++ t)) (more_after-push s xs y ∙ simp append_assoc))

separated_by-push : (xs : List (List ℕ)) (y : List ℕ) → separated_by (codes ", ") (xs ++ y ∷ []) ≡ (separated_by (codes ", ") xs ++ separator_before (length xs)) ++ y
separated_by-push [] y = append-nil y
separated_by-push (x ∷ xs) y = ap (λ t. x ++ t) (more_after-push (codes ", ") xs y) ∙ simp append_assoc

each_printed-push : (es : List Expr) (e : Expr) → each_printed (trees_of (map tree_of (es ++ e ∷ []))) ≡ each_printed (trees_of (map tree_of es)) ++ printed (tree_of e) ∷ []
each_printed-push [] e = refl
each_printed-push (x ∷ es) e = ap (λ ts. printed (tree_of x) ∷ ts) (each_printed-push es e)

length-each_printed : (es : List Expr) → length (each_printed (trees_of (map tree_of es))) ≡ length es
length-each_printed [] = refl
length-each_printed (e ∷ es) = ap (λ n. suc n) (length-each_printed es)

each_named-push : (fs : List NamedExpr) (f : NamedExpr) → each_named (named_of (map entry_of (fs ++ f ∷ []))) ≡ each_named (named_of (map entry_of fs)) ++ printed_field f.name (printed (tree_of f.value)) ∷ []
each_named-push [] f = refl
each_named-push (g ∷ fs) f = ap (λ ts. printed_field g.name (printed (tree_of g.value)) ∷ ts) (each_named-push fs f)

length-each_named : (fs : List NamedExpr) → length (each_named (named_of (map entry_of fs))) ≡ length fs
length-each_named [] = refl
length-each_named (f ∷ fs) = ap (λ n. suc n) (length-each_named fs)

-- the text so far and what one more part adds
pub array_body-more : (es : List Expr) (i : ℕ) (e : Expr) → i < length es → e ≡ get_or es i e → array_body (take (i + 1) es) ≡ (array_body (take i es) ++ separator_before i) ++ printed (tree_of e)
array_body-more es i e short is =
    let q : take (i + 1) es ≡ take i es ++ e ∷ [] = take_more es i e short ∙ ap (λ x. take i es ++ x ∷ []) (sym is) in
    let n : length (each_printed (trees_of (map tree_of (take i es)))) ≡ i = length-each_printed (take i es) ∙ length-take-le i es (omega arith) in
    ap array_body q ∙ ap (separated_by (codes ", ")) (each_printed-push (take i es) e) ∙ separated_by-push _ (printed (tree_of e)) ∙ ap (λ k. (array_body (take i es) ++ separator_before k) ++ printed (tree_of e)) n

pub record_body-more : (fs : List NamedExpr) (i : ℕ) (f : NamedExpr) → i < length fs → f ≡ get_or fs i f → record_body (take (i + 1) fs) ≡ (record_body (take i fs) ++ separator_before i) ++ printed_field f.name (printed (tree_of f.value))
record_body-more fs i f short is =
    let q : take (i + 1) fs ≡ take i fs ++ f ∷ [] = take_more fs i f short ∙ ap (λ x. take i fs ++ x ∷ []) (sym is) in
    let n : length (each_named (named_of (map entry_of (take i fs)))) ≡ i = length-each_named (take i fs) ∙ length-take-le i fs (omega arith) in
    ap record_body q ∙ ap (separated_by (codes ", ")) (each_named-push (take i fs) f) ∙ separated_by-push _ (printed_field f.name (printed (tree_of f.value))) ∙ ap (λ k. (record_body (take i fs) ++ separator_before k) ++ printed_field f.name (printed (tree_of f.value))) n
