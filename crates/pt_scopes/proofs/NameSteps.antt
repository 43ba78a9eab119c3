-- The names in the parts of a literal, one by one.
use Rattle.std.proofs.Common.{◌≡◌, ℕ, zero, suc, ◌+◌, ◌<◌, ◌≤◌, ◌++◌, List, [], ◌∷◌, length, get_or, drop, map, sym, ap, subst, ◌∙◌, append_assoc, add-one, arith}
use Rattle.std.proofs.Math.Seq.{drop-cons}
use Rattle.pt_language.specs.declared.expr.Expr.{Expr}
use Rattle.pt_language.specs.declared.exprs.NamedExpr.{NamedExpr}
use Rattle.pt_language.specs.Expr.{tree_of, entry_of}
use Rattle.pt_language.specs.Tree.{Tree, height, height_of_trees, height_of_named, trees_of, named_of}
use Rattle.pt_scopes.specs.Texts.{names_in, names_in_parts, names_in_fields}

part-height : (es : List Expr) (i : ℕ) (e : Expr) → i < length es → e ≡ get_or es i e → height (tree_of e) ≤ height_of_trees (trees_of (map tree_of es))
part-height [] i e short is = absurd (omega arith)
part-height (x ∷ es) zero e short is = let h : height (tree_of e) ≡ height (tree_of x) = ap (λ (y : Expr). height (tree_of y)) is in omega (arith, h)
part-height (x ∷ es) (suc i) e short is = let h = part-height es i e (omega arith) is in omega (arith, h)

field-height : (fs : List NamedExpr) (i : ℕ) (f : NamedExpr) → i < length fs → f ≡ get_or fs i f → height (tree_of f.value) ≤ height_of_named (named_of (map entry_of fs))
field-height [] i f short is = absurd (omega arith)
field-height (x ∷ fs) zero f short is = let h : height (tree_of f.value) ≡ height (tree_of x.value) = ap (λ (y : NamedExpr). height (tree_of y.value)) is in omega (arith, h)
field-height (x ∷ fs) (suc i) f short is = let h = field-height fs i f (omega arith) is in omega (arith, h)

-- a part is lower than the parts together
pub height-part : (es : List Expr) (ts : List Tree) (i : ℕ) (e : Expr) → map tree_of es ≡ ts → i < length es → e ≡ get_or es i e → height (tree_of e) ≤ height_of_trees (trees_of ts)
height-part es ts i e all short is = subst (λ us. height (tree_of e) ≤ height_of_trees (trees_of us)) all (part-height es i e short is)

pub height-field : (fs : List NamedExpr) (gs : List (List ℕ × Tree)) (i : ℕ) (f : NamedExpr) → map entry_of fs ≡ gs → i < length fs → f ≡ get_or fs i f → height (tree_of f.value) ≤ height_of_named (named_of gs)
height-field fs gs i f all short is = subst (λ hs. height (tree_of f.value) ≤ height_of_named (named_of hs)) all (field-height fs i f short is)

-- the names of what is left begin with those of the next part
pub names-part : (es : List Expr) (i : ℕ) (e : Expr) → i < length es → e ≡ get_or es i e → names_in_parts (trees_of (map tree_of (drop i es))) ≡ names_in (tree_of e) ++ names_in_parts (trees_of (map tree_of (drop (i + 1) es)))
names-part es i e short is = ap (λ xs. names_in_parts (trees_of (map tree_of xs))) (drop-cons es i e short ∙ ap (λ x. x ∷ drop (suc i) es) (sym is)) ∙ ap (λ k. names_in (tree_of e) ++ names_in_parts (trees_of (map tree_of (drop k es)))) (sym (add-one i))

pub names-field : (fs : List NamedExpr) (i : ℕ) (f : NamedExpr) → i < length fs → f ≡ get_or fs i f → names_in_fields (named_of (map entry_of (drop i fs))) ≡ names_in (tree_of f.value) ++ names_in_fields (named_of (map entry_of (drop (i + 1) fs)))
names-field fs i f short is = ap (λ xs. names_in_fields (named_of (map entry_of xs))) (drop-cons fs i f short ∙ ap (λ x. x ∷ drop (suc i) fs) (sym is)) ∙ ap (λ k. names_in (tree_of f.value) ++ names_in_fields (named_of (map entry_of (drop k fs)))) (sym (add-one i))

-- names so far, with those of one more part
pub next_names : (old new part left more all : List (List ℕ)) → new ≡ old ++ part → left ≡ part ++ more → old ++ left ≡ all → new ++ more ≡ all
next_names old new part left more all e f g = ap (λ ns. ns ++ more) e ∙ append_assoc old part more ∙ ap (λ ns. old ++ ns) (sym f) ∙ g
