-- The parts of an array or a record literal are lower than it.
use Rattle.std.proofs.Common.{◌≡◌, ℕ, zero, suc, ◌<◌, ◌≤◌, List, [], ◌∷◌, length, map, get_or, ap, arith}
use Rattle.pt_language.specs.declared.expr.Expr.{Expr}
use Rattle.pt_language.specs.declared.exprs.NamedExpr.{NamedExpr}
use Rattle.pt_language.specs.Expr.{tree_of, entry_of}
use Rattle.pt_language.specs.Tree.{Tree, height, height_of_trees, height_of_named, trees_of, named_of}

height-in_trees : (es : List Expr) (i : ℕ) (e : Expr) → i < length es → e ≡ get_or es i e → height (tree_of e) ≤ height_of_trees (trees_of (map tree_of es))
height-in_trees [] i e short is = absurd (omega arith)
height-in_trees (f ∷ es) zero e short is = omega (arith, ap (λ g. height (tree_of g)) is)
height-in_trees (f ∷ es) (suc i) e short is = omega (arith, height-in_trees es i e (omega arith) is)

height-in_named : (fs : List NamedExpr) (i : ℕ) (f : NamedExpr) → i < length fs → f ≡ get_or fs i f → height (tree_of f.value) ≤ height_of_named (named_of (map entry_of fs))
height-in_named [] i f short is = absurd (omega arith)
height-in_named (g ∷ fs) zero f short is = omega (arith, ap (λ (h : NamedExpr). height (tree_of h.value)) is)
height-in_named (g ∷ fs) (suc i) f short is = omega (arith, height-in_named fs i f (omega arith) is)

-- a part of an array literal
pub height-part : (es : List Expr) (ts : List Tree) (i : ℕ) (e : Expr) → map tree_of es ≡ ts → i < length es → e ≡ get_or es i e → height (tree_of e) ≤ height_of_trees (trees_of ts)
height-part es ts i e same short is = omega (arith, height-in_trees es i e short is, ap (λ us. height_of_trees (trees_of us)) same)

-- the value of a field of a record literal
pub height-field : (fs : List NamedExpr) (ts : List (List ℕ × Tree)) (i : ℕ) (f : NamedExpr) → map entry_of fs ≡ ts → i < length fs → f ≡ get_or fs i f → height (tree_of f.value) ≤ height_of_named (named_of ts)
height-field fs ts i f same short is = omega (arith, height-in_named fs i f short is, ap (λ us. height_of_named (named_of us)) same)
