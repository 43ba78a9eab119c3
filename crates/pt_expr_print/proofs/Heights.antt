-- The parts of a literal are at most as high as all of them together.
use Rattle.std.proofs.Common.{◌≡◌, ℕ, zero, suc, ◌<◌, ◌≤◌, List, [], ◌∷◌, length, map, get_or, ap, arith}
use Rattle.pt_language.specs.declared.expr.Expr.{Expr}
use Rattle.pt_language.specs.declared.exprs.NamedExpr.{NamedExpr}
use Rattle.pt_language.specs.Tree.{Tree, height, height_of_trees, height_of_named, trees_of, named_of}
use Rattle.pt_language.specs.Expr.{tree_of, entry_of}

in_trees : (es : List Expr) (i : ℕ) (e : Expr) → i < length es → e ≡ get_or es i e → height (tree_of e) ≤ height_of_trees (trees_of (map tree_of es))
in_trees [] i e short is = absurd (omega arith)
in_trees (x ∷ es) zero e short is = omega (arith, ap (λ v. height (tree_of v)) is)
in_trees (x ∷ es) (suc i) e short is = omega (arith, in_trees es i e (omega arith) is)

in_named : (fs : List NamedExpr) (i : ℕ) (f : NamedExpr) → i < length fs → f ≡ get_or fs i f → height (tree_of f.value) ≤ height_of_named (named_of (map entry_of fs))
in_named [] i f short is = absurd (omega arith)
in_named (g ∷ fs) zero f short is = omega (arith, ap (λ (v : NamedExpr). height (tree_of v.value)) is)
in_named (g ∷ fs) (suc i) f short is = omega (arith, in_named fs i f (omega arith) is)

pub height-part : (es : List Expr) (ts : List Tree) (i : ℕ) (e : Expr) → map tree_of es ≡ ts → i < length es → e ≡ get_or es i e → height (tree_of e) ≤ height_of_trees (trees_of ts)
height-part es ts i e same short is = omega (arith, in_trees es i e short is, ap (λ us. height_of_trees (trees_of us)) same)

pub height-field : (fs : List NamedExpr) (es : List (List ℕ × Tree)) (i : ℕ) (f : NamedExpr) → map entry_of fs ≡ es → i < length fs → f ≡ get_or fs i f → height (tree_of f.value) ≤ height_of_named (named_of es)
height-field fs es i f same short is = omega (arith, in_named fs i f short is, ap (λ gs. height_of_named (named_of gs)) same)
