-- What an expression of the program stands for: its tree.
use Rattle.std.specs.Prelude.{ℕ, List, map}
use Rattle.pt_language.specs.declared.expr.Expr.{Expr, Row_of-Expr, end_of-Expr, more_of-Expr}
use Rattle.pt_language.specs.declared.expr.Expr.TheVariants as expr
use Rattle.pt_language.specs.declared.exprs.Exprs.{Exprs}
use Rattle.pt_language.specs.declared.exprs.NamedExpr.{NamedExpr}
use Rattle.pt_language.specs.declared.exprs.NamedExprs.{NamedExprs, NamedExprs', out-NamedExprs, Row_of-NamedExpr, end_of-NamedExpr, more_of-NamedExpr}
use Rattle.pt_language.specs.Tree.{Tree, Int, Bool, Words, Name, Array, Record, Negate, Not, Binary, Cond, Abs, Max, Min, Apply, Field, Length, Trees, no_trees, tree_then, NamedTrees, no_fields, field_then}

-- the tree of an expression, wherever its nodes lie in memory
abbrev mutual
  pub tree_of : Expr → Tree
  tree_of (expr.Int n) = Int n
  tree_of (expr.Bool b) = Bool b
  tree_of (expr.Words text) = Words text
  tree_of (expr.Name name) = Name name
  tree_of (expr.List' shape row) = Array (trees_of_row row)
  tree_of (expr.Record fs) = Record (named_of fs)
  tree_of (expr.Negate' p e) = Negate (tree_of e)
  tree_of (expr.Not' p e) = Not (tree_of e)
  tree_of (expr.Binary' o p a q b) = Binary o (tree_of a) (tree_of b)
  tree_of (expr.Cond' p a q b r c) = Cond (tree_of a) (tree_of b) (tree_of c)
  tree_of (expr.Abs' p e) = Abs (tree_of e)
  tree_of (expr.Max' p a q b) = Max (tree_of a) (tree_of b)
  tree_of (expr.Min' p a q b) = Min (tree_of a) (tree_of b)
  tree_of (expr.Apply' p a q b) = Apply (tree_of a) (tree_of b)
  tree_of (expr.Field' p e name) = Field (tree_of e) name
  tree_of (expr.Length' p e) = Length (tree_of e)

  pub trees_of_row : {m : _} → Row_of-Expr m → Trees
  trees_of_row end_of-Expr = no_trees
  trees_of_row (more_of-Expr e rest) = tree_then (tree_of e) (trees_of_row rest)

  pub named_of : NamedExprs → NamedTrees
  named_of (NamedExprs' shape row) = named_of_row row

  pub named_of_row : {m : _} → Row_of-NamedExpr m → NamedTrees
  named_of_row end_of-NamedExpr = no_fields
  named_of_row (more_of-NamedExpr n e rest) = field_then n (tree_of e) (named_of_row rest)

-- the name and the tree of a field
abbrev pub entry_of : NamedExpr → List ℕ × Tree
entry_of f = (f.name, tree_of f.value)

-- the trees of the parts of an array literal
abbrev pub trees_in : Exprs → List Tree
trees_in es = map tree_of es.parts.items

-- the names and trees of the fields of a record literal
abbrev pub fields_in : NamedExprs → List (List ℕ × Tree)
fields_in fs = map entry_of (out-NamedExprs fs).fields.items
