-- The trees of the expression language. Parentheses leave no node.
use Rattle.std.specs.Prelude.{◌≡◌, ℕ, ℤ, suc, List, [], ◌∷◌, max, refl}
use Rattle.std.specs.Prelude.{Bool as Truth}
use Rattle.std.proofs.Common.{ap}
use Rattle.pt_language.specs.declared.expr.BinaryOp.{BinaryOp}

-- an expression: its literals, names and operators, each with the trees that it works on from left to right
mutual
  pub data Tree : Type 0 where
    Int : ℤ → Tree
    Bool : Truth → Tree
    Words : List ℕ → Tree
    Name : List ℕ → Tree
    Array : Trees → Tree
    Record : NamedTrees → Tree
    Negate : Tree → Tree
    Not : Tree → Tree
    Binary : BinaryOp → Tree → Tree → Tree
    Cond : Tree → Tree → Tree → Tree
    Abs : Tree → Tree
    Max : Tree → Tree → Tree
    Min : Tree → Tree → Tree
    Apply : Tree → Tree → Tree
    Field : Tree → List ℕ → Tree
    Length : Tree → Tree

  -- the parts of an array literal
  pub data Trees : Type 0 where
    no_trees : Trees
    tree_then : Tree → Trees → Trees

  -- the fields of a record literal, each a name and a tree, in the order in which they are written
  pub data NamedTrees : Type 0 where
    no_fields : NamedTrees
    field_then : List ℕ → Tree → NamedTrees → NamedTrees

-- the parts of an array literal, as a list and back
abbrev pub trees_of : List Tree → Trees
trees_of [] = no_trees
trees_of (t ∷ ts) = tree_then t (trees_of ts)

abbrev pub list_of : Trees → List Tree
list_of no_trees = []
list_of (tree_then t ts) = t ∷ list_of ts

-- the fields of a record literal, as a list and back
abbrev pub named_of : List (List ℕ × Tree) → NamedTrees
named_of [] = no_fields
named_of (f ∷ fs) = field_then f.0 f.1 (named_of fs)

abbrev pub fields_of : NamedTrees → List (List ℕ × Tree)
fields_of no_fields = []
fields_of (field_then n t fs) = (n, t) ∷ fields_of fs

pub list_of-trees_of : (ts : List Tree) → list_of (trees_of ts) ≡ ts
list_of-trees_of [] = refl
list_of-trees_of (t ∷ ts) = ap (λ us. t ∷ us) (list_of-trees_of ts)

pub trees_of-list_of : (ts : Trees) → trees_of (list_of ts) ≡ ts
trees_of-list_of no_trees = refl
trees_of-list_of (tree_then t ts) = ap (tree_then t) (trees_of-list_of ts)

pub fields_of-named_of : (fs : List (List ℕ × Tree)) → fields_of (named_of fs) ≡ fs
fields_of-named_of [] = refl
fields_of-named_of (f ∷ fs) = ap (λ gs. f ∷ gs) (fields_of-named_of fs)

pub named_of-fields_of : (fs : NamedTrees) → named_of (fields_of fs) ≡ fs
named_of-fields_of no_fields = refl
named_of-fields_of (field_then n t fs) = ap (field_then n t) (named_of-fields_of fs)

-- how deep nodes stand in one another
abbrev mutual
  pub height : Tree → ℕ
  height (Int n) = 0
  height (Bool b) = 0
  height (Words xs) = 0
  height (Name xs) = 0
  height (Array ts) = suc (height_of_trees ts)
  height (Record fs) = suc (height_of_named fs)
  height (Negate t) = suc (height t)
  height (Not t) = suc (height t)
  height (Binary op s t) = suc (max (height s) (height t))
  height (Cond s t u) = suc (max (height s) (max (height t) (height u)))
  height (Abs t) = suc (height t)
  height (Max s t) = suc (max (height s) (height t))
  height (Min s t) = suc (max (height s) (height t))
  height (Apply s t) = suc (max (height s) (height t))
  height (Field t n) = suc (height t)
  height (Length t) = suc (height t)

  pub height_of_trees : Trees → ℕ
  height_of_trees no_trees = 0
  height_of_trees (tree_then t ts) = max (height t) (height_of_trees ts)

  pub height_of_named : NamedTrees → ℕ
  height_of_named no_fields = 0
  height_of_named (field_then n t fs) = max (height t) (height_of_named fs)
