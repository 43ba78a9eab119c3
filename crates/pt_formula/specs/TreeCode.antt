-- Trees of expressions as values, by which a proof tells them apart. A record's first name says what the tree is.
use Rattle.std.specs.Prelude.{◌≡◌, ℕ, zero, suc, pos, List, [], ◌∷◌, refl}
use Rattle.std.specs.Coded.{Coded, code_by}
use Rattle.std.proofs.Common.{ap}
use Rattle.pt_value.specs.Value as value
use Rattle.pt_value.specs.Value.{Value, Values, no_values, value_then}
use Rattle.pt_value.specs.ValueCode.{coded_value}
use Rattle.pt_language.specs.declared.expr.BinaryOp.{BinaryOp}
use Rattle.pt_language.specs.declared.expr.BinaryOp.TheVariants.{Or, And, Equal, Unequal, Less, LessEqual, Greater, GreaterEqual, Add, Subtract, Multiply, Divide, Remainder}
use Rattle.pt_language.specs.Tree as tree
use Rattle.pt_language.specs.Tree.{Tree, Trees, NamedTrees, no_trees, tree_then}

-- operators by number, there and back
abbrev number_of : BinaryOp → ℕ
number_of Or = 0
number_of And = 1
number_of Equal = 2
number_of Unequal = 3
number_of Less = 4
number_of LessEqual = 5
number_of Greater = 6
number_of GreaterEqual = 7
number_of Add = 8
number_of Subtract = 9
number_of Multiply = 10
number_of Divide = 11
number_of Remainder = 12

abbrev operator : ℕ → BinaryOp
operator zero = Or
operator (suc zero) = And
operator (suc (suc zero)) = Equal
operator (suc (suc (suc zero))) = Unequal
operator (suc (suc (suc (suc zero)))) = Less
operator (suc (suc (suc (suc (suc zero))))) = LessEqual
operator (suc (suc (suc (suc (suc (suc zero)))))) = Greater
operator (suc (suc (suc (suc (suc (suc (suc zero))))))) = GreaterEqual
operator (suc (suc (suc (suc (suc (suc (suc (suc zero)))))))) = Add
operator (suc (suc (suc (suc (suc (suc (suc (suc (suc zero))))))))) = Subtract
operator (suc (suc (suc (suc (suc (suc (suc (suc (suc (suc zero)))))))))) = Multiply
operator (suc (suc (suc (suc (suc (suc (suc (suc (suc (suc (suc zero))))))))))) = Divide
operator (suc (suc (suc (suc (suc (suc (suc (suc (suc (suc (suc (suc n)))))))))))) = Remainder

operator-number_of : (o : BinaryOp) → operator (number_of o) ≡ o
operator-number_of Or = refl
operator-number_of And = refl
operator-number_of Equal = refl
operator-number_of Unequal = refl
operator-number_of Less = refl
operator-number_of LessEqual = refl
operator-number_of Greater = refl
operator-number_of GreaterEqual = refl
operator-number_of Add = refl
operator-number_of Subtract = refl
operator-number_of Multiply = refl
operator-number_of Divide = refl
operator-number_of Remainder = refl

-- a record of one to three trees
abbrev one : List ℕ → Value → Value
one name v = value.Record (value.field_then name v value.no_fields)

abbrev two : List ℕ → Value → Value → Value
two name v w = value.Record (value.field_then name v (value.field_then [] w value.no_fields))

abbrev three : List ℕ → Value → Value → Value → Value
three name v w x = value.Record (value.field_then name v (value.field_then [] w (value.field_then [] x value.no_fields)))

abbrev mutual
  pub value_of : Tree → Value
  value_of (tree.Int n) = value.Int n
  value_of (tree.Bool b) = value.Bool b
  value_of (tree.Words xs) = value.Words xs
  value_of (tree.Array ts) = value.Array (values_of ts)
  value_of (tree.Name name) = one (0 ∷ name) (value.Int (pos 0))
  value_of (tree.Record fs) = value.Record (value.field_then (1 ∷ []) (value.Int (pos 0)) (fields_of fs))
  value_of (tree.Negate t) = one (2 ∷ []) (value_of t)
  value_of (tree.Not t) = one (3 ∷ []) (value_of t)
  value_of (tree.Abs t) = one (4 ∷ []) (value_of t)
  value_of (tree.Field t name) = one (5 ∷ name) (value_of t)
  value_of (tree.Length t) = one (6 ∷ []) (value_of t)
  value_of (tree.Max s t) = two (7 ∷ []) (value_of s) (value_of t)
  value_of (tree.Min s t) = two (8 ∷ []) (value_of s) (value_of t)
  value_of (tree.Apply s t) = two (9 ∷ []) (value_of s) (value_of t)
  value_of (tree.Cond s t u) = three (10 ∷ []) (value_of s) (value_of t) (value_of u)
  value_of (tree.Binary o s t) = two (11 ∷ number_of o ∷ []) (value_of s) (value_of t)

  values_of : Trees → Values
  values_of no_trees = no_values
  values_of (tree_then t ts) = value_then (value_of t) (values_of ts)

  fields_of : NamedTrees → value.Named
  fields_of tree.no_fields = value.no_fields
  fields_of (tree.field_then n t fs) = value.field_then n (value_of t) (fields_of fs)

-- the trees of a record
abbrev first : NamedTrees → Tree
first tree.no_fields = tree.Int (pos 0)
first (tree.field_then n t fs) = t

abbrev second : NamedTrees → Tree
second tree.no_fields = tree.Int (pos 0)
second (tree.field_then n t fs) = first fs

abbrev head : List ℕ → ℕ
head [] = 0
head (n ∷ ns) = n

-- the tree that a number, the rest of the name, the first tree and the others stand for
abbrev by_number : ℕ → List ℕ → Tree → NamedTrees → Tree
by_number zero name t fs = tree.Name name
by_number (suc zero) name t fs = tree.Record fs
by_number (suc (suc zero)) name t fs = tree.Negate t
by_number (suc (suc (suc zero))) name t fs = tree.Not t
by_number (suc (suc (suc (suc zero)))) name t fs = tree.Abs t
by_number (suc (suc (suc (suc (suc zero))))) name t fs = tree.Field t name
by_number (suc (suc (suc (suc (suc (suc zero)))))) name t fs = tree.Length t
by_number (suc (suc (suc (suc (suc (suc (suc zero))))))) name t fs = tree.Max t (first fs)
by_number (suc (suc (suc (suc (suc (suc (suc (suc zero)))))))) name t fs = tree.Min t (first fs)
by_number (suc (suc (suc (suc (suc (suc (suc (suc (suc zero))))))))) name t fs = tree.Apply t (first fs)
by_number (suc (suc (suc (suc (suc (suc (suc (suc (suc (suc zero)))))))))) name t fs = tree.Cond t (first fs) (second fs)
by_number (suc (suc (suc (suc (suc (suc (suc (suc (suc (suc (suc n))))))))))) name t fs = tree.Binary (operator (head name)) t (first fs)

abbrev by_name : List ℕ → Tree → NamedTrees → Tree
by_name [] t fs = t
by_name (n ∷ name) t fs = by_number n name t fs

abbrev whole : NamedTrees → Tree
whole tree.no_fields = tree.Int (pos 0)
whole (tree.field_then n t fs) = by_name n t fs

abbrev mutual
  pub tree_of : Value → Tree
  tree_of (value.Int n) = tree.Int n
  tree_of (value.Bool b) = tree.Bool b
  tree_of (value.Words xs) = tree.Words xs
  tree_of (value.Array vs) = tree.Array (trees_of vs)
  tree_of (value.Record fs) = whole (named_of fs)

  trees_of : Values → Trees
  trees_of no_values = no_trees
  trees_of (value_then v vs) = tree_then (tree_of v) (trees_of vs)

  named_of : value.Named → NamedTrees
  named_of value.no_fields = tree.no_fields
  named_of (value.field_then n v fs) = tree.field_then n (tree_of v) (named_of fs)

mutual
  pub tree_of-value_of : (t : Tree) → tree_of (value_of t) ≡ t
  tree_of-value_of (tree.Int n) = refl
  tree_of-value_of (tree.Bool b) = refl
  tree_of-value_of (tree.Words xs) = refl
  tree_of-value_of (tree.Array ts) = ap tree.Array (trees_of-values_of ts)
  tree_of-value_of (tree.Name name) = refl
  tree_of-value_of (tree.Record fs) = ap tree.Record (named_of-fields_of fs)
  tree_of-value_of (tree.Negate t) = ap tree.Negate (tree_of-value_of t)
  tree_of-value_of (tree.Not t) = ap tree.Not (tree_of-value_of t)
  tree_of-value_of (tree.Abs t) = ap tree.Abs (tree_of-value_of t)
  tree_of-value_of (tree.Field t name) = ap (λ s. tree.Field s name) (tree_of-value_of t)
  tree_of-value_of (tree.Length t) = ap tree.Length (tree_of-value_of t)
  tree_of-value_of (tree.Max s t) = λ i. tree.Max (tree_of-value_of s i) (tree_of-value_of t i)
  tree_of-value_of (tree.Min s t) = λ i. tree.Min (tree_of-value_of s i) (tree_of-value_of t i)
  tree_of-value_of (tree.Apply s t) = λ i. tree.Apply (tree_of-value_of s i) (tree_of-value_of t i)
  tree_of-value_of (tree.Cond s t u) = λ i. tree.Cond (tree_of-value_of s i) (tree_of-value_of t i) (tree_of-value_of u i)
  tree_of-value_of (tree.Binary o s t) = λ i. tree.Binary (operator-number_of o i) (tree_of-value_of s i) (tree_of-value_of t i)

  trees_of-values_of : (ts : Trees) → trees_of (values_of ts) ≡ ts
  trees_of-values_of no_trees = refl
  trees_of-values_of (tree_then t ts) = λ i. tree_then (tree_of-value_of t i) (trees_of-values_of ts i)

  named_of-fields_of : (fs : NamedTrees) → named_of (fields_of fs) ≡ fs
  named_of-fields_of tree.no_fields = refl
  named_of-fields_of (tree.field_then n t fs) = λ i. tree.field_then n (tree_of-value_of t i) (named_of-fields_of fs i)

-- the code of a tree
abbrev pub coded_tree : Coded Tree
coded_tree = code_by Value coded_value value_of tree_of tree_of-value_of
