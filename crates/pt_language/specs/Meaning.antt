-- What an expression comes to where its names have a meaning. Operands count from left to right, and the first that gives no value decides.
use Rattle.std.specs.Prelude.{ℕ, ℤ, pos, negsuc, zero, suc, ◌^◌, ◌+ℤ◌, ◌-ℤ◌, ◌*ℤ◌, neg_ℤ, unsigned_abs, int_div, int_lt, List, [], ◌∷◌, ◌++◌, length, slice_get, chars, Option, Some, None, true, false, not, nat_lt, nat_le, if◌then◌else◌}
use Rattle.std.specs.Prelude.{Bool as Truth}
use Rattle.pt_value.specs.Value.{Value, Int, Bool, Words, Array, Record, values_of, list_of, fields_of, size}
use Rattle.pt_value.specs.Record.{field_at}
use Rattle.pt_language.specs.declared.expr.BinaryOp.{BinaryOp}
use Rattle.pt_language.specs.declared.expr.BinaryOp.TheVariants as op
use Rattle.pt_language.specs.declared.eval_fault.EvalFault.TheVariants.{DivideByZero, Overflow, Index, Size}
use Rattle.pt_language.specs.Outcome.{Outcome, Gives, Stops, Wrong, and_then}
use Rattle.pt_language.specs.Same.{is_same}
use Rattle.pt_language.specs.Scope.{Scope, named}
use Rattle.pt_language.specs.Comparable.{have_join}
use Rattle.pt_language.specs.RecordOf.{record_of}
use Rattle.pt_language.specs.Tree as tree
use Rattle.pt_language.specs.Tree.{Tree, Trees, no_trees, tree_then, NamedTrees, no_fields, field_then}

-- an i64
abbrev pub fits : ℤ → Truth
fits (pos n) = nat_lt n (2 ^ 63)
fits (negsuc n) = nat_lt n (2 ^ 63)

-- the exact number, where it is an i64
abbrev pub exact : ℤ → Outcome Value
exact n = if fits n then Gives (Int n) else Stops Overflow

-- a value, where its size is at most 65,536
abbrev pub within : Value → Outcome Value
within v = if nat_le (size v) 65536 then Gives v else Stops Size

-- of one integer, of two, of two truth values
abbrev pub of_int : (ℤ → Outcome Value) → Value → Outcome Value
of_int go (Int n) = go n
of_int go _ = Wrong

abbrev pub of_ints : (ℤ → ℤ → Outcome Value) → Value → Value → Outcome Value
of_ints go (Int m) (Int n) = go m n
of_ints go _ _ = Wrong

abbrev pub truth : Value → Outcome Truth
truth (Bool b) = Gives b
truth _ = Wrong

-- the truth value itself
abbrev pub as_truth : Value → Outcome Value
as_truth v = and_then (truth v) (λ b. Gives (Bool b))

abbrev pub negated : Value → Outcome Value
negated = of_int (λ n. exact (neg_ℤ n))

abbrev pub denied : Value → Outcome Value
denied (Bool b) = Gives (Bool (not b))
denied _ = Wrong

abbrev pub magnitude : Value → Outcome Value
magnitude = of_int (λ n. exact (pos (unsigned_abs n)))

abbrev pub greatest : Value → Value → Outcome Value
greatest = of_ints (λ m n. Gives (Int (if int_lt m n then n else m)))

abbrev pub least : Value → Value → Outcome Value
least = of_ints (λ m n. Gives (Int (if int_lt n m then n else m)))

-- the quotient is truncated toward zero
abbrev pub divided : (ℤ → ℤ → Outcome Value) → ℤ → ℤ → Outcome Value
divided go m (pos zero) = Stops DivideByZero
divided go m (pos (suc n)) = go m (pos (suc n))
divided go m (negsuc n) = go m (negsuc n)

abbrev pub quotient : ℤ → ℤ → Outcome Value
quotient = divided (λ m n. exact (int_div m n))

-- m less n times the quotient
abbrev pub remainder : ℤ → ℤ → Outcome Value
remainder = divided (λ m n. Gives (Int (m -ℤ (n *ℤ int_div m n))))

-- values whose types have a join that isn't general
abbrev pub compared : (Truth → Truth) → Value → Value → Outcome Value
compared answer x y = if have_join x y then Gives (Bool (answer (is_same x y))) else Wrong

-- an operator on two integers
abbrev pub arithmetic : BinaryOp → ℤ → ℤ → Outcome Value
arithmetic op.Or m n = Wrong
arithmetic op.And m n = Wrong
arithmetic op.Equal m n = Wrong
arithmetic op.Unequal m n = Wrong
arithmetic op.Less m n = Gives (Bool (int_lt m n))
arithmetic op.LessEqual m n = Gives (Bool (not (int_lt n m)))
arithmetic op.Greater m n = Gives (Bool (int_lt n m))
arithmetic op.GreaterEqual m n = Gives (Bool (not (int_lt m n)))
arithmetic op.Add m n = exact (m +ℤ n)
arithmetic op.Subtract m n = exact (m -ℤ n)
arithmetic op.Multiply m n = exact (m *ℤ n)
arithmetic op.Divide m n = quotient m n
arithmetic op.Remainder m n = remainder m n

-- the exact sum of integers, and texts joined
abbrev pub sum : Value → Value → Outcome Value
sum (Int m) (Int n) = exact (m +ℤ n)
sum (Words xs) (Words ys) = within (Words (xs ++ ys))
sum _ _ = Wrong

-- an operator that takes both of its operands
abbrev pub applied : BinaryOp → Value → Value → Outcome Value
applied op.Equal x y = compared (λ b. b) x y
applied op.Unequal x y = compared not x y
applied op.Add x y = sum x y
applied o x y = of_ints (arithmetic o) x y

-- the later operand counts only where the first doesn't decide
abbrev pub either : Outcome Value → Outcome Value → Outcome Value
either first later = and_then first (λ x. and_then (truth x) (λ b.
    if b then Gives (Bool true) else and_then later (λ y. and_then (truth y) (λ c. Gives (Bool c)))))

abbrev pub both : Outcome Value → Outcome Value → Outcome Value
both first later = and_then first (λ x. and_then (truth x) (λ b.
    if b then and_then later (λ y. and_then (truth y) (λ c. Gives (Bool c))) else Gives (Bool false)))

abbrev pub operated : BinaryOp → Outcome Value → Outcome Value → Outcome Value
operated op.Or first later = either first later
operated op.And first later = both first later
operated o first later = and_then first (λ x. and_then later (applied o x))

-- the operand that the condition chooses
abbrev pub chosen : Outcome Value → Outcome Value → Outcome Value → Outcome Value
chosen test first second = and_then test (λ x. and_then (truth x) (λ b. if b then first else second))

abbrev pub found : Option Value → Outcome Value
found (Some v) = Gives v
found None = Stops Index

-- the element at an index, from 0 to the length minus 1
abbrev pub at : List Value → ℤ → Outcome Value
at vs (pos n) = found (slice_get vs n)
at vs (negsuc n) = Stops Index

abbrev pub element : Value → Value → Outcome Value
element (Array vs) (Int index) = at (list_of vs) index
element _ _ = Wrong

abbrev pub there : Option Value → Outcome Value
there (Some v) = Gives v
there None = Wrong

-- the field of a record
abbrev pub field : List ℕ → Value → Outcome Value
field name (Record fs) = there (field_at (fields_of fs) name)
field name _ = Wrong

-- the elements of an array, the characters of a text
abbrev pub length_of : Value → Outcome Value
length_of (Words xs) = exact (pos (length (chars xs)))
length_of (Array vs) = exact (pos (length (list_of vs)))
length_of _ = Wrong

-- the record of some fields
abbrev pub recorded : List (List ℕ × Value) → Outcome Value
recorded ps = and_then (record_of ps) within

-- the parts of an array
abbrev pub arrayed : List Value → Outcome Value
arrayed vs = within (Array (values_of vs))

abbrev mutual
  pub value : Scope → Tree → Outcome Value
  value scope (tree.Int n) = Gives (Int n)
  value scope (tree.Bool b) = Gives (Bool b)
  value scope (tree.Words xs) = Gives (Words xs)
  value scope (tree.Name name) = named scope name
  value scope (tree.Array ts) = and_then (values scope ts) arrayed
  value scope (tree.Record fs) = and_then (named_values scope fs) recorded
  value scope (tree.Negate t) = and_then (value scope t) negated
  value scope (tree.Not t) = and_then (value scope t) denied
  value scope (tree.Binary o s t) = operated o (value scope s) (value scope t)
  value scope (tree.Cond s t u) = chosen (value scope s) (value scope t) (value scope u)
  value scope (tree.Abs t) = and_then (value scope t) magnitude
  value scope (tree.Max s t) = and_then (value scope s) (λ x. and_then (value scope t) (greatest x))
  value scope (tree.Min s t) = and_then (value scope s) (λ x. and_then (value scope t) (least x))
  value scope (tree.Apply s t) = and_then (value scope s) (λ x. and_then (value scope t) (element x))
  value scope (tree.Field t name) = and_then (value scope t) (field name)
  value scope (tree.Length t) = and_then (value scope t) length_of

  -- the parts of an array literal
  pub values : Scope → Trees → Outcome (List Value)
  values scope no_trees = Gives []
  values scope (tree_then t ts) = and_then (value scope t) (λ v. and_then (values scope ts) (λ vs. Gives (v ∷ vs)))

  -- the fields of a record literal, in the order in which they are written
  pub named_values : Scope → NamedTrees → Outcome (List (List ℕ × Value))
  named_values scope no_fields = Gives []
  named_values scope (field_then n t fs) = and_then (value scope t) (λ v. and_then (named_values scope fs) (λ ps. Gives ((n, v) ∷ ps)))
