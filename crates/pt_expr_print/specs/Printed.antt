-- The text that a tree prints as.
use Rattle.std.specs.Prelude.{ℕ, pos, negsuc, List, [], ◌∷◌, ◌++◌, Bool, true, false, codes}
use Rattle.std.specs.Fmt.{signed_decimal}
use Rattle.pt_value.specs.Printed.{quoted, in_braces, printed_truth}
use Rattle.pt_language.specs.declared.expr.BinaryOp.{BinaryOp}
use Rattle.pt_language.specs.declared.expr.BinaryOp.TheVariants as op
use Rattle.pt_language.specs.Tree as tree
use Rattle.pt_language.specs.Tree.{Tree, Int, Words, Name, Array, Record, Negate, Not, Binary, Cond, Abs, Max, Min, Apply, Field, Length, Trees, no_trees, tree_then, NamedTrees, no_fields, field_then}

-- an operator, with a blank on each side
abbrev pub sign : BinaryOp → List ℕ
sign op.Or = codes " || "
sign op.And = codes " && "
sign op.Equal = codes " == "
sign op.Unequal = codes " != "
sign op.Less = codes " < "
sign op.LessEqual = codes " <= "
sign op.Greater = codes " > "
sign op.GreaterEqual = codes " >= "
sign op.Add = codes " + "
sign op.Subtract = codes " - "
sign op.Multiply = codes " * "
sign op.Divide = codes " / "
sign op.Remainder = codes " % "

-- whether a tree is a literal, a name, an array, a record, a call or a postfix form: what stands bare as an operand of a binary operator or of `? :`
abbrev pub is_bare_operand : Tree → Bool
is_bare_operand (Int n) = true
is_bare_operand (tree.Bool b) = true
is_bare_operand (Words text) = true
is_bare_operand (Name name) = true
is_bare_operand (Array ts) = true
is_bare_operand (Record fs) = true
is_bare_operand (Negate t) = false
is_bare_operand (Not t) = false
is_bare_operand (Binary o s t) = false
is_bare_operand (Cond s t u) = false
is_bare_operand (Abs t) = true
is_bare_operand (Max s t) = true
is_bare_operand (Min s t) = true
is_bare_operand (Apply s t) = true
is_bare_operand (Field t name) = true
is_bare_operand (Length t) = true

-- what stands bare as the base of a call or of a field: the same but a negative literal
abbrev pub is_bare_base : Tree → Bool
is_bare_base (Int (pos n)) = true
is_bare_base (Int (negsuc n)) = false
is_bare_base t = is_bare_operand t

abbrev pub in_parentheses : List ℕ → List ℕ
in_parentheses text = codes "(" ++ (text ++ codes ")")

-- a text bare, or else in parentheses
abbrev pub bare_or_not : Bool → List ℕ → List ℕ
bare_or_not true text = text
bare_or_not false text = in_parentheses text

-- two texts with a comma between them
abbrev pub pair : List ℕ → List ℕ → List ℕ
pair first second = first ++ (codes ", " ++ second)

-- a field: its name, and its value behind an equals sign
abbrev pub printed_field : List ℕ → List ℕ → List ℕ
printed_field name value = name ++ (codes " = " ++ value)

-- literals as tokens print; a sign before parentheses; binary operators with a blank on each side; `a ? b : c`; calls, `a(i)`, `a.x` and `a.length()`
abbrev mutual
  pub printed : Tree → List ℕ
  printed (Int n) = signed_decimal n
  printed (tree.Bool b) = printed_truth b
  printed (Words text) = quoted text
  printed (Name name) = name
  printed (Array ts) = in_braces (each_printed ts)
  printed (Record fs) = in_braces (each_named fs)
  printed (Negate t) = codes "-" ++ in_parentheses (printed t)
  printed (Not t) = codes "!" ++ in_parentheses (printed t)
  printed (Binary o s t) = bare_or_not (is_bare_operand s) (printed s) ++ (sign o ++ bare_or_not (is_bare_operand t) (printed t))
  printed (Cond s t u) =
      bare_or_not (is_bare_operand s) (printed s) ++ (codes " ? " ++ (bare_or_not (is_bare_operand t) (printed t) ++ (codes " : " ++ bare_or_not (is_bare_operand u) (printed u))))
  printed (Abs t) = codes "abs" ++ in_parentheses (printed t)
  printed (Max s t) = codes "max" ++ in_parentheses (pair (printed s) (printed t))
  printed (Min s t) = codes "min" ++ in_parentheses (pair (printed s) (printed t))
  printed (Apply s t) = bare_or_not (is_bare_base s) (printed s) ++ in_parentheses (printed t)
  printed (Field t name) = bare_or_not (is_bare_base t) (printed t) ++ (codes "." ++ name)
  printed (Length t) = bare_or_not (is_bare_base t) (printed t) ++ codes ".length()"

  -- the text of each part of an array
  pub each_printed : Trees → List (List ℕ)
  each_printed no_trees = []
  each_printed (tree_then t ts) = printed t ∷ each_printed ts

  -- the text of each field of a record, in the order in which they are written
  pub each_named : NamedTrees → List (List ℕ)
  each_named no_fields = []
  each_named (field_then name t fs) = printed_field name (printed t) ∷ each_named fs
