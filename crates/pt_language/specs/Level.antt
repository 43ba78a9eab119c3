-- The levels of operators, and how tightly each symbol binds.
use Rattle.std.specs.Prelude.{◌≡◌, ℕ, List, [], ◌∷◌, nat_eq, if◌then◌else◌, Option, Some, None}
use Rattle.pt_language.specs.declared.expr.BinaryOp.{BinaryOp}
use Rattle.pt_language.specs.declared.expr.BinaryOp.TheVariants as op
use Rattle.pt_language.specs.declared.word.Word.{Word}
use Rattle.pt_language.specs.declared.word.Word.TheVariants.{Digits, Quoted, Name}
use Rattle.pt_language.specs.declared.word.Word.TheVariants as word
use Rattle.pt_language.specs.declared.word.Symbol.{Symbol}
use Rattle.pt_language.specs.declared.word.Symbol.TheVariants.{True, False, Abs, Max, Min, Open, Close, OpenBrace, CloseBrace, Comma, Dot, Question, Colon, Assign, Not, Minus, Plus, Star, Slash, Percent, Less, LessEqual, Greater, GreaterEqual, Equal, Unequal, And, Or}
use Rattle.pt_language.specs.declared.level.Level.{Level}
use Rattle.pt_language.specs.declared.level.Level.TheVariants as level

-- the number of a level
abbrev pub rank : Level → ℕ
rank level.Or = 2
rank level.And = 3
rank level.Equality = 4
rank level.Comparison = 5
rank level.Sum = 6
rank level.Term = 7

-- how tightly a symbol binds to what stands before it
abbrev pub binding_of : Symbol → ℕ
binding_of Question = 1
binding_of Or = 2
binding_of And = 3
binding_of Equal = 4
binding_of Unequal = 4
binding_of Less = 5
binding_of LessEqual = 5
binding_of Greater = 5
binding_of GreaterEqual = 5
binding_of Plus = 6
binding_of Minus = 6
binding_of Star = 7
binding_of Slash = 7
binding_of Percent = 7
binding_of Open = 8
binding_of Dot = 8
binding_of True = 0
binding_of False = 0
binding_of Abs = 0
binding_of Max = 0
binding_of Min = 0
binding_of Close = 0
binding_of OpenBrace = 0
binding_of CloseBrace = 0
binding_of Comma = 0
binding_of Colon = 0
binding_of Assign = 0
binding_of Not = 0

-- the same of a word, and of the first of some words
abbrev pub binding : Word → ℕ
binding (Digits n) = 0
binding (Quoted text) = 0
binding (Name name) = 0
binding (word.Symbol s) = binding_of s

abbrev pub binding_at : List Word → ℕ
binding_at [] = 0
binding_at (w ∷ ws) = binding w

-- the operator that a symbol stands for between two operands
abbrev pub operator_of : Symbol → Option BinaryOp
operator_of Or = Some op.Or
operator_of And = Some op.And
operator_of Equal = Some op.Equal
operator_of Unequal = Some op.Unequal
operator_of Less = Some op.Less
operator_of LessEqual = Some op.LessEqual
operator_of Greater = Some op.Greater
operator_of GreaterEqual = Some op.GreaterEqual
operator_of Plus = Some op.Add
operator_of Minus = Some op.Subtract
operator_of Star = Some op.Multiply
operator_of Slash = Some op.Divide
operator_of Percent = Some op.Remainder
operator_of True = None
operator_of False = None
operator_of Abs = None
operator_of Max = None
operator_of Min = None
operator_of Open = None
operator_of Close = None
operator_of OpenBrace = None
operator_of CloseBrace = None
operator_of Comma = None
operator_of Dot = None
operator_of Question = None
operator_of Colon = None
operator_of Assign = None
operator_of Not = None

-- the operator of a level that a word is
abbrev pub operator_at : Level → Word → Option BinaryOp
operator_at l (Digits n) = None
operator_at l (Quoted text) = None
operator_at l (Name name) = None
operator_at l (word.Symbol s) = if nat_eq (binding_of s) (rank l) then operator_of s else None
