-- Symbols by their numbers, by which they are told apart.
use Rattle.std.specs.Prelude.{◌≡◌, ℕ, List, [], ◌∷◌, Bool, false, nat_eq, if◌then◌else◌, Option, Some, None, refl}
use Rattle.pt_language.specs.declared.word.Word.{Word}
use Rattle.pt_language.specs.declared.word.Word.TheVariants.{Digits, Quoted, Name}
use Rattle.pt_language.specs.declared.word.Word.TheVariants as word
use Rattle.pt_language.specs.declared.word.Symbol.{Symbol}
use Rattle.pt_language.specs.declared.word.Symbol.TheVariants.{True, False, Abs, Max, Min, Open, Close, OpenBrace, CloseBrace, Comma, Dot, Question, Colon, Assign, Not, Minus, Plus, Star, Slash, Percent, Less, LessEqual, Greater, GreaterEqual, Equal, Unequal, And, Or}

-- the number of a symbol in the list of all
abbrev pub number : Symbol → ℕ
number True = 0
number False = 1
number Abs = 2
number Max = 3
number Min = 4
number Open = 5
number Close = 6
number OpenBrace = 7
number CloseBrace = 8
number Comma = 9
number Dot = 10
number Question = 11
number Colon = 12
number Assign = 13
number Not = 14
number Minus = 15
number Plus = 16
number Star = 17
number Slash = 18
number Percent = 19
number Less = 20
number LessEqual = 21
number Greater = 22
number GreaterEqual = 23
number Equal = 24
number Unequal = 25
number And = 26
number Or = 27

-- whether a word is this symbol
abbrev pub is_symbol : Symbol → Word → Bool
is_symbol s (Digits n) = false
is_symbol s (Quoted text) = false
is_symbol s (Name name) = false
is_symbol s (word.Symbol r) = nat_eq (number r) (number s)

-- the words behind this symbol, where it stands at the front
abbrev pub after : Symbol → List Word → Option (List Word)
after s [] = None
after s (w ∷ ws) = if is_symbol s w then Some ws else None
