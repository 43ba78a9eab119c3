-- What is too long, too deep or too full of operators to be read.
use Rattle.std.specs.Prelude.{◌≡◌, ℕ, ◌+◌, ◌-◌, ◌<◌, List, [], ◌∷◌, length, max, Bool, true, false, not, ◌&&◌, nat_lt, ◌||◌, if◌then◌else◌, ◌⊎◌, is_some}
use Rattle.pt_language.specs.declared.word.Word.{Word}
use Rattle.pt_language.specs.declared.word.Word.TheVariants.{Digits, Quoted, Name}
use Rattle.pt_language.specs.declared.word.Word.TheVariants as word
use Rattle.pt_language.specs.declared.word.Symbol.{Symbol}
use Rattle.pt_language.specs.declared.word.Symbol.TheVariants.{True, False, Abs, Max, Min, Open, Close, OpenBrace, CloseBrace, Comma, Dot, Question, Colon, Assign, Not, Minus, Plus, Star, Slash, Percent, Less, LessEqual, Greater, GreaterEqual, Equal, Unequal, And, Or}
use Rattle.pt_language.specs.Words.{Splits}
use Rattle.pt_language.specs.Level.{binding}
use Rattle.pt_language.specs.Symbol.{is_symbol}
use Rattle.pt_language.specs.Descent.{bare_digits}

-- the open brackets behind a word: a closing one closes the last that is open, if any is
abbrev pub open_behind : ℕ → Word → ℕ
open_behind n w = if is_symbol Open w then n + 1 else (if is_symbol OpenBrace w then n + 1 else (if is_symbol Close w then n - 1 else (if is_symbol CloseBrace w then n - 1 else n)))

-- the most brackets that are open at some word, from a number of open ones on
abbrev pub most_open : ℕ → List Word → ℕ
most_open n [] = n
most_open n (w ∷ ws) = max n (most_open (open_behind n w) ws)

-- whether an operand ends with a word, so that a `-` behind it stands between two operands
abbrev pub ends_operand : Word → Bool
ends_operand (Digits n) = true
ends_operand (Quoted text) = true
ends_operand (Name name) = true
ends_operand (word.Symbol True) = true
ends_operand (word.Symbol False) = true
ends_operand (word.Symbol Close) = true
ends_operand (word.Symbol CloseBrace) = true
ends_operand (word.Symbol s) = false

-- whether a word is one of `- ! * / % + < <= > >= == != && || ? .` and `(`
abbrev pub is_counted : Word → Bool
is_counted w = is_symbol Not w || nat_lt 0 (binding w)

-- how many of them there are; a `-` that makes a literal with the digits behind it isn't counted
abbrev pub counted : Bool → List Word → ℕ
counted behind_operand [] = 0
counted behind_operand (w ∷ ws) =
    (if is_symbol Minus w && not behind_operand && is_some (bare_digits ws) then 0 else (if is_counted w then 1 else 0)) + counted (ends_operand w) ws

abbrev pub IsTooFull : List Word → Type 0
IsTooFull ws = (64 < most_open 0 ws) ⊎ (256 < counted false ws)

-- a text of more than 65,536 bytes, or whose words up to the first place that isn't one are too full
abbrev pub IsDeep : List ℕ → Type 0
IsDeep text = (65536 < length text) ⊎ ((ws : List Word) × (left : List ℕ) × Splits text ws left × IsTooFull ws)
