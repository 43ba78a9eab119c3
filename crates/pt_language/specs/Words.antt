-- The words of an expression's text: each is the longest that fits, and blanks may stand between them.
use Rattle.std.specs.Prelude.{◌≡◌, ℕ, ◌≤◌, List, [], ◌∷◌, ◌++◌, length, take, drop, min, Bool, ◌||◌, ◌&&◌, not, ◌==◌, nat_le, if◌then◌else◌, Option, Some, None, option_map, codes}
use Rattle.std.specs.List.{prefix_len}
use Rattle.std.specs.Char.{is_ascii_digit, is_ascii_alphabetic, is_ascii_alphanumeric}
use Rattle.std.specs.Str.Parse.{digits_value}
use Rattle.std.specs.Cmp.Lexicographic.{pointwise}
use Rattle.std.specs.Prelude.{nat_eq}
use Rattle.pt_language.specs.declared.word.Word.{Word}
use Rattle.pt_language.specs.declared.word.Word.TheVariants.{Digits, Quoted, Name}
use Rattle.pt_language.specs.declared.word.Word.TheVariants as word
use Rattle.pt_language.specs.declared.word.Symbol.{Symbol}
use Rattle.pt_language.specs.declared.word.Symbol.TheVariants as symbol

-- a word, and the text behind it
abbrev pub Found : Type 0
Found = Option (Word × List ℕ)

-- a blank: a space, a tab, LF or CR
abbrev pub is_blank : ℕ → Bool
is_blank c = c == 32 || c == 9 || c == 10 || c == 13

-- the text without the blanks at its front
abbrev pub without_blanks : List ℕ → List ℕ
without_blanks text = drop (prefix_len is_blank text) text

-- what begins a name, and what goes on with it
abbrev pub begins_name : ℕ → Bool
begins_name c = is_ascii_alphabetic c || c == 95

abbrev pub continues_name : ℕ → Bool
continues_name c = is_ascii_alphanumeric c || c == 95

-- the number that digits say, or the greatest of 64 bits where it is more
abbrev pub number_of : List ℕ → ℕ
number_of digits = min (digits_value 10 digits) 0xffff_ffff_ffff_ffff

-- all digits at the front
abbrev pub digits_at : List ℕ → Word × List ℕ
digits_at text = (Digits (number_of (take (prefix_len is_ascii_digit text) text)), drop (prefix_len is_ascii_digit text) text)

abbrev is_text : List ℕ → List ℕ → Bool
is_text xs ys = pointwise nat_eq xs ys

-- a name of at most 64 bytes, or one of the five reserved words
abbrev pub name_of : List ℕ → Option Word
name_of text = if is_text text (codes "true") then Some (word.Symbol symbol.True) else
    (if is_text text (codes "false") then Some (word.Symbol symbol.False) else
    (if is_text text (codes "abs") then Some (word.Symbol symbol.Abs) else
    (if is_text text (codes "max") then Some (word.Symbol symbol.Max) else
    (if is_text text (codes "min") then Some (word.Symbol symbol.Min) else
    (if nat_le (length text) 64 then Some (Name text) else None)))))

-- all of a name at the front
abbrev pub name_at : List ℕ → Found
name_at text = option_map (λ w. (w, drop (prefix_len continues_name text) text)) (name_of (take (prefix_len continues_name text) text))

-- what a backslash and a letter stand for
abbrev pub escape_of : ℕ → Option ℕ
escape_of c = if c == 34 then Some 34 else (if c == 92 then Some 92 else (if c == 110 then Some 10 else (if c == 116 then Some 9 else (if c == 114 then Some 13 else None))))

-- what was read, behind a byte
abbrev pub behind : ℕ → List ℕ × List ℕ → List ℕ × List ℕ
behind c read = (c ∷ read.0, read.1)

-- what was read, behind an escape that there is
abbrev pub escaped : Option ℕ → Option (List ℕ × List ℕ) → Option (List ℕ × List ℕ)
escaped None read = None
escaped (Some c) read = option_map (behind c) read

-- the content of a string up to its closing quote, and the text behind that
abbrev mutual
  pub string_at : List ℕ → Option (List ℕ × List ℕ)
  string_at [] = None
  string_at (c ∷ cs) = if c == 34 then Some ([], cs) else (if c == 92 then escape_at cs else option_map (behind c) (string_at cs))

  -- the same behind a backslash
  pub escape_at : List ℕ → Option (List ℕ × List ℕ)
  escape_at [] = None
  escape_at (c ∷ cs) = escaped (escape_of c) (string_at cs)

-- the symbols of two bytes
abbrev pub symbol_of_two : ℕ → ℕ → Option Symbol
symbol_of_two c d = if c == 60 then (if d == 61 then Some symbol.LessEqual else None) else
    (if c == 62 then (if d == 61 then Some symbol.GreaterEqual else None) else
    (if c == 61 then (if d == 61 then Some symbol.Equal else None) else
    (if c == 33 then (if d == 61 then Some symbol.Unequal else None) else
    (if c == 38 then (if d == 38 then Some symbol.And else None) else
    (if c == 124 then (if d == 124 then Some symbol.Or else None) else None)))))

-- the symbols of one byte
abbrev pub symbol_of_one : ℕ → Option Symbol
symbol_of_one c = if c == 40 then Some symbol.Open else
    (if c == 41 then Some symbol.Close else
    (if c == 123 then Some symbol.OpenBrace else
    (if c == 125 then Some symbol.CloseBrace else
    (if c == 44 then Some symbol.Comma else
    (if c == 46 then Some symbol.Dot else
    (if c == 63 then Some symbol.Question else
    (if c == 58 then Some symbol.Colon else
    (if c == 61 then Some symbol.Assign else
    (if c == 33 then Some symbol.Not else
    (if c == 45 then Some symbol.Minus else
    (if c == 43 then Some symbol.Plus else
    (if c == 42 then Some symbol.Star else
    (if c == 47 then Some symbol.Slash else
    (if c == 37 then Some symbol.Percent else
    (if c == 60 then Some symbol.Less else
    (if c == 62 then Some symbol.Greater else None))))))))))))))))

-- the longer symbol where one of two bytes fits
abbrev symbol_or : Option Symbol → Option Symbol → List ℕ → List ℕ → Found
symbol_or (Some s) one short long = Some (word.Symbol s, long)
symbol_or None one short long = option_map (λ s. (word.Symbol s, short)) one

abbrev pub symbol_at : ℕ → List ℕ → Found
symbol_at c [] = option_map (λ s. (word.Symbol s, [])) (symbol_of_one c)
symbol_at c (d ∷ cs) = symbol_or (symbol_of_two c d) (symbol_of_one c) (d ∷ cs) cs

abbrev pub symbol_found : List ℕ → Found
symbol_found [] = None
symbol_found (c ∷ cs) = symbol_at c cs

-- a string behind its opening quote
abbrev pub quoted_at : List ℕ → Found
quoted_at text = option_map (λ read. (Quoted read.0, read.1)) (string_at text)

-- what stands in a string as it is: all but a quote and a backslash
abbrev pub is_plain : ℕ → Bool
is_plain c = not (c == 34) && not (c == 92)

-- what stands in a string where a run of plain bytes ends, and the text behind it: an escaped character, or, at None, the closing quote
abbrev pub escape_mark : List ℕ → Option (Option ℕ × List ℕ)
escape_mark [] = None
escape_mark (c ∷ cs) = option_map (λ d. (Some d, cs)) (escape_of c)

abbrev pub mark_at : List ℕ → Option (Option ℕ × List ℕ)
mark_at [] = None
mark_at (c ∷ cs) = if c == 34 then Some (None, cs) else (if c == 92 then escape_mark cs else None)

-- the word at the front of a text, and the text behind it
abbrev pub word_at : List ℕ → Found
word_at [] = None
word_at (c ∷ cs) = if c == 34 then quoted_at cs else
    (if is_ascii_digit c then Some (digits_at (c ∷ cs)) else
    (if begins_name c then name_at (c ∷ cs) else symbol_at c cs))

-- a text is these words, up to a rest at whose front no word stands
pub data Splits : List ℕ → List Word → List ℕ → Type 0 where
  stops : {text : List ℕ} → word_at (without_blanks text) ≡ None → Splits text [] (without_blanks text)
  goes_on : {text rest left : List ℕ} {w : Word} {ws : List Word} → word_at (without_blanks text) ≡ Some (w, rest) → Splits rest ws left → Splits text (w ∷ ws) left
