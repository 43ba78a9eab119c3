-- Names of expressions, which are those of the fields of a record.
use Rattle.std.specs.Prelude.{◌≡◌, ℕ, ◌≤◌, List, [], ◌∷◌, length, All, Bool, false, IsTrue, ◌||◌, ◌==◌, codes, bytes_eq}
use Rattle.std.specs.Char.{is_ascii_alphabetic, is_ascii_alphanumeric}

-- a letter or an underscore
abbrev pub BeginsName : ℕ → Type 0
BeginsName c = IsTrue (is_ascii_alphabetic c || c == 95)

-- a letter, a digit or an underscore
abbrev pub ContinuesName : ℕ → Type 0
ContinuesName c = IsTrue (is_ascii_alphanumeric c || c == 95)

-- of the form [A-Za-z_][A-Za-z0-9_]*
abbrev pub HasNameForm : List ℕ → Type 0
HasNameForm [] = ⊥
HasNameForm (c ∷ cs) = BeginsName c × All ContinuesName cs

-- the words that expressions reserve
abbrev pub is_reserved : List ℕ → Bool
is_reserved n = bytes_eq n (codes "true") || bytes_eq n (codes "false") || bytes_eq n (codes "abs") || bytes_eq n (codes "max") || bytes_eq n (codes "min")

-- a name: of that form, with at most 64 bytes, and none of these words
pub record IsName (name : List ℕ) : Type 0 where
  pub form : HasNameForm name
  pub short : length name ≤ 64
  pub free : is_reserved name ≡ false
