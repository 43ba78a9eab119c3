-- What a token stands for. Two tokens are equal exactly where their values are.
use Rattle.std.specs.Prelude.{◌≡◌, ℕ, List, [], ◌∷◌, map, refl}
use Rattle.std.specs.Coded.{Coded, code_by}
use Rattle.std.proofs.Common.{ap, sym, ◌∙◌}
use Rattle.pt_value.specs.declared.token.Token.{Token}
use Rattle.pt_value.specs.declared.token.Token.TheVariants as token
use Rattle.pt_value.specs.declared.fields.Field.{Field}
use Rattle.pt_value.specs.Value.{Value, Int, Bool, Words, Array, Record, values_of, list_of, list_of-values_of, values_of-list_of, named_of, fields_of, fields_of-named_of, named_of-fields_of}
use Rattle.pt_value.specs.ValueCode.{coded_value}

-- the value that a token carries
abbrev pub value_of : Token → Value
value_of (token.Int n) = Int n
value_of (token.Bool b) = Bool b
value_of (token.Text t) = Words t
value_of (token.Array vs) = Array (values_of vs)
value_of (token.Record fs) = Record (named_of fs)

-- the token that carries a value
abbrev pub token_of : Value → Token
token_of (Int n) = token.Int n
token_of (Bool b) = token.Bool b
token_of (Words t) = token.Text t
token_of (Array vs) = token.Array (list_of vs)
token_of (Record fs) = token.Record (fields_of fs)

pub token_of-value_of : (t : Token) → token_of (value_of t) ≡ t
token_of-value_of (token.Int n) = refl
token_of-value_of (token.Bool b) = refl
token_of-value_of (token.Text t) = refl
token_of-value_of (token.Array vs) = ap token.Array (list_of-values_of vs)
token_of-value_of (token.Record fs) = ap token.Record (fields_of-named_of fs)

pub value_of-token_of : (v : Value) → value_of (token_of v) ≡ v
value_of-token_of (Int n) = refl
value_of-token_of (Bool b) = refl
value_of-token_of (Words t) = refl
value_of-token_of (Array vs) = ap Array (values_of-list_of vs)
value_of-token_of (Record fs) = ap Record (named_of-fields_of fs)

-- tokens of equal values are equal
pub same_token : (s t : Token) → value_of s ≡ value_of t → s ≡ t
same_token s t e = sym (token_of-value_of s) ∙ ap token_of e ∙ token_of-value_of t

-- the tokens that carry some values, and back
pub token_of-values : (ts : List Token) → map token_of (map value_of ts) ≡ ts
token_of-values [] = refl
token_of-values (t ∷ ts) = λ i. token_of-value_of t i ∷ token_of-values ts i

pub value_of-tokens : (vs : List Value) → map value_of (map token_of vs) ≡ vs
value_of-tokens [] = refl
value_of-tokens (v ∷ vs) = λ i. value_of-token_of v i ∷ value_of-tokens vs i

-- an integer or a truth value
abbrev pub IsScalar : Token → Type 0
IsScalar (token.Int n) = Unit {0}
IsScalar (token.Bool b) = Unit {0}
IsScalar (token.Text t) = ⊥
IsScalar (token.Array vs) = ⊥
IsScalar (token.Record fs) = ⊥

-- the code of a token, for a `Model` whose value holds tokens
abbrev pub coded_token : Coded Token
coded_token = code_by Value coded_value value_of token_of token_of-value_of

-- the name and the value of a field
abbrev pub entry_of : Field → List ℕ × Value
entry_of f = (f.name, value_of f.value)

-- the same of a pair
abbrev pub entry_of_pair : List ℕ × Token → List ℕ × Value
entry_of_pair f = (f.0, value_of f.1)

-- fields of equal names and values are equal
pub same_field : (e f : Field) → entry_of e ≡ entry_of f → e ≡ f
same_field e f h = λ i. record { name = (h i).0; value = same_token e.value f.value (ap (λ p. p.1) h) i }
