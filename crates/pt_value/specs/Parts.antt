-- The parts of an array or a record are lower than it, so that a recursion over tokens ends. Its measure is `height (value_of token)`.
use Rattle.std.specs.Prelude.{◌≡◌, ℕ, zero, suc, ◌<◌, ◌≤◌, List, [], ◌∷◌, length, map, slice_index_or}
use Rattle.std.proofs.Common.{ap, arith}
use Rattle.pt_value.specs.declared.token.Token.{Token}
use Rattle.pt_value.specs.declared.token.Token.TheVariants as token
use Rattle.pt_value.specs.declared.fields.Field.{Field}
use Rattle.pt_value.specs.Value.{Value, height, height_of_values, height_of_named, values_of, named_of}
use Rattle.pt_value.specs.Token.{value_of, entry_of}

height-in_values : (ts : List Token) (i : ℕ) (t : Token) → i < length ts → t ≡ slice_index_or ts i t → height (value_of t) ≤ height_of_values (values_of (map value_of ts))
height-in_values [] i t short is = absurd (omega arith)
height-in_values (s ∷ ts) zero t short is = omega (arith, ap (λ u. height (value_of u)) is)
height-in_values (s ∷ ts) (suc i) t short is = omega (arith, height-in_values ts i t (omega arith) is)

height-in_named : (fs : List Field) (i : ℕ) (f : Field) → i < length fs → f ≡ slice_index_or fs i f → height (value_of f.value) ≤ height_of_named (named_of (map entry_of fs))
height-in_named [] i f short is = absurd (omega arith)
height-in_named (g ∷ fs) zero f short is = omega (arith, ap (λ (u : Field). height (value_of u.value)) is)
height-in_named (g ∷ fs) (suc i) f short is = omega (arith, height-in_named fs i f (omega arith) is)

-- a part of an array
pub height-part : (ts : List Token) (vs : List Value) (i : ℕ) (t : Token) → map value_of ts ≡ vs → i < length ts → t ≡ slice_index_or ts i t → height (value_of t) < height (value_of (token.Array vs))
height-part ts vs i t e short is = omega (arith, height-in_values ts i t short is, ap (λ us. height_of_values (values_of us)) e)

-- the value of a field of a record
pub height-field : (fs : List Field) (es : List (List ℕ × Value)) (i : ℕ) (f : Field) → map entry_of fs ≡ es → i < length fs → f ≡ slice_index_or fs i f → height (value_of f.value) < height (value_of (token.Record es))
height-field fs es i f e short is = omega (arith, height-in_named fs i f short is, ap (λ gs. height_of_named (named_of gs)) e)
