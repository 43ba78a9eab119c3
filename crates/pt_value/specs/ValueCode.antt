-- Values as trees of numbers, by which a proof tells them apart.
use Rattle.std.specs.Prelude.{◌≡◌, ℕ, ℤ, pos, negsuc, zero, suc, List, [], ◌∷◌, true, false, refl}
use Rattle.std.specs.Prelude.{Bool as Truth}
use Rattle.std.specs.Coded.{Coded}
use Rattle.std.proofs.Common.{ap, sym, ◌∙◌}
use base.Stored.{Gv, gnil, gnum, gcons}
use Rattle.pt_value.specs.Value.{Value, Int, Bool, Words, Array, Record, Values, no_values, value_then, Named, no_fields, field_then}

abbrev number : Gv → ℕ
number gnil = 0
number (gnum n) = n
number (gcons a b) = 0

-- integers, truth values and texts, there and back
abbrev int_code : ℤ → Gv
int_code (pos n) = gcons (gnum 0) (gnum n)
int_code (negsuc n) = gcons (gnum 1) (gnum n)

abbrev signed : ℕ → ℕ → ℤ
signed zero n = pos n
signed (suc k) n = negsuc n

abbrev int_back : Gv → ℤ
int_back gnil = pos 0
int_back (gnum n) = pos 0
int_back (gcons a b) = signed (number a) (number b)

int_back-code : (z : ℤ) → int_back (int_code z) ≡ z
int_back-code (pos n) = refl
int_back-code (negsuc n) = refl

abbrev truth_code : Truth → Gv
truth_code false = gnum 0
truth_code true = gnum 1

abbrev truth_of : ℕ → Truth
truth_of zero = false
truth_of (suc n) = true

truth_back-code : (b : Truth) → truth_of (number (truth_code b)) ≡ b
truth_back-code false = refl
truth_back-code true = refl

abbrev words_code : List ℕ → Gv
words_code [] = gnil
words_code (n ∷ ns) = gcons (gnum n) (words_code ns)

abbrev words_back : Gv → List ℕ
words_back gnil = []
words_back (gnum n) = []
words_back (gcons a b) = number a ∷ words_back b

words_back-code : (ns : List ℕ) → words_back (words_code ns) ≡ ns
words_back-code [] = refl
words_back-code (n ∷ ns) = ap (λ ms. n ∷ ms) (words_back-code ns)

abbrev mutual
  value_code : Value → Gv
  value_code (Int z) = gcons (gnum 0) (int_code z)
  value_code (Bool b) = gcons (gnum 1) (truth_code b)
  value_code (Words ns) = gcons (gnum 2) (words_code ns)
  value_code (Array vs) = gcons (gnum 3) (values_code vs)
  value_code (Record fs) = gcons (gnum 4) (named_code fs)

  values_code : Values → Gv
  values_code no_values = gnil
  values_code (value_then v vs) = gcons (value_code v) (values_code vs)

  named_code : Named → Gv
  named_code no_fields = gnil
  named_code (field_then n v fs) = gcons (words_code n) (gcons (value_code v) (named_code fs))

-- what a tree stands for where a value, the parts of an array, the fields of a record, or fields after a name are wanted
record Read : Type 0 where
  value : Value
  values : Values
  named : Named
  after : List ℕ → Named

abbrev by_tag : ℕ → Gv → Read → Value
by_tag zero g r = Int (int_back g)
by_tag (suc zero) g r = Bool (truth_of (number g))
by_tag (suc (suc zero)) g r = Words (words_back g)
by_tag (suc (suc (suc zero))) g r = Array r.values
by_tag (suc (suc (suc (suc n)))) g r = Record r.named

abbrev nothing : Read
nothing = record { value = Int (pos 0); values = no_values; named = no_fields; after = λ n. no_fields }

abbrev read : Gv → Read
read gnil = nothing
read (gnum n) = nothing
read (gcons a b) = record {
  value = by_tag (number a) b (read b);
  values = value_then (read a).value (read b).values;
  named = (read b).after (words_back a);
  after = λ n. field_then n (read a).value (read b).named;
}

abbrev mutual
  read-value_code : (v : Value) → (read (value_code v)).value ≡ v
  read-value_code (Int z) = ap Int (int_back-code z)
  read-value_code (Bool b) = ap Bool (truth_back-code b)
  read-value_code (Words ns) = ap Words (words_back-code ns)
  read-value_code (Array vs) = ap Array (read-values_code vs)
  read-value_code (Record fs) = ap Record (read-named_code fs)

  read-values_code : (vs : Values) → (read (values_code vs)).values ≡ vs
  read-values_code no_values = refl
  read-values_code (value_then v vs) = λ i. value_then (read-value_code v i) (read-values_code vs i)

  read-named_code : (fs : Named) → (read (named_code fs)).named ≡ fs
  read-named_code no_fields = refl
  read-named_code (field_then n v fs) = λ i. field_then (words_back-code n i) (read-value_code v i) (read-named_code fs i)

-- the code of a value
pub coded_value : Coded Value
coded_value = record { code = value_code; inj = λ x y e. sym (read-value_code x) ∙ ap (λ g. (read g).value) e ∙ read-value_code y }
