-- Names of fields are ASCII.
use Rattle.std.proofs.Common.{◌≡◌, ◌<◌, ℕ, zero, suc, List, [], ◌∷◌, Bool, true, false, ◌&&◌, ◌||◌, refl, arith}
use Rattle.std.specs.Prelude.{nat_le, ◌==◌}
use Rattle.std.specs.List.{list_all}
use Rattle.std.specs.Str.{IsUtf8, IsAscii}
use Rattle.std.proofs.lemmas.Bool.{leb-true}
use Rattle.std.proofs.lemmas.Bool.Decides.{nat_tests}
use Rattle.std.proofs.lemmas.Str.{IsUtf8-from_ascii}
use Rattle.pt_datatypes.proofs.Fields.{and_left, and_right}
use Rattle.pt_document.specs.Names.{is_name, is_first, is_later}
use Rattle.pt_document.specs.TypeTexts.{is_field_name}

either : (a b : Bool) (goal : Type 0) → (a ≡ true → goal) → (b ≡ true → goal) → (a || b) ≡ true → goal
either true b goal f g h = f refl
either false b goal f g h = g h

upto : (a c n : ℕ) → n < 128 → (nat_le a c && nat_le c n) ≡ true → c < 128
upto a c n small h = let le = leb-true c n (and_right (nat_le a c) (nat_le c n) h) in omega arith

is-underscore : (c : ℕ) → (c == 95) ≡ true → c < 128
is-underscore c h = let is : c ≡ 95 = grind (arith, nat_tests) in omega arith

later-ascii : (c : ℕ) → is_later c ≡ true → c < 128
later-ascii c h =
    either (is_first c) (nat_le 48 c && nat_le c 57) (c < 128)
    (λ first. either ((nat_le 97 c && nat_le c 122) || (nat_le 65 c && nat_le c 90)) (c == 95) (c < 128)
    (λ letter. either (nat_le 97 c && nat_le c 122) (nat_le 65 c && nat_le c 90) (c < 128) (upto 97 c 122 (omega arith)) (upto 65 c 90 (omega arith)) letter)
    (is-underscore c) first)
    (upto 48 c 57 (omega arith)) h

all-ascii : (name : List ℕ) → list_all is_later name ≡ true → IsAscii name
all-ascii [] h zero = omega arith
all-ascii [] h (suc i) = omega arith
all-ascii (c ∷ name) h zero = later-ascii c (and_left (is_later c) (list_all is_later name) h)
all-ascii (c ∷ name) h (suc i) = all-ascii name (and_right (is_later c) (list_all is_later name) h) i

pub letters : (name : List ℕ) → is_field_name name ≡ true → list_all is_later name ≡ true
unfolding is_field_name is_name
letters name h = and_right _ (list_all is_later name) (and_left (is_name name) _ h)

pub field_name-utf8 : (name : List ℕ) → is_field_name name ≡ true → IsUtf8 name
field_name-utf8 name h = IsUtf8-from_ascii name (all-ascii name (letters name h))

false-unless : (b : Bool) → (b ≡ true → ⊥) → b ≡ false
false-unless true h = absurd (h refl)
false-unless false h = refl

pub no_field_name : (name : List ℕ) → (IsUtf8 name → ⊥) → is_field_name name ≡ false
no_field_name name h = false-unless (is_field_name name) (λ e. h (field_name-utf8 name e))
