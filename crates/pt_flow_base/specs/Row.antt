-- What the rows of the actors have in common, beside what every library's have: numbers that are present on several places.
use Rattle.std.specs.Prelude.{ℕ, List, [], ◌∷◌, Option, Some, None, take, drop, ◌&&◌, ℤ, pos, ◌+ℤ◌, ◌-ℤ◌, if◌then◌else◌}
use Rattle.pt_meaning.specs.Basics.{Streams}
use Rattle.pt_meaning.specs.Node.{is_none}
use Rattle.pt_value.specs.declared.token.Token.{Token}
pub use Rattle.pt_firing.specs.Row.{one_each, gives, rests, fits_i64, exactly, first_in, token_at, number_of, number_in, number_at, truth_of, truth_at, on_present}

-- the numbers that are there, place by place
abbrev pub with_number : Option ℤ → List ℤ → List ℤ
with_number (Some n) ns = n ∷ ns
with_number None ns = ns

abbrev pub present : Streams Token → List ℤ
present [] = []
present (tokens ∷ X) = with_number (number_in tokens) (present X)

abbrev pub total : List ℤ → ℤ
total [] = pos 0
total (n ∷ ns) = n +ℤ total ns

-- the sum of the numbers that are present on so many places, without those on the others, if any is present
unfoldable pub sum_of : ℕ → Streams Token → Option ℤ
sum_of plus X =
    let added = present (take plus X) in
    let taken = present (drop plus X) in
    if is_none added && is_none taken then None else Some (total added -ℤ total taken)
