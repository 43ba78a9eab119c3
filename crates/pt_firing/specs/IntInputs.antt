-- What a firing takes, where all of it is integers.
use Rattle.std.specs.Prelude.{ℕ, nat_eq, ℤ, List, [], ◌∷◌, length, map, ◌≡◌, ◌⊎◌, if◌then◌else◌}
use Rattle.pt_meaning.specs.Basics.{Streams}
use Rattle.pt_value.specs.declared.token.Token.{Token}
use Rattle.pt_value.specs.declared.token.Token.TheVariants.{Int}

-- one integer at each place
abbrev pub one_at_each : List ℤ → Streams Token
one_at_each numbers = map (λ n. Int n ∷ []) numbers

-- one at each of so many places, or all of them at the only one
abbrev pub streams_of : ℕ → List ℤ → Streams Token
streams_of places numbers = if nat_eq places (length numbers) then one_at_each numbers else map Int numbers ∷ []

-- there are so many places: one for each integer, or one
abbrev pub AreFor : ℕ → List ℤ → Type 0
AreFor places numbers = (places ≡ length numbers) ⊎ (places ≡ 1)
