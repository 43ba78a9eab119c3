-- What firings in a row take, one after another, where all of it is integers.
use Rattle.std.specs.Prelude.{◌≡◌, ℕ, zero, suc, ◌*◌, ◌≤◌, ℤ, List, [], ◌∷◌, length, map, take, drop, replicate, Option, Some, None}
use Rattle.pt_meaning.specs.Basics.{Streams}
use Rattle.pt_value.specs.declared.token.Token.{Token}
use Rattle.pt_value.specs.declared.token.Token.TheVariants.{Int}

-- of so many firings each takes the next `need` of some integers at the only place
abbrev pub at_one_place : (need firings : ℕ) → List ℤ → List (Streams Token)
at_one_place need zero numbers = []
at_one_place need (suc firings) numbers = (map Int (take need numbers) ∷ []) ∷ at_one_place need firings (drop need numbers)

-- so it is where there is a place, and else nothing is taken
abbrev pub rows_of : Option ℕ → (firings : ℕ) → List ℤ → List (Streams Token)
rows_of (Some need) firings numbers = at_one_place need firings numbers
rows_of None firings numbers = replicate firings []

-- there are enough integers
abbrev pub AreFor : Option ℕ → (firings : ℕ) → List ℤ → Type 0
AreFor (Some need) firings numbers = firings * need ≤ length numbers
AreFor None firings numbers = Unit {0}
