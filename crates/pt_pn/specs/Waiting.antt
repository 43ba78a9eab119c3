-- Which processes wait to put, and on which channels.
use Rattle.std.specs.Prelude.{◌≡◌, ℕ, ◌<◌, List, [], ◌∷◌, Bool, false, ◌||◌, nat_eq, length, get_or, Option, Some, None}
use Rattle.pt_meaning.specs.Streams.{at}
use Rattle.pt_meaning.specs.Process.{Put}
use Rattle.pt_meaning.specs.Jam.{is_next_put}
use Rattle.pt_value.specs.declared.token.Token.{Token}
use Rattle.pt_pn_laws.specs.State.{capacity_of, greatest_of}
use Rattle.pt_pn_work.specs.Core.{State, PutsOn}

-- some process has a put to make, or none has
abbrev pub SomePuts : List (List (Put Token)) → Type 0
SomePuts puts = (i : ℕ) × (u : Put Token) × (us : List (Put Token)) × (at puts i ≡ u ∷ us)

abbrev pub NonePut : List (List (Put Token)) → Type 0
NonePut puts = (i : ℕ) → at puts i ≡ []

-- a channel is marked just where some process has its next put on it
abbrev pub MarksWaited : List Bool → List (List (Put Token)) → Type 0
MarksWaited marks puts = (c : ℕ) → c < length marks → get_or marks c false ≡ is_next_put c puts

-- whether channel c is marked once this one is
abbrev pub marked_with : Option ℕ → ℕ → Bool → Bool
marked_with None c before = before
marked_with (Some channel) c before = before || nat_eq channel c

-- process i waits to put on the channel, which has this capacity and may grow
pub record AwaitsGrowth (s : State) (i c k : ℕ) : Type 0 where
  pub puts : PutsOn s i c
  pub capacity : k ≡ capacity_of s c
  pub below : k < greatest_of s c
