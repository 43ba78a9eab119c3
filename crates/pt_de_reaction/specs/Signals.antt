-- What a child gives that is one integer at most: the signal on its one port.
use Rattle.std.specs.Prelude.{◌≡◌, ℕ, ℤ, List, [], Option, Some, option_map, option_to_list}
use Rattle.pt_meaning.specs.Streams.{Streams, at, get}
use Rattle.pt_meaning.specs.Net.{Source, Output}
use Rattle.pt_value.specs.declared.token.Token.{Token}
use Rattle.pt_value.specs.declared.token.Token.TheVariants.{Int}
use Rattle.pt_de_laws.specs.State.{DeState}

-- the token of a signal that is an integer, and none of one that is absent
abbrev pub signal_of : Option ℤ → List Token
signal_of given = option_to_list (option_map Int given)

-- no channel that begins at child i has a token
pub record AreEmptyFrom (i : ℕ) (cs : List Source) (X : Streams Token) : Type 0 where
  pub empty : (c port : ℕ) → get cs c ≡ Some (Output i port) → at X c ≡ []

-- the first token on each port of child i takes no memory, since a channel holds a single token in place
abbrev pub HasRoom : DeState Token → ℕ → Type 0
HasRoom s i = AreEmptyFrom i s.plan.net.sources s.tokens
