-- Puts that are staged, among the definitions.
use Rattle.std.specs.Prelude.{◌≡◌, ℕ, List, [], ◌∷◌, map, Option, Some, None}
use Rattle.pt_meaning.specs.Process.{Put}
use Rattle.pt_value.specs.declared.token.Token.{Token}
use Rattle.pt_puts.specs.declared.puts.StagedPut.{StagedPut}

abbrev pub put_of : StagedPut → Put Token
put_of u = record { channel = u.channel; token = u.token }

abbrev pub puts_in : List StagedPut → List (Put Token)
puts_in us = map put_of us

-- of these puts the first is on this channel, or there is none
abbrev pub PutsFirst : List (Put Token) → Option ℕ → Type 0
PutsFirst us None = us ≡ []
PutsFirst us (Some channel) = (u : Put Token) × (rest : List (Put Token)) × (us ≡ u ∷ rest) × (u.channel ≡ channel)
