-- Lines with room for what channels give.
use Rattle.std.specs.Prelude.{◌≡◌, ℕ, ◌+◌, ◌<◌, ◌≤◌, List, [], length, get_or}
use Rattle.pt_meaning.specs.Streams.{Streams}
use Rattle.pt_recv.specs.Lines.{list_at}
use Rattle.pt_reaction.specs.Spared.{Spared}
use Rattle.pt_value.specs.declared.token.Token.{Token}

abbrev pub no_line : Spared Token
no_line = record { list = []; spare = 0 }

-- the lines from number k on are empty, and each has room for what the channel of its number gives, from channel `from` on
abbrev pub HaveRoom : Streams Token → (from k : ℕ) → List (Spared Token) → Type 0
HaveRoom lists from k rooms = (j : ℕ) → k ≤ j → j < length rooms → ((get_or rooms j no_line).list ≡ []) × (length (list_at lists (from + j)) ≤ (get_or rooms j no_line).spare)
