-- The lines in which a process gathers tokens.
use Rattle.std.specs.Prelude.{ℕ, List, map, get_or}
use Rattle.pt_reaction.specs.Spared.{Spared}
use Rattle.pt_value.specs.declared.token.Token.{Token}

-- room for so many more tokens at a place
abbrev pub room_at : List (Spared Token) → ℕ → ℕ
room_at lines q = get_or (map (λ (l : Spared Token). l.spare) lines) q 0
