-- Tokens in front of a channel, as firings need them.
use Rattle.std.specs.Prelude.{◌≡◌, ℕ, ◌*◌, ◌<◌, ◌≤◌, List, [], ◌∷◌, length, take, drop, get_or}
use Rattle.pt_meaning.specs.Streams.{Streams}
use Rattle.pt_value.specs.declared.token.Token.{Token}

-- the tokens of a channel are integers where the firings need them, each as many
pub record AreInFront (need : ℕ) (tokens : List Token) (rows : List (Streams Token)) : Type 0 where
  pub enough : length rows * need ≤ length tokens
  pub each : (k : ℕ) → k < length rows → get_or rows k [] ≡ take need (drop (k * need) tokens) ∷ []
