-- Tokens that are put on their channels, one after another.
use Rattle.std.specs.Prelude.{List, [], ◌∷◌}
use Rattle.pt_meaning.specs.Streams.{Streams}
use Rattle.pt_meaning.specs.Process.{Put}
use Rattle.pt_value.specs.declared.token.Token.{Token}
use Rattle.pt_recv.specs.Lines.{pushed}

-- what the channels hold once these puts are made
abbrev pub all_put : List (Put Token) → Streams Token → Streams Token
all_put [] L = L
all_put (u ∷ us) L = all_put us (pushed L u.channel u.token)
