-- Equals: whether all its present inputs are the same.
use Rattle.std.specs.Prelude.{ℕ, List, [], ◌∷◌, Bool, true, ◌&&◌, Option, Some, None}
use Rattle.pt_meaning.specs.Basics.{Streams}
use Rattle.pt_value.specs.Token.{value_of}
use Rattle.pt_value.specs.declared.token.Token.{Token}
use Rattle.pt_value.specs.declared.token.Token.TheVariants as token
use Rattle.pt_language.specs.Same.{is_same}
use Rattle.pt_firing.specs.Row.{first_in, token_at}
use Rattle.pt_lib_data.specs.Reply.{Reply, one, on}

abbrev pub or_later : Option Token → Option Token → Option Token
or_later (Some t) later = Some t
or_later None later = later

-- the first token that is present
unfoldable pub first_present : Streams Token → Option Token
first_present [] = None
first_present (tokens ∷ X) = or_later (first_in tokens) (first_present X)

-- a token that is present is this one
abbrev pub is_this : Token → Option Token → Bool
is_this t None = true
is_this t (Some u) = is_same (value_of t) (value_of u)

abbrev pub agrees : Token → Streams Token → ℕ → Bool
agrees t X place = is_this t (token_at X place)

-- each token that is present is this one
unfoldable pub all_agree : Token → Streams Token → Bool
all_agree t [] = true
all_agree t (tokens ∷ X) = is_this t (first_in tokens) && all_agree t X

abbrev pub give : Streams Token → Reply
give X = on (λ t. one (token.Bool (all_agree t X))) (first_present X)
