-- Parameters that are texts.
use Rattle.std.specs.Prelude.{ℕ, List, Option, Some, None}
use Rattle.pt_value.specs.declared.token.Token.{Token}
use Rattle.pt_value.specs.declared.token.Token.TheVariants.{Text}
use Rattle.pt_firing.specs.Params.{value_under}

-- the text that it is, or another where there is none; nothing where it is of another kind
abbrev pub as_text : List ℕ → Option Token → Option (List ℕ)
as_text default None = Some default
as_text default (Some (Text t)) = Some t
as_text default (Some token) = None

abbrev pub text_or : List ℕ → List ℕ → List (List ℕ × Token) → Option (List ℕ)
text_or name default values = as_text default (value_under name values)
