-- RecordDisassembler: each output gives the field of its name.
use Rattle.std.specs.Prelude.{ℕ, List, [], ◌∷◌, map, length, replicate, Option, Some, None, option_map}
use Rattle.pt_meaning.specs.Basics.{Streams}
use Rattle.pt_value.specs.Value.{Value}
use Rattle.pt_value.specs.Record.{field_at}
use Rattle.pt_value.specs.Token.{token_of}
use Rattle.pt_value.specs.declared.token.Token.{Token}
use Rattle.pt_value.specs.declared.token.Token.TheVariants as token
use Rattle.pt_firing.specs.Row.{token_at}
use Rattle.pt_lib_data.specs.Reply.{Reply, Gives}

abbrev pub found : List (List ℕ × Value) → List ℕ → Option Token
found fs name = option_map token_of (field_at fs name)

abbrev pub as_list : Option Token → List Token
as_list None = []
as_list (Some t) = t ∷ []

-- the field of a name, as a list of one token, or of none where there is no such field
abbrev pub field : List (List ℕ × Value) → List ℕ → List Token
field fs name = as_list (found fs name)

abbrev pub of_token : List (List ℕ) → Option Token → Reply
of_token names None = Gives (replicate (length names) [])
of_token names (Some (token.Record fs)) = Gives (map (field fs) names)
of_token names (Some t) = Gives (replicate (length names) [])

abbrev pub give : List (List ℕ) → Streams Token → Reply
give names X = of_token names (token_at X 0)
