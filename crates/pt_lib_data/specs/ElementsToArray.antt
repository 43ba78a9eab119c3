-- ElementsToArray: the array of its inputs, in the order of its channels.
use Rattle.std.specs.Prelude.{List, [], ◌∷◌, map, Option, Some, None, if◌then◌else◌}
use Rattle.pt_meaning.specs.Basics.{Streams}
use Rattle.pt_value.specs.Token.{value_of}
use Rattle.pt_value.specs.declared.token.Token.{Token}
use Rattle.pt_value.specs.declared.token.Token.TheVariants as token
use Rattle.pt_firing.specs.Row.{first_in, all_present}
use Rattle.pt_lib_data.specs.Reply.{Reply, nothing, sized}

abbrev pub with_token : Option Token → List Token → List Token
with_token None ts = ts
with_token (Some t) ts = t ∷ ts

-- the first token of each place, as far as there is one
unfoldable pub firsts : Streams Token → List Token
firsts [] = []
firsts (tokens ∷ X) = with_token (first_in tokens) (firsts X)

-- the array of some tokens
abbrev pub array_of : List Token → Token
array_of ts = token.Array (map value_of ts)

abbrev pub give : Streams Token → Reply
give X = if all_present X then sized (array_of (firsts X)) else nothing
