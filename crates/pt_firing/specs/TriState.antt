-- What is known of a place, as the meaning has it: nothing yet, or its tokens.
use Rattle.std.specs.Prelude.{List, [], ◌∷◌, map, Option, Some, None}
use Rattle.pt_meaning.specs.Machine.{Partial, Unknown, Known}
use Rattle.pt_value.specs.declared.token.Token.{Token}
use Rattle.pt_value.specs.Token.{token_of}
use Rattle.pt_firing.specs.declared.partial.TriState.{TriState}
use Rattle.pt_firing.specs.declared.partial.TriState.TheVariants as state

abbrev pub partial_of : TriState → Partial Token
partial_of state.Unknown = Unknown
partial_of state.Absent = Known []
partial_of (state.Present token) = Known (token ∷ [])
partial_of (state.More items) = Known (map token_of items)

-- the tokens that are known, none where nothing is
abbrev pub tokens_known : {T : Type 0} → Partial T → List T
tokens_known Unknown = []
tokens_known (Known tokens) = tokens

-- the tokens, where they are known
abbrev pub if_known : {T : Type 0} → Partial T → Option (List T)
if_known Unknown = None
if_known (Known tokens) = Some tokens
