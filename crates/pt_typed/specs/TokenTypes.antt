-- Types as the kinds of tokens, and what a row says of them.
use Rattle.std.specs.Prelude.{ℕ, List, [], ◌∷◌, Option, Some, None, option_map}
use Rattle.pt_value.specs.Token.{value_of}
use Rattle.pt_value.specs.declared.token.Token.{Token}
use Rattle.pt_datatypes.specs.Datatype.{Datatype}
use Rattle.pt_datatypes.specs.Order.{IsBelow}
use Rattle.pt_datatypes.specs.Token.{type_of_value}
use Rattle.pt_language.specs.Typing.{or_general}
use Rattle.pt_language.specs.TreeType.{element, field}

-- a token is of a type: its own type is below
abbrev pub IsTokenOf : Datatype → Token → Type 0
IsTokenOf t token = IsBelow (type_of_value (value_of token)) t

-- what comes to a place is of a type; nothing comes to a place that isn't there
abbrev pub IsUnder : Option Datatype → Datatype → Type 0
IsUnder None u = Unit {0}
IsUnder (Some t) u = IsBelow t u

-- there is a first output, and its type is such a one
abbrev pub ToFirst : (Datatype → Type 0) → List Datatype → Type 0
ToFirst P [] = ⊥
ToFirst P (u ∷ us) = P u

-- the type of the elements of what comes to a place, and of a field of it. What has none is general here
abbrev pub elements_of : Option Datatype → Option Datatype
elements_of o = option_map (λ t. or_general (element t)) o

-- that of a field under a name
abbrev pub field_of : List ℕ → Option Datatype → Option Datatype
field_of name o = option_map (λ t. or_general (field name t)) o
