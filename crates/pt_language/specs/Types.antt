-- The types of the names in an expression.
use Rattle.std.specs.Prelude.{ℕ, List, Bool, Option, Some, None, is_some, option_map}
use Rattle.pt_datatypes.specs.Datatype.{Datatype, Boolean}
use Rattle.pt_language.specs.Scope.{port_in}

-- the type under each name that is bound
abbrev pub Types : Type 0
Types = List ℕ → Option Datatype

abbrev pub or_else : {A : Type 0} → Option A → Option A → Option A
or_else (Some x) other = Some x
or_else None other = other

-- whether a port has a token is a truth value
abbrev pub presence_type : Types → Option (List ℕ) → Option Datatype
presence_type types None = None
presence_type types (Some port) = option_map (λ t. Boolean) (types port)

-- the type of a name: what is bound under it, or else, for `p_isPresent` where p is bound, boolean
abbrev pub type_under : Types → List ℕ → Option Datatype
type_under types name = or_else (types name) (presence_type types (port_in name))

-- a name in an expression is bound where it has a type
abbrev pub is_bound : Types → List ℕ → Bool
is_bound types name = is_some (type_under types name)
