-- Which tokens can be compared for being equal.
use Rattle.std.specs.Prelude.{Bool, true, false, not}
use Rattle.pt_value.specs.Value.{Value}
use Rattle.pt_datatypes.specs.Datatype.{Datatype, General}
use Rattle.pt_datatypes.specs.Join.{join}
use Rattle.pt_datatypes.specs.Token.{type_of_value}

abbrev pub is_general : Datatype → Bool
is_general General = true
is_general t = false

-- the types of two tokens have a join that isn't general
abbrev pub have_join : Value → Value → Bool
have_join x y = not (is_general (join (type_of_value x) (type_of_value y)))
