-- The own ports and the Variables of a Modal entity with their types.
use Rattle.std.specs.Prelude.{ℕ, List, Option, Some, None, option_map, slice_get, if◌then◌else◌}
use Rattle.std.specs.List.{filter_map, enumerate_from}
use Rattle.pt_value.specs.Value.{Value}
use Rattle.pt_datatypes.specs.Datatype.{Datatype}
use Rattle.pt_datatypes.specs.Token.{type_of_value}
use Rattle.pt_document.specs.declared.job.Direction.{Direction}
use Rattle.pt_document.specs.Document.{PropertyTree, property_name, PortTree}
use Rattle.pt_typing.specs.declared.variable.Variable.TheVariants.{Port}
use Rattle.pt_typing.specs.Least.{Assignment}
use Rattle.pt_machine.specs.Names.{is_along}

-- a port of this number, where it has this direction, with its type
abbrev pub typed_if : Direction → Assignment → (m : ℕ) → ℕ × PortTree → Option (List ℕ × Datatype)
typed_if direction typing m q = if is_along direction q.1 then Some (q.1.name, typing.types (Port m q.0)) else None

-- the own ports of a direction, each with its type
abbrev pub typed_along : Direction → Assignment → (m : ℕ) → List PortTree → List (List ℕ × Datatype)
typed_along direction typing m ports = filter_map (typed_if direction typing m) (enumerate_from 0 ports)

-- a Variable of this number, where it has a value, with the type of that
abbrev pub variable_if : List Value → ℕ × PropertyTree → Option (List ℕ × Datatype)
variable_if values q = option_map (λ v. (property_name q.1, type_of_value v)) (slice_get values q.0)

-- the Variables, each with the type of its first value
abbrev pub typed_variables : List Value → List PropertyTree → List (List ℕ × Datatype)
typed_variables values variables = filter_map (variable_if values) (enumerate_from 0 variables)
