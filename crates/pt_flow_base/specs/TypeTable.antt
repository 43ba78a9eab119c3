-- The types that a table of the program holds by name.
use Rattle.std.specs.Prelude.{ℕ, List, Option, option_map}
use Rattle.pt_datatypes.specs.Datatype.{Datatype}
use Rattle.pt_name_map.specs.NameMap.{held}
use Rattle.pt_types.specs.Ty.{type_of}
use Rattle.pt_flow_base.specs.declared.type_table.TypeTable.{TypeTable}

-- the type under each name
abbrev pub types_in : TypeTable → List ℕ → Option Datatype
types_in table name = option_map type_of (held table.types name)
