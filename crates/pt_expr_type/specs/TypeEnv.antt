-- The names that an environment of the program binds to types.
use Rattle.std.specs.Prelude.{option_map}
use Rattle.pt_name_map.specs.NameMap.{held}
use Rattle.pt_types.specs.Ty.{type_of}
use Rattle.pt_expr_type.specs.declared.env.TypeEnv.{TypeEnv}
use Rattle.pt_language.specs.Types.{Types}

-- the type under each name
abbrev pub types_in : TypeEnv → Types
types_in env name = option_map type_of (held env.bound name)
