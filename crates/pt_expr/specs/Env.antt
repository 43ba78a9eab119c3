-- The names that an environment of the program binds.
use Rattle.std.specs.Prelude.{option_map}
use Rattle.pt_name_map.specs.NameMap.{held}
use Rattle.pt_value.specs.Token.{value_of}
use Rattle.pt_expr.specs.declared.env.Env.{Env}
use Rattle.pt_language.specs.Scope.{Scope}

-- what is bound under each name
abbrev pub scope_of : Env → Scope
scope_of env name = option_map (option_map value_of) (held env.bound name)
