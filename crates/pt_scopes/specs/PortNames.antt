-- The names of ports that the program holds.
use Rattle.std.specs.Prelude.{ℕ, List, Bool, false, ◌||◌, Option, Some, None, is_some}
use Rattle.pt_name_map.specs.NameMap.{held}
use Rattle.pt_language.specs.Scope.{port_in}
use Rattle.pt_scopes.specs.declared.port_names.PortNames.{PortNames}

-- a port has this name
abbrev pub has_port : PortNames → List ℕ → Bool
has_port ports name = is_some (held ports.names name)

abbrev pub has_presence : PortNames → Option (List ℕ) → Bool
has_presence ports None = false
has_presence ports (Some port) = has_port ports port

-- a name is that of a port, or asks whether one has a token
abbrev pub names_port_of : PortNames → List ℕ → Bool
names_port_of ports name = has_port ports name || has_presence ports (port_in name)
