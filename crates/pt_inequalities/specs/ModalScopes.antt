-- What guards and actions of a Modal entity may name, with the types that it has.
use Rattle.std.specs.Prelude.{◌≡◌, ℕ, List, [], ◌∷◌, ◌++◌, map, Option, Some, None, option_map, is_some, Bool, true, false, ◌||◌, bytes_eq, codes}
use Rattle.std.specs.List.{list_all}
use Rattle.pt_datatypes.specs.Token.{type_of_value}
use Rattle.pt_language.specs.Scope.{port_in}
use Rattle.pt_language.specs.Tree.{Tree}
use Rattle.pt_language.specs.Types.{Types, or_else}
use Rattle.pt_net.specs.Net.{NetEntityTree}
use Rattle.pt_scopes.specs.Texts.{IsRead, names_in}
use Rattle.pt_scopes.specs.Valued.{EntityView}
use Rattle.pt_typing.specs.declared.variable.Variable.{Variable}
use Rattle.pt_typing.specs.declared.variable.Variable.TheVariants.{Port}
use Rattle.pt_typing.specs.Terms.{Term, TreeOf, names_types}
use Rattle.pt_typing.specs.Least.{Assignment}
use Rattle.pt_inequalities.specs.Frames.{Frames, Names, no_names, with_given, seen}
use Rattle.pt_inequalities.specs.Inequalities.{PortNumbers, no_ports, with_ports, known}

abbrev pub is_modal : NetEntityTree → Bool
is_modal e = bytes_eq e.class (codes "Modal")

-- the ports of an entity by their names
abbrev pub own_ports : NetEntityTree → PortNumbers
own_ports e = with_ports no_ports 0 e.ports

-- the first values of the Variables of an entity
abbrev pub variable_values : NetEntityTree → EntityView → Names
variable_values e v = with_given no_names e.variables (map Some v.variables)

-- a Modal entity: its number, its ports, its Variables, and the parameters that are seen in it, its own before those round it
pub record ModalScope : Type 0 where
  pub number : ℕ
  pub ports : PortNumbers
  pub variables : Names
  pub around : Names

abbrev pub modal_scope : Frames → ℕ → NetEntityTree → EntityView → ModalScope
modal_scope frames m e v = record { number = m; ports = own_ports e; variables = variable_values e v; around = seen frames None (Some m) }

-- the values of Variables, then of parameters
abbrev pub values_in : ModalScope → Names
values_in s name = or_else (s.variables name) (s.around name)

abbrev pub value_types : ModalScope → Types
value_types s name = option_map type_of_value (values_in s name)

abbrev pub is_port : ModalScope → Option (List ℕ) → Bool
is_port s None = false
is_port s (Some name) = is_some (s.ports name)

-- a name is that of a port, asks whether a port has a token, or is that of a Variable or a parameter
abbrev pub is_in_scope : ModalScope → List ℕ → Bool
is_in_scope s name = (is_port s (Some name) || is_port s (port_in name)) || is_some (values_in s name)

-- a tree that reads as a text there, each of whose names is in scope
pub record IsReadIn (s : ModalScope) (text : List ℕ) (t : Tree) : Type 0 where
  pub is_read : IsRead text t
  pub named : list_all (is_in_scope s) (names_in t) ≡ true

abbrev pub port_at : ℕ → List ℕ → Option ℕ → List (List ℕ × Variable)
port_at m name None = []
port_at m name (Some i) = (name, Port m i) ∷ []

-- the port of a name
abbrev pub port_named : ModalScope → List ℕ → List (List ℕ × Variable)
port_named s name = port_at s.number name (s.ports name)

-- the port of which a name asks whether it has a token
abbrev pub port_asked : ModalScope → Option (List ℕ) → List (List ℕ × Variable)
port_asked s None = []
port_asked s (Some name) = port_named s name

-- the ports that names name or ask about
abbrev pub ports_named : ModalScope → List (List ℕ) → List (List ℕ × Variable)
ports_named s [] = []
ports_named s (n ∷ ns) = (port_named s n ++ port_asked s (port_in n)) ++ ports_named s ns

-- the types of the names of a guard or an action: ports, then Variables, then parameters
abbrev pub modal_types : Assignment → ModalScope → Tree → Types
modal_types typing s t = names_types typing.types (ports_named s (names_in t)) (known (value_types s) (names_in t))

-- what an action gives
abbrev pub modal_term : ModalScope → Tree → Term Variable
modal_term s t = TreeOf t (ports_named s (names_in t)) (known (value_types s) (names_in t))
