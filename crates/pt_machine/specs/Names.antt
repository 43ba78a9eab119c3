-- What a Modal entity names: its states, its ports by direction, and its Variables.
use Rattle.std.specs.Prelude.{ℕ, List, map, filter, Bool, not, Option, Some, None, option_map}
use Rattle.pt_document.specs.declared.job.Direction.{Direction}
use Rattle.pt_document.specs.declared.job.Direction.TheVariants.{Input, Output}
use Rattle.pt_document.specs.declared.job.State.{State}
use Rattle.pt_document.specs.Document.{property_name, PortTree}
use Rattle.pt_document.specs.Names.{below}
use Rattle.pt_net.specs.Net.{NetEntityTree}
use Rattle.pt_net.specs.Inside.{is_inward}
use Rattle.pt_machine.specs.Numbers.{number_of}

abbrev pub state_name : State → List ℕ
state_name s = s.name

abbrev pub state_names : NetEntityTree → List (List ℕ)
state_names e = map state_name e.states

abbrev pub is_along : Direction → PortTree → Bool
is_along Input p = is_inward p.direction
is_along Output p = not (is_inward p.direction)

abbrev pub port_name : PortTree → List ℕ
port_name p = p.name

-- the names of the ports of a direction, in order
abbrev pub names_along : Direction → List PortTree → List (List ℕ)
names_along direction ports = map port_name (filter (is_along direction) ports)

abbrev pub variable_names : NetEntityTree → List (List ℕ)
variable_names e = map property_name e.variables

-- the path of the refinement that a state names, if it names one
abbrev pub refinement_path : NetEntityTree → State → Option (List ℕ)
refinement_path e s = option_map (below e.path) s.refinement

abbrev pub path_of : NetEntityTree → List ℕ
path_of e = e.path

abbrev pub number_if : List (List ℕ) → Option (List ℕ) → Option ℕ
number_if names None = None
number_if names (Some name) = number_of names name

-- the number of the refinement of a state among these entities, which stand in the Modal entity
abbrev pub refinement_of : NetEntityTree → List NetEntityTree → State → Option ℕ
refinement_of e kids s = number_if (map path_of kids) (refinement_path e s)
