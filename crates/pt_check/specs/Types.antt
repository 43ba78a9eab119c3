-- The types that a check tells of a net: that of each port that a channel begins or ends at, and of each output. Of an opaque composite channels outside and within count.
use Rattle.std.specs.Prelude.{ℕ, List, [], ◌∷◌, flat_map, Bool, ◌||◌, if◌then◌else◌}
use Rattle.std.specs.List.{enumerate_from}
use Rattle.pt_datatypes.specs.Datatype.{Datatype}
use Rattle.pt_typing.specs.declared.variable.Variable.TheVariants as variable
use Rattle.pt_typing.specs.Least.{Assignment}
use Rattle.pt_document.specs.declared.job.Port.{Port}
use Rattle.pt_document.specs.Names.{below}
use Rattle.pt_net.specs.declared.net.Channel.{Channel}
use Rattle.pt_net.specs.declared.net.Net.{Net}
use Rattle.pt_net.specs.declared.net.NetEntity.{NetEntity}
use Rattle.pt_net.specs.Inside.{is_output}
use Rattle.pt_check.specs.Joined.{is_joined}

-- port i of entity k with its type, by the path of the entity and the name of the port, and by the name alone where the entity is the top
abbrev pub port_type : Assignment → (k : ℕ) → NetEntity → (i : ℕ) → Port → List ℕ × Datatype
port_type typing k e i port = (below e.path port.name, typing.types (variable.Port k i))

-- it is told or not
abbrev pub told_if : Bool → List ℕ × Datatype → List (List ℕ × Datatype)
told_if told t = if told then t ∷ [] else []

-- those of an entity with its number, in the order of its ports
abbrev pub entity_types : List Channel → Assignment → ℕ × NetEntity → List (List ℕ × Datatype)
entity_types channels typing e = flat_map (λ p. told_if (is_joined channels e.0 p.0 || is_output p.1) (port_type typing e.0 e.1 p.0 p.1)) (enumerate_from 0 e.1.ports.items)

-- those of all library actors and opaque composites of a net, in the order of the document, with the top first
abbrev pub port_types : Net → Assignment → List (List ℕ × Datatype)
port_types net typing = flat_map (entity_types net.channels.items typing) (enumerate_from 0 net.entities.items)
