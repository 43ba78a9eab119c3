-- The types at the places of the entities of a net and on their outputs.
use Rattle.std.specs.Prelude.{ℕ, List, [], map, Bool, true, false, Option, Some, None, slice_get}
use Rattle.std.specs.List.{Contains}
use Rattle.pt_datatypes.specs.Datatype.{Datatype}
use Rattle.pt_datatypes.specs.Order.{IsBelow}
use Rattle.pt_net.specs.declared.net.Channel.{Channel}
use Rattle.pt_net.specs.declared.net.Net.{Net}
use Rattle.pt_net.specs.declared.net.NetEntity.{NetEntity}
use Rattle.pt_net.specs.Inside.{is_input, is_output}
use Rattle.pt_scopes.specs.Scopes.{is_composite_class}
use Rattle.pt_typing.specs.declared.variable.Variable.TheVariants as variable
use Rattle.pt_typing.specs.Least.{Assignment}
use Rattle.pt_cover.specs.Paths.{entity_at}
pub use Rattle.pt_order.specs.Wired.{arrivals, goes_out, departures, number_if, port_numbers, BeginsIn, at_own, at_child, IsWired}
use Rattle.pt_kinds.specs.Signature.{Signature, Signatures}

-- ---- channels

-- the type at the source of a channel
abbrev pub source_type : Assignment → Channel → Datatype
source_type typing k = typing.types (variable.Port k.from.entity k.from.port)

-- the type at its place
abbrev pub place_type : Assignment → Channel → Datatype
place_type typing k = typing.types (variable.Port k.to.entity k.to.port)

-- what is at the source of each channel is below what is at its place
abbrev pub TypesGoUp : Net → Assignment → Type 0
TypesGoUp net typing = (k : Channel) → Contains net.channels.items k → IsBelow (source_type typing k) (place_type typing k)

-- ---- entities

-- the types of some ports of an entity
abbrev pub port_types : Assignment → (entity : ℕ) → List ℕ → List Datatype
port_types typing k numbers = map (λ i. typing.types (variable.Port k i)) numbers

-- the places of a library actor are the ends of channels, and those of a composite are its inputs
abbrev pub by_class : Bool → (inputs ends : List Datatype) → List Datatype
by_class false inputs ends = ends
by_class true inputs ends = inputs

-- the types of an entity
abbrev pub types_of : Net → Assignment → ℕ → Option NetEntity → Signature Datatype
types_of net typing k None = record { places = []; outputs = [] }
types_of net typing k (Some e) =
    record { places = by_class (is_composite_class e.class) (port_types typing k (port_numbers is_input 0 e.ports.items)) (map (place_type typing) (arrivals net.channels.items k)); outputs = port_types typing k (port_numbers is_output 0 e.ports.items) }

-- those of an entity by its number, if there is one
abbrev pub types_at : Net → Assignment → Option ℕ → Signature Datatype
types_at net typing None = record { places = []; outputs = [] }
types_at net typing (Some k) = types_of net typing k (slice_get net.entities.items k)

-- the types of each node of the tree of the net from entity k on
abbrev pub types_below : Net → Assignment → ℕ → Signatures Datatype
types_below net typing k p = types_at net typing (entity_at net.entities.items k p)
