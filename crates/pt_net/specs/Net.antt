-- The net of a job.
use Rattle.std.specs.Prelude.{◌≡◌, ℕ, ◌↔◌, List, [], length, map, filter, Bool, IsTrue, not, ◌&&◌, Option, Some, None, option_map, unwrap_or, if◌then◌else◌, bytes_eq, codes}
use Rattle.std.specs.List.{AllZip, Contains, find, filter_map}
use Rattle.std.specs.Option.{option_eq, is_none}
use Rattle.pt_document.specs.declared.job.State.{State}
use Rattle.pt_document.specs.Document.{PropertyTree, property_name, property_class, inner_properties, PortTree, TransitionTree, Parts, parts, JobTree}
use Rattle.pt_document.specs.Classes.{ClassPort, Kind, Composite, Modal, Actor, kind_of}
use Rattle.pt_document.specs.Names.{is_layout}
use Rattle.pt_document.specs.View as view
use Rattle.pt_net.specs.declared.wire.Wire.{Wire}
use Rattle.pt_net.specs.declared.net.End.{End}
use Rattle.pt_net.specs.declared.net.Channel.{Channel}
use Rattle.pt_net.specs.declared.net.NetPort.{NetPort}
use Rattle.pt_net.specs.declared.net.Joint.{Joint}
use Rattle.pt_net.specs.declared.net.NetDirector.{NetDirector}
use Rattle.pt_net.specs.declared.net.NetEntity.{NetEntity}
use Rattle.pt_net.specs.declared.net.Transparent.{Transparent}
use Rattle.pt_net.specs.declared.net.Net.{Net}
use Rattle.pt_net.specs.Standing.{Standing, is_opaque, is_kept, is_director, entities}
use Rattle.pt_net.specs.Table.{PortAt, Tables, joined_ports, tables_of, port_path}
use Rattle.pt_net.specs.Joints.{IsJointOf}
use Rattle.pt_net.specs.Wires.{wire_of, is_input, Place, places, Reaches}

-- what the links join that name what is there
abbrev pub wires : Tables → List Wire
wires t = filter_map (wire_of t.ports t.relations) t.links

-- the places of a job, in the order of their numbers
abbrev pub all_places : Tables → List Place
all_places t = places t.ports (wires t)

-- this port is a source that a path joins with this place
abbrev pub ReachesIn : Tables → ℕ → PortAt → Place → Type 0
ReachesIn t g p place = Reaches t.ports (wires t) g p place

-- ---- entities

abbrev pub has_class : Option (List ℕ) → List ℕ → Bool
has_class class name = option_eq bytes_eq class (Some name)

-- a property that sets a parameter
abbrev pub is_parameter : PropertyTree → Bool
is_parameter p = not (is_layout (property_name p)) && is_none (property_class p)

-- a property that declares a Variable of a Modal entity
abbrev pub is_variable : PropertyTree → Bool
is_variable p = not (is_layout (property_name p)) && has_class (property_class p) (codes "Variable")

pub record DirectorTree : Type 0 where
  pub class : List ℕ
  pub parameters : List PropertyTree

abbrev pub director_tree : PropertyTree → DirectorTree
director_tree p = record { class = unwrap_or (property_class p) []; parameters = filter is_parameter (inner_properties p) }

-- a port of a class, as one that is declared without a type
abbrev pub row_port : ClassPort → PortTree
row_port p = record { name = p.name; direction = p.direction; declared = None; properties = [] }

abbrev pub net_ports_of_kind : Option Kind → List PortTree → List PortTree
net_ports_of_kind (Some (Actor class)) declared = joined_ports class.declares declared (map row_port class.ports)
net_ports_of_kind (Some Composite) declared = declared
net_ports_of_kind (Some Modal) declared = declared
net_ports_of_kind None declared = declared

-- the ports of an entity, in the order in which they are numbered
abbrev pub net_ports : Parts → List PortTree
net_ports own = net_ports_of_kind (kind_of own.class) own.ports

pub record NetEntityTree : Type 0 where
  pub path : List ℕ
  pub class : List ℕ
  pub director : Option DirectorTree
  pub parent : Option ℕ
  pub within : Option ℕ
  pub ports : List PortTree
  pub parameters : List PropertyTree
  pub variables : List PropertyTree
  pub states : List State
  pub initial : Option (List ℕ)
  pub transitions : List TransitionTree

pub record TransparentTree : Type 0 where
  pub path : List ℕ
  pub parent : Option ℕ
  pub within : Option ℕ
  pub ports : List PortTree
  pub parameters : List PropertyTree

abbrev pub entity_tree : Standing → NetEntityTree
entity_tree s =
    let own = parts s.tree in
    record { path = s.path; class = own.class; director = option_map director_tree (find is_director own.properties); parent = s.round.parent; within = s.round.within; ports = net_ports own; parameters = filter is_parameter own.properties; variables = filter is_variable own.properties; states = own.states; initial = own.initial; transitions = own.transitions }

abbrev pub transparent_tree : Standing → TransparentTree
transparent_tree s =
    let own = parts s.tree in
    record { path = s.path; parent = s.round.parent; within = s.round.within; ports = net_ports own; parameters = filter is_parameter own.properties }

-- ---- channels

-- a port of the net
abbrev pub net_port : PortAt → NetPort
net_port p = record { entity = p.standing.number; port = p.number }

abbrev pub end_at : PortAt → ℕ → End
end_at p index = record { entity = p.standing.number; port = p.number; index = index }

-- the composite of a channel to this port: for an input the innermost opaque one round it, for an own output its own
abbrev pub composite_of : PortAt → ℕ
composite_of p = if is_input p then unwrap_or p.standing.round.parent 0 else p.standing.number

-- the channel from a port to a place
abbrev pub channel : PortAt → Place → Channel
channel from to = record { composite = composite_of to.at; from = end_at from 0; to = end_at to.at to.index }

-- a pair of a source and a place is a channel exactly where a path of links, relation groups and transparent composites
-- joins them
pub record IsChannel (t : Tables) (k : Channel) : Type 0 where
  pub source : ℕ
  pub source_at : PortAt
  pub place : Place
  pub is_place : Contains (all_places t) place
  pub reaches : ReachesIn t source source_at place
  pub is : k ≡ channel source_at place

-- this is the channel to that place
pub record IsChannelTo (t : Tables) (place : Place) (k : Channel) : Type 0 where
  pub source : ℕ
  pub source_at : PortAt
  pub reaches : ReachesIn t source source_at place
  pub is : k ≡ channel source_at place

-- what each link joins, in the order of the document
abbrev pub AreJoints : Tables → List Joint → Type 0
AreJoints t joints = AllZip (IsJointOf t.ports) (wires t) joints

-- a text names an output port of a library actor or an opaque composite; a top without a director is none
pub record Names (t : Tables) (text : List ℕ) (p : PortAt) : Type 0 where
  pub there : Contains t.ports p
  pub opaque : IsTrue (is_opaque p.standing)
  pub output : IsTrue (not (is_input p))
  pub told : port_path p ≡ text

-- a text names this port of the net
abbrev pub Records : Tables → List ℕ → NetPort → Type 0
Records t text port = (p : PortAt) × Names t text p × (port ≡ net_port p)

-- ---- what the program holds

abbrev pub director_view : NetDirector → DirectorTree
director_view d = record { class = d.class; parameters = view.properties_view d.parameters.items }

abbrev pub entity_view : NetEntity → NetEntityTree
entity_view e =
    record { path = e.path; class = e.class; director = option_map director_view e.director; parent = e.parent; within = e.within; ports = map view.port_view e.ports.items; parameters = view.properties_view e.parameters.items; variables = view.properties_view e.variables.items; states = e.states.items; initial = e.initial; transitions = map view.transition_view e.transitions.items }

abbrev pub transparent_view : Transparent → TransparentTree
transparent_view t =
    record { path = t.path; parent = t.parent; within = t.within; ports = map view.port_view t.ports.items; parameters = view.properties_view t.parameters.items }

-- the net of a job: its library actors and opaque composites, its transparent composites, and exactly its channels, in the
-- order of their places; how many relations it has, and what its links join; what comes in and what is recorded
pub record IsNetOf (job : JobTree) (net : Net) : Type 0 where
  pub each_entity : map entity_view net.entities.items ≡ map entity_tree (filter is_kept (entities job))
  pub each_transparent : map transparent_view net.transparent.items ≡ map transparent_tree (filter (λ s. not (is_kept s)) (entities job))
  pub channels : (k : Channel) → Contains net.channels.items k ↔ IsChannel (tables_of job) k
  pub numbered : AllZip (IsChannelTo (tables_of job)) (all_places (tables_of job)) net.channels.items
  pub relations : net.relation_count ≡ length (tables_of job).relations
  pub joints : AreJoints (tables_of job) net.joints.items
  pub inputs : map view.input_view net.inputs.items ≡ job.inputs
  pub records : net.records.items ≡ job.records
  pub recorded : AllZip (Records (tables_of job)) job.records net.recorded.items
