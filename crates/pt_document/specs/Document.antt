-- What a document says, without where it lies in memory.
use Rattle.std.specs.Prelude.{ℕ, List, [], ◌∷◌, Option, Bool}
use Rattle.pt_document.specs.declared.job.Direction.{Direction}
use Rattle.pt_document.specs.declared.job.Relation.{Relation}
use Rattle.pt_document.specs.declared.job.Link.{Link}
use Rattle.pt_document.specs.declared.job.State.{State}
use Rattle.pt_document.specs.declared.job.OutputAction.{OutputAction}
use Rattle.pt_document.specs.declared.job.SetAction.{SetAction}
use Rattle.pt_document.specs.declared.job.Event.{Event}

-- a property: its name, value and class, and the properties in it
mutual
  pub data PropertyTree : Type 0 where
    property : List ℕ → Option (List ℕ) → Option (List ℕ) → PropertyTrees → PropertyTree

  pub data PropertyTrees : Type 0 where
    no_properties : PropertyTrees
    one_property : PropertyTree → PropertyTrees → PropertyTrees

abbrev pub to_properties : List PropertyTree → PropertyTrees
to_properties [] = no_properties
to_properties (p ∷ ps) = one_property p (to_properties ps)

abbrev pub property_list : PropertyTrees → List PropertyTree
property_list no_properties = []
property_list (one_property p ps) = p ∷ property_list ps

-- the property with these properties in it
abbrev pub filled : PropertyTree → List PropertyTree → PropertyTree
filled (property name value class inner) ps = property name value class (to_properties ps)

abbrev pub property_name : PropertyTree → List ℕ
property_name (property name value class inner) = name

abbrev pub property_value : PropertyTree → Option (List ℕ)
property_value (property name value class inner) = value

abbrev pub property_class : PropertyTree → Option (List ℕ)
property_class (property name value class inner) = class

-- the properties within a property, as the parameters of a director
abbrev pub inner_properties : PropertyTree → List PropertyTree
inner_properties (property name value class inner) = property_list inner

-- a port that an entity declares
pub record PortTree : Type 0 where
  pub name : List ℕ
  pub direction : Direction
  pub declared : Option (List ℕ)
  pub properties : List PropertyTree

-- a transition of a Modal entity
pub record TransitionTree : Type 0 where
  pub from : List ℕ
  pub to : List ℕ
  pub guard : List ℕ
  pub preemptive : Bool
  pub history : Bool
  pub output : List OutputAction
  pub set : List SetAction

-- how a transition is taken and what it does
pub record Effect : Type 0 where
  pub preemptive : Bool
  pub history : Bool
  pub output : List OutputAction
  pub set : List SetAction

-- what an entity has beside its entities
pub record Parts : Type 0 where
  pub name : List ℕ
  pub class : List ℕ
  pub properties : List PropertyTree
  pub ports : List PortTree
  pub relations : List Relation
  pub links : List Link
  pub states : List State
  pub initial : Option (List ℕ)
  pub transitions : List TransitionTree

-- the ports of an entity and what joins those of its entities
pub record Wiring : Type 0 where
  pub ports : List PortTree
  pub relations : List Relation
  pub links : List Link

-- the states and transitions of a Modal entity
pub record Machine : Type 0 where
  pub states : List State
  pub initial : Option (List ℕ)
  pub transitions : List TransitionTree

mutual
  pub data EntityTree : Type 0 where
    entity : Parts → EntityTrees → EntityTree

  pub data EntityTrees : Type 0 where
    no_entities : EntityTrees
    one_entity : EntityTree → EntityTrees → EntityTrees

abbrev pub to_entities : List EntityTree → EntityTrees
to_entities [] = no_entities
to_entities (e ∷ es) = one_entity e (to_entities es)

abbrev pub entity_list : EntityTrees → List EntityTree
entity_list no_entities = []
entity_list (one_entity e es) = e ∷ entity_list es

abbrev pub parts : EntityTree → Parts
parts (entity own inner) = own

abbrev pub entity_name : EntityTree → List ℕ
entity_name e = (parts e).name

-- the children of an entity, in the document's order
abbrev pub children : EntityTree → List EntityTree
children (entity own inner) = entity_list inner

-- what comes to an input port of the top
pub data SupplyTree : Type 0 where
  tokens : List (Option (List ℕ)) → SupplyTree
  events : List Event → SupplyTree

pub record InputTree : Type 0 where
  pub port : List ℕ
  pub supply : SupplyTree

-- what comes to a model, and what is recorded of it
pub record Surroundings : Type 0 where
  pub inputs : List InputTree
  pub records : List (List ℕ)

-- a whole job
pub record JobTree : Type 0 where
  pub model : EntityTree
  pub inputs : List InputTree
  pub records : List (List ℕ)
