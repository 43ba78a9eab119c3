-- What a job is like that a document says.
use Rattle.std.specs.Prelude.{◌≡◌, ℕ, ◌^◌, ◌<◌, ◌≤◌, List, [], true, Option, Some, None, IfSome, map}
use Rattle.std.specs.List.{AllByRecursion}
use Rattle.pt_document.specs.declared.job.Relation.{Relation}
use Rattle.pt_document.specs.declared.job.State.{State}
use Rattle.pt_document.specs.declared.job.Event.{Event}
use Rattle.pt_document.specs.Document.{PropertyTree, property, property_name, property_list, PropertyTrees, no_properties, one_property, PortTree, Parts, EntityTree, entity, entity_name, entity_list, EntityTrees, no_entities, one_entity, SupplyTree, tokens, events, JobTree}
use Rattle.pt_document.specs.Classes.{Kind, Composite, Modal, Actor, kind_of}
use Rattle.pt_document.specs.Names.{is_name, is_among, are_distinct, below, top_path}
use Rattle.pt_document.specs.TypeWords.{is_type_text}
use Rattle.pt_document.specs.declared.refusal.Refusal.{Refusal}
use Rattle.pt_moml.specs.Forms.{keys}
use Rattle.pt_moml.specs.Forms as forms
use Rattle.pt_moml.specs.Rules.{parts_fit}
use Rattle.pt_moml.specs.Limits.{Nest, no_nest, one_nest, is_within}
use Rattle.std.specs.Prelude.{Result, Ok}
use Rattle.pt_write.specs.Written.{Values, Slot, absent, given, Fields, no_fields, field, depth}
use Rattle.pt_write.specs.Document.{entity_fields, entity_values, document}

-- the names of these differ
abbrev pub Differ : {A : Type 0} → (A → List ℕ) → List A → Type 0
Differ name xs = are_distinct (map name xs) ≡ true

-- ---- properties, ports, relations and states

-- a property has a name, and so have those in it, which differ
abbrev mutual
  pub IsProperty : PropertyTree → Type 0
  IsProperty (property name value class inner) = (is_name name ≡ true) × Differ property_name (property_list inner) × AreProperties inner

  pub AreProperties : PropertyTrees → Type 0
  AreProperties no_properties = Unit {0}
  AreProperties (one_property p ps) = IsProperty p × AreProperties ps

pub record IsPort (p : PortTree) : Type 0 where
  pub name : is_name p.name ≡ true
  pub declared : IfSome p.declared (λ text. is_type_text text ≡ true)
  pub properties : AllByRecursion IsProperty p.properties
  pub differ : Differ property_name p.properties

abbrev pub IsRelation : Relation → Type 0
IsRelation r = is_name r.name ≡ true

abbrev pub IsState : State → Type 0
IsState s = is_name s.name ≡ true

-- ---- entities

-- where anything stands at a field, its key is one of these
abbrev pub IsSlotAmong : List (List ℕ) → List ℕ → Slot → Type 0
IsSlotAmong keys key absent = Unit {0}
IsSlotAmong keys key (given v) = is_among keys key ≡ true

abbrev pub AreFieldsAmong : List (List ℕ) → Fields → Type 0
AreFieldsAmong keys no_fields = Unit {0}
AreFieldsAmong keys (field key slot fs) = IsSlotAmong keys key slot × AreFieldsAmong keys fs

-- a Modal entity has an initial state, and no other has states
abbrev pub HasStates : Kind → Option (List ℕ) → List State → Type 0
HasStates Modal initial states = (s : List ℕ) × (initial ≡ Some s)
HasStates Composite initial states = (initial ≡ None) × (states ≡ [])
HasStates (Actor class) initial states = (initial ≡ None) × (states ≡ [])

abbrev fits : Result (Unit {0}) Refusal
fits = Ok tt

-- in the entity of this path: what it has beside its entities is as its class wants it
pub record HasParts (here : List ℕ) (own : Parts) (inner : Values) : Type 0 where
  pub kind : Kind
  pub class : kind_of own.class ≡ Some kind
  pub fields : AreFieldsAmong (keys (forms.entity kind)) (entity_fields own inner)
  pub properties : AllByRecursion IsProperty own.properties
  pub properties_differ : Differ property_name own.properties
  pub ports : AllByRecursion IsPort own.ports
  pub ports_differ : Differ (λ p. p.name) own.ports
  pub relations : AllByRecursion IsRelation own.relations
  pub relations_differ : Differ (λ r. r.name) own.relations
  pub states : AllByRecursion IsState own.states
  pub states_differ : Differ (λ s. s.name) own.states
  pub machine : HasStates kind own.initial own.states
  pub fit : parts_fit here kind own.properties own.ports ≡ fits

abbrev mutual
  pub IsEntity : List ℕ → EntityTree → Type 0
  IsEntity here (entity own inner) = HasParts here own (entity_values inner) × Differ entity_name (entity_list inner) × AreEntities here inner

  -- those within the entity of this path
  pub AreEntities : List ℕ → EntityTrees → Type 0
  AreEntities here no_entities = Unit {0}
  AreEntities here (one_entity e es) = (is_name (entity_name e) ≡ true) × IsEntity (below here (entity_name e)) e × AreEntities here es

-- ---- the job

-- the entities within an entity
abbrev mutual
  pub nest_of : EntityTree → Nest
  nest_of (entity own inner) = nest_of_all inner

  pub nest_of_all : EntityTrees → Nest
  nest_of_all no_entities = no_nest
  nest_of_all (one_entity e es) = one_nest (nest_of e) (nest_of_all es)

abbrev pub most : ℕ
most = 127

-- the time and step of an event have 64 bits
abbrev pub IsEvent : Event → Type 0
IsEvent e = (e.time < 2 ^ 64) × (e.step < 2 ^ 64)

abbrev pub IsSupply : SupplyTree → Type 0
IsSupply (tokens ts) = Unit {0}
IsSupply (events es) = AllByRecursion IsEvent es

-- A document says the job.
pub record IsSayable (job : JobTree) : Type 0 where
  pub name : is_name (entity_name job.model) ≡ true
  pub model : IsEntity top_path job.model
  -- the entities are few enough, and don't nest too deep
  pub within : is_within (nest_of job.model) ≡ true
  pub inputs : AllByRecursion (λ i. IsSupply i.supply) job.inputs
  -- nor do the properties
  pub shallow : depth (document job) ≤ most
