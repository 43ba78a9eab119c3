-- The document of a job: its objects with their fields in the order of the format. A list that is empty, a truth value
-- that is false and what isn't there are left out, where the format lets them be.
use Rattle.std.specs.Prelude.{ℕ, List, Bool, true, false, Option, Some, None, map, codes}
use Rattle.pt_document.specs.declared.job.Direction.{Direction}
use Rattle.pt_document.specs.declared.job.Direction.TheVariants.{Input, Output}
use Rattle.pt_document.specs.declared.job.Relation.{Relation}
use Rattle.pt_document.specs.declared.job.Link.{Link}
use Rattle.pt_document.specs.declared.job.Link.TheVariants.{Port, Relations}
use Rattle.pt_document.specs.declared.job.State.{State}
use Rattle.pt_document.specs.declared.job.OutputAction.{OutputAction}
use Rattle.pt_document.specs.declared.job.SetAction.{SetAction}
use Rattle.pt_document.specs.declared.job.Event.{Event}
use Rattle.pt_document.specs.Document.{PropertyTree, property, PropertyTrees, no_properties, one_property, PortTree, TransitionTree, Parts, EntityTree, entity, EntityTrees, no_entities, one_entity, SupplyTree, tokens, events, InputTree, JobTree}
use Rattle.pt_write.specs.Written.{Value, null, truth, whole, text, array, object, Values, no_values, value_then, to_values, Slot, absent, given, Fields, no_fields, field}

-- ---- what stands at fields

-- a text that has to be there
abbrev pub text_slot : List ℕ → Slot
text_slot s = given (text s)

abbrev pub optional_text : Option (List ℕ) → Slot
optional_text None = absent
optional_text (Some s) = given (text s)

-- a truth value that may be left out
abbrev pub optional_truth : Bool → Slot
optional_truth false = absent
optional_truth true = given (truth true)

-- a list that may be left out
abbrev pub optional_list : Values → Slot
optional_list no_values = absent
optional_list (value_then v vs) = given (array (value_then v vs))

-- a list that has to be there
abbrev pub list_slot : Values → Slot
list_slot vs = given (array vs)

abbrev pub values : {A : Type 0} → (A → Value) → List A → Values
values value xs = to_values (map value xs)

-- ---- properties

abbrev pub property_fields : (name : List ℕ) (value class : Option (List ℕ)) → Values → Fields
property_fields name value class inner =
    field (codes "name") (text_slot name) (field (codes "value") (optional_text value) (field (codes "class") (optional_text class)
    (field (codes "properties") (optional_list inner) no_fields)))

abbrev mutual
  pub property_value : PropertyTree → Value
  property_value (property name value class inner) = object (property_fields name value class (property_values inner))

  pub property_values : PropertyTrees → Values
  property_values no_properties = no_values
  property_values (one_property p ps) = value_then (property_value p) (property_values ps)

-- ---- ports, relations and links

abbrev pub is_input : Direction → Bool
is_input Input = true
is_input Output = false

abbrev pub is_output : Direction → Bool
is_output Input = false
is_output Output = true

abbrev pub port_fields : PortTree → Fields
port_fields p =
    field (codes "name") (text_slot p.name) (field (codes "input") (optional_truth (is_input p.direction)) (field (codes "output") (optional_truth (is_output p.direction))
    (field (codes "type") (optional_text p.declared) (field (codes "properties") (optional_list (values property_value p.properties)) no_fields))))

abbrev pub port_value : PortTree → Value
port_value p = object (port_fields p)

-- one text, and two
abbrev pub one_text : (key text : List ℕ) → Fields
one_text key s = field key (text_slot s) no_fields

abbrev pub two_texts : (key text other_key other : List ℕ) → Fields
two_texts key s other_key other = field key (text_slot s) (one_text other_key other)

abbrev pub relation_value : Relation → Value
relation_value r = object (one_text (codes "name") r.name)

abbrev pub link_value : Link → Value
link_value (Port port relation) = object (two_texts (codes "port") port (codes "relation") relation)
link_value (Relations first second) = object (two_texts (codes "relation1") first (codes "relation2") second)

-- ---- states and transitions

abbrev pub state_fields : State → Fields
state_fields s = field (codes "name") (text_slot s.name) (field (codes "refinement") (optional_text s.refinement) no_fields)

abbrev pub state_value : State → Value
state_value s = object (state_fields s)

abbrev pub output_value : OutputAction → Value
output_value a = object (two_texts (codes "port") a.port (codes "value") a.value)

abbrev pub set_value : SetAction → Value
set_value a = object (two_texts (codes "name") a.name (codes "value") a.value)

-- how a transition is taken and what it does
abbrev pub effect_fields : TransitionTree → Fields
effect_fields t =
    field (codes "preemptive") (optional_truth t.preemptive) (field (codes "history") (given (truth t.history)) (field (codes "output") (optional_list (values output_value t.output))
    (field (codes "set") (optional_list (values set_value t.set)) no_fields)))

abbrev pub transition_fields : TransitionTree → Fields
transition_fields t = field (codes "from") (text_slot t.from) (field (codes "to") (text_slot t.to) (field (codes "guard") (text_slot t.guard) (effect_fields t)))

abbrev pub transition_value : TransitionTree → Value
transition_value t = object (transition_fields t)

-- ---- entities

-- the states of a Modal entity, which has an initial one, have to be there
abbrev pub states_slot : Option (List ℕ) → Values → Slot
states_slot None vs = optional_list vs
states_slot (Some s) vs = list_slot vs

abbrev pub entity_fields : Parts → Values → Fields
entity_fields own inner =
    field (codes "name") (text_slot own.name) (field (codes "class") (text_slot own.class) (field (codes "properties") (optional_list (values property_value own.properties))
    (field (codes "ports") (optional_list (values port_value own.ports)) (field (codes "entities") (optional_list inner)
    (field (codes "relations") (optional_list (values relation_value own.relations)) (field (codes "links") (optional_list (values link_value own.links))
    (field (codes "states") (states_slot own.initial (values state_value own.states)) (field (codes "initial") (optional_text own.initial)
    (field (codes "transitions") (optional_list (values transition_value own.transitions)) no_fields)))))))))

abbrev mutual
  pub entity_value : EntityTree → Value
  entity_value (entity own inner) = object (entity_fields own (entity_values inner))

  pub entity_values : EntityTrees → Values
  entity_values no_entities = no_values
  entity_values (one_entity e es) = value_then (entity_value e) (entity_values es)

-- ---- the job

-- a token of an input, which may be an absent one
abbrev pub token_value : Option (List ℕ) → Value
token_value None = null
token_value (Some s) = text s

abbrev pub event_fields : Event → Fields
event_fields e = field (codes "time") (given (whole e.time)) (field (codes "step") (given (whole e.step)) (one_text (codes "value") e.value))

abbrev pub event_value : Event → Value
event_value e = object (event_fields e)

abbrev pub supply_field : SupplyTree → Fields
supply_field (tokens ts) = field (codes "tokens") (list_slot (values token_value ts)) no_fields
supply_field (events es) = field (codes "events") (list_slot (values event_value es)) no_fields

abbrev pub input_fields : InputTree → Fields
input_fields i = field (codes "port") (text_slot i.port) (supply_field i.supply)

abbrev pub input_value : InputTree → Value
input_value i = object (input_fields i)

abbrev pub job_fields : JobTree → Fields
job_fields job =
    field (codes "version") (given (whole 1)) (field (codes "model") (given (entity_value job.model)) (field (codes "inputs") (optional_list (values input_value job.inputs))
    (field (codes "record") (optional_list (values text job.records)) no_fields)))

abbrev pub document : JobTree → Value
document job = object (job_fields job)
