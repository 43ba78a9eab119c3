-- What a document's values read as: the job and its parts, or the first refusal in the order of reading.
use Rattle.std.specs.Prelude.{◌≡◌, ℕ, ◌==◌, List, [], ◌∷◌, ◌++◌, Bool, true, false, codes, Option, Some, None, Result, Ok, Err, if◌then◌else◌, is_some, option_and_then, map, ◌⊎◌, IsUtf8}
use Rattle.std.specs.Ordering.{nat_cmp, match_ordering}
use Rattle.std.specs.Cmp.Lexicographic.{slice_cmp}
use Rattle.serde_json.specs.Data.{Data, null, array, object, Items, no_items, item, Members, no_members, member}
use Rattle.serde_json.specs.Find.{get, as_number, as_u64}
use Rattle.serde_json.specs.Read.{read}
use Rattle.pt_document.specs.declared.code.Code.TheVariants.{Json, Shape, Class, Limit}
use Rattle.pt_document.specs.declared.job.Direction.{Direction}
use Rattle.pt_document.specs.declared.job.Direction.TheVariants.{Input, Output}
use Rattle.pt_document.specs.declared.job.Relation.{Relation}
use Rattle.pt_document.specs.declared.job.Link.{Link}
use Rattle.pt_document.specs.declared.job.Link.TheVariants.{Port, Relations}
use Rattle.pt_document.specs.declared.job.State.{State}
use Rattle.pt_document.specs.declared.job.OutputAction.{OutputAction}
use Rattle.pt_document.specs.declared.job.SetAction.{SetAction}
use Rattle.pt_document.specs.declared.job.Event.{Event}
use Rattle.pt_moml.specs.declared.parts.Way.{Way}
use Rattle.pt_document.specs.declared.refusal.Refusal.{Refusal}
use Rattle.pt_document.specs.declared.refusal.DocFault.{DocFault}
use Rattle.pt_document.specs.declared.refusal.DocFault.TheVariants as faults
use Rattle.pt_document.specs.Document.{PropertyTree, property, to_properties, property_name, PortTree, TransitionTree, Effect, Parts, Wiring, Machine, EntityTree, entity, to_entities, entity_name, tokens, events, InputTree, Surroundings, JobTree}
use Rattle.pt_document.specs.Classes.{Kind, Modal, kind_of}
use Rattle.pt_document.specs.Outcome.{◌>>=◌, refused}
use Rattle.pt_document.specs.Names.{top_path, below}
use Rattle.pt_document.specs.TypeWords.{is_type_text}
use Rattle.pt_moml.specs.Fields.{text_at, required_text, optional_text, name_at, required_truth, optional_truth, required_whole, listed, required_list, optional_list, distinct_at}
use Rattle.pt_moml.specs.Rules.{parts_fit}
use Rattle.pt_moml.specs.Limits.{nest_field, is_within}
use Rattle.pt_moml.specs.Forms as forms
use Rattle.pt_moml.specs.Forms.{keys}

-- the list itself, where the names in it differ
unfoldable pub named : {A : Type 0} → List ℕ → (A → List ℕ) → List A → Result (List A) Refusal
named path name xs = distinct_at path (map name xs) >>= λ _. Ok xs

-- ---- properties

abbrev pub property_fields : List (List ℕ)
property_fields = codes "name" ∷ codes "value" ∷ codes "class" ∷ codes "properties" ∷ []

-- one property, given what its own properties read as
unfoldable pub property_from : List ℕ → Data → Result (List PropertyTree) Refusal → Result PropertyTree Refusal
property_from path d inner = do
  _ ← listed path property_fields d
  name ← name_at path (get (codes "name") d)
  value ← optional_text path (get (codes "value") d)
  class ← optional_text path (get (codes "class") d)
  properties ← inner
  Ok (property name value class (to_properties properties))

unfoldable mutual
  -- the properties of an object
  pub properties_in : List ℕ → Data → Result (List PropertyTree) Refusal
  properties_in path (object ms) = properties_under path ms
  properties_in path _ = Ok []

  pub properties_under : List ℕ → Members → Result (List PropertyTree) Refusal
  properties_under path no_members = Ok []
  properties_under path (member k d ms) = match_ordering (slice_cmp nat_cmp (codes "properties") k) (properties_under path ms) (properties_at path d) (properties_under path ms)

  pub properties_at : List ℕ → Data → Result (List PropertyTree) Refusal
  properties_at path (array ds) = property_items path [] ds >>= λ ps. named path property_name ps
  properties_at path _ = refused Shape path

  pub property_items : List ℕ → List PropertyTree → Items → Result (List PropertyTree) Refusal
  property_items path done no_items = Ok done
  property_items path done (item d ds) = property_from path d (properties_in path d) >>= λ p. property_items path (done ++ p ∷ []) ds

-- the properties at a field; an absent list is empty
abbrev pub properties_field : List ℕ → Option Data → Result (List PropertyTree) Refusal
properties_field path None = Ok []
properties_field path (Some d) = properties_at path d

-- one property
abbrev pub property_at : List ℕ → Data → Result PropertyTree Refusal
property_at path d = property_from path d (properties_field path (get (codes "properties") d))

-- ---- ports, relations and links

abbrev pub port_fields : List (List ℕ)
port_fields = codes "name" ∷ codes "input" ∷ codes "output" ∷ codes "type" ∷ codes "properties" ∷ []

-- exactly one of input and output is true
abbrev pub direction_at : List ℕ → Bool → Bool → Result Direction Refusal
direction_at path true false = Ok Input
direction_at path false true = Ok Output
direction_at path _ _ = refused Shape path

-- a port may declare the text of a type
unfoldable pub declared_at : List ℕ → Option Data → Result (Option (List ℕ)) Refusal
declared_at path None = Ok None
declared_at path (Some d) = text_at path d >>= λ s. if is_type_text s then Ok (Some s) else refused Shape path

-- the direction that the fields of a port say
unfoldable pub facing_at : List ℕ → Data → Result Direction Refusal
facing_at path d = do
  input ← optional_truth path (get (codes "input") d)
  output ← optional_truth path (get (codes "output") d)
  direction_at path input output

unfoldable pub port_at : List ℕ → Data → Result PortTree Refusal
port_at path d = do
  _ ← listed path port_fields d
  name ← name_at path (get (codes "name") d)
  input ← optional_truth path (get (codes "input") d)
  output ← optional_truth path (get (codes "output") d)
  direction ← direction_at path input output
  declared ← declared_at path (get (codes "type") d)
  properties ← properties_field path (get (codes "properties") d)
  Ok (record { name = name; direction = direction; declared = declared; properties = properties })

unfoldable pub relation_at : List ℕ → Data → Result Relation Refusal
relation_at path d = do
  _ ← listed path (codes "name" ∷ []) d
  name ← name_at path (get (codes "name") d)
  Ok (record { name = name })

-- a link of a port to a relation
unfoldable pub port_link : List ℕ → Data → Result Link Refusal
port_link path d = do
  _ ← listed path (codes "port" ∷ codes "relation" ∷ []) d
  port ← required_text path (get (codes "port") d)
  relation ← required_text path (get (codes "relation") d)
  Ok (Port port relation)

-- a link of two relations
unfoldable pub relations_link : List ℕ → Data → Result Link Refusal
relations_link path d = do
  _ ← listed path (codes "relation1" ∷ codes "relation2" ∷ []) d
  first ← required_text path (get (codes "relation1") d)
  second ← required_text path (get (codes "relation2") d)
  Ok (Relations first second)

abbrev pub link_at : List ℕ → Data → Result Link Refusal
link_at path d = if is_some (get (codes "port") d) then port_link path d else relations_link path d

-- ---- states and transitions

unfoldable pub state_at : List ℕ → Data → Result State Refusal
state_at path d = do
  _ ← listed path (codes "name" ∷ codes "refinement" ∷ []) d
  name ← name_at path (get (codes "name") d)
  refinement ← optional_text path (get (codes "refinement") d)
  Ok (record { name = name; refinement = refinement })

unfoldable pub output_at : List ℕ → Data → Result OutputAction Refusal
output_at path d = do
  _ ← listed path (codes "port" ∷ codes "value" ∷ []) d
  port ← required_text path (get (codes "port") d)
  value ← required_text path (get (codes "value") d)
  Ok (record { port = port; value = value })

unfoldable pub set_at : List ℕ → Data → Result SetAction Refusal
set_at path d = do
  _ ← listed path (codes "name" ∷ codes "value" ∷ []) d
  name ← required_text path (get (codes "name") d)
  value ← required_text path (get (codes "value") d)
  Ok (record { name = name; value = value })

abbrev pub transition_fields : List (List ℕ)
transition_fields = codes "from" ∷ codes "to" ∷ codes "guard" ∷ codes "preemptive" ∷ codes "history" ∷ codes "output" ∷ codes "set" ∷ []

unfoldable pub way_at : List ℕ → Data → Result Way Refusal
way_at path d = do
  from ← required_text path (get (codes "from") d)
  to ← required_text path (get (codes "to") d)
  guard ← required_text path (get (codes "guard") d)
  Ok (record { from = from; to = to; guard = guard })

unfoldable pub effect_at : List ℕ → Data → Result Effect Refusal
effect_at path d = do
  preemptive ← optional_truth path (get (codes "preemptive") d)
  history ← required_truth path (get (codes "history") d)
  output ← optional_list output_at path (get (codes "output") d)
  set ← optional_list set_at path (get (codes "set") d)
  Ok (record { preemptive = preemptive; history = history; output = output; set = set })

unfoldable pub transition_at : List ℕ → Data → Result TransitionTree Refusal
transition_at path d = do
  _ ← listed path transition_fields d
  from ← required_text path (get (codes "from") d)
  to ← required_text path (get (codes "to") d)
  guard ← required_text path (get (codes "guard") d)
  preemptive ← optional_truth path (get (codes "preemptive") d)
  history ← required_truth path (get (codes "history") d)
  output ← optional_list output_at path (get (codes "output") d)
  set ← optional_list set_at path (get (codes "set") d)
  Ok (record { from = from; to = to; guard = guard; preemptive = preemptive; history = history; output = output; set = set })

-- ---- entities

-- the fields that an entity may have
abbrev pub entity_fields : Kind → List (List ℕ)
entity_fields kind = keys (forms.entity kind)

-- what an entity of the class is, where there is such a class
abbrev pub kind_given : List ℕ → Option Kind → Result Kind Refusal
kind_given here None = refused Class here
kind_given here (Some kind) = Ok kind

abbrev pub kind_at : List ℕ → List ℕ → Result Kind Refusal
kind_at here class = kind_given here (kind_of class)

abbrev pub ports_field : List ℕ → Option Data → Result (List PortTree) Refusal
ports_field here field = optional_list port_at here field >>= λ ps. named here (λ p. p.name) ps

abbrev pub relations_field : List ℕ → Option Data → Result (List Relation) Refusal
relations_field here field = optional_list relation_at here field >>= λ rs. named here (λ r. r.name) rs

-- a Modal entity has states
unfoldable pub states_field : List ℕ → Kind → Option Data → Result (List State) Refusal
states_field here Modal field = required_list state_at here field >>= λ ss. named here (λ s. s.name) ss
states_field here _ field = Ok []

-- and an initial one
unfoldable pub initial_field : List ℕ → Kind → Option Data → Result (Option (List ℕ)) Refusal
initial_field here Modal field = required_text here field >>= λ s. Ok (Some s)
initial_field here _ field = Ok None

unfoldable pub wiring_at : List ℕ → Data → Result Wiring Refusal
wiring_at here d = do
  ports ← ports_field here (get (codes "ports") d)
  relations ← relations_field here (get (codes "relations") d)
  links ← optional_list link_at here (get (codes "links") d)
  Ok (record { ports = ports; relations = relations; links = links })

unfoldable pub machine_at : List ℕ → Kind → Data → Result Machine Refusal
machine_at here kind d = do
  states ← states_field here kind (get (codes "states") d)
  initial ← initial_field here kind (get (codes "initial") d)
  transitions ← optional_list transition_at here (get (codes "transitions") d)
  Ok (record { states = states; initial = initial; transitions = transitions })

-- what an entity has beside its entities
unfoldable pub parts_at : (here name class : List ℕ) → Kind → Data → Result Parts Refusal
parts_at here name class kind d = do
  _ ← listed here (entity_fields kind) d
  properties ← properties_field here (get (codes "properties") d)
  ports ← ports_field here (get (codes "ports") d)
  relations ← relations_field here (get (codes "relations") d)
  links ← optional_list link_at here (get (codes "links") d)
  states ← states_field here kind (get (codes "states") d)
  initial ← initial_field here kind (get (codes "initial") d)
  transitions ← optional_list transition_at here (get (codes "transitions") d)
  Ok (record { name = name; class = class; properties = properties; ports = ports; relations = relations; links = links; states = states; initial = initial; transitions = transitions })

-- the same, of the kind that the entity's class says and as that kind wants it
unfoldable pub own_at : (here name : List ℕ) → Data → Result Parts Refusal
own_at here name d = do
  class ← required_text here (get (codes "class") d)
  kind ← kind_at here class
  own ← parts_at here name class kind d
  _ ← parts_fit here kind own.properties own.ports
  Ok own

-- one entity, given its name and what its entities read as
unfoldable pub entity_from : (here name : List ℕ) → Data → Result (List EntityTree) Refusal → Result EntityTree Refusal
entity_from here name d inner = do
  class ← required_text here (get (codes "class") d)
  kind ← kind_at here class
  own ← parts_at here name class kind d
  _ ← parts_fit here kind own.properties own.ports
  entities ← inner
  Ok (entity own (to_entities entities))

unfoldable mutual
  -- the entities of an object
  pub entities_in : List ℕ → Data → Result (List EntityTree) Refusal
  entities_in here (object ms) = entities_under here ms
  entities_in here _ = Ok []

  pub entities_under : List ℕ → Members → Result (List EntityTree) Refusal
  entities_under here no_members = Ok []
  entities_under here (member k d ms) = match_ordering (slice_cmp nat_cmp (codes "entities") k) (entities_under here ms) (entities_at here d) (entities_under here ms)

  pub entities_at : List ℕ → Data → Result (List EntityTree) Refusal
  entities_at here (array ds) = entity_items here [] ds >>= λ es. named here entity_name es
  entities_at here _ = refused Shape here

  pub entity_items : List ℕ → List EntityTree → Items → Result (List EntityTree) Refusal
  entity_items here done no_items = Ok done
  entity_items here done (item d ds) =
      (name_at here (get (codes "name") d) >>= λ name. entity_from (below here name) name d (entities_in (below here name) d)) >>= λ e. entity_items here (done ++ e ∷ []) ds

-- the entities at a field; an absent list is empty
abbrev pub entities_field : List ℕ → Option Data → Result (List EntityTree) Refusal
entities_field here None = Ok []
entities_field here (Some d) = entities_at here d

-- one entity within the entity of this path
abbrev pub entity_at : List ℕ → Data → Result EntityTree Refusal
entity_at here d = name_at here (get (codes "name") d) >>= λ name. entity_from (below here name) name d (entities_field (below here name) (get (codes "entities") d))

-- ---- the job

-- a token of an input: a text, or null for an absent one
abbrev pub token_at : List ℕ → Data → Result (Option (List ℕ)) Refusal
token_at path null = Ok None
token_at path d = text_at path d >>= λ s. Ok (Some s)

unfoldable pub event_at : List ℕ → Data → Result Event Refusal
event_at path d = do
  _ ← listed path (codes "time" ∷ codes "step" ∷ codes "value" ∷ []) d
  time ← required_whole path (get (codes "time") d)
  step ← required_whole path (get (codes "step") d)
  value ← required_text path (get (codes "value") d)
  Ok (record { time = time; step = step; value = value })

-- an input that is given by tokens
unfoldable pub tokens_input : List ℕ → Data → Result InputTree Refusal
tokens_input path d = do
  _ ← listed path (codes "port" ∷ codes "tokens" ∷ []) d
  port ← required_text path (get (codes "port") d)
  given ← required_list token_at path (get (codes "tokens") d)
  Ok (record { port = port; supply = tokens given })

-- an input that is given by events
unfoldable pub events_input : List ℕ → Data → Result InputTree Refusal
events_input path d = do
  _ ← listed path (codes "port" ∷ codes "events" ∷ []) d
  port ← required_text path (get (codes "port") d)
  given ← required_list event_at path (get (codes "events") d)
  Ok (record { port = port; supply = events given })

abbrev pub input_at : List ℕ → Data → Result InputTree Refusal
input_at path d = if is_some (get (codes "tokens") d) then tokens_input path d else events_input path d

abbrev pub is_one : Option ℕ → Bool
is_one None = false
is_one (Some n) = n == 1

abbrev pub version_at : Option Data → Result (Unit {0}) Refusal
version_at field = if is_one (option_and_then as_u64 (option_and_then as_number field)) then Ok tt else refused Shape top_path

-- the entities of the top and within it are few enough, and don't nest too deep
unfoldable pub limits_at : Data → Result (Unit {0}) Refusal
limits_at d = if is_within (nest_field (get (codes "entities") d)) then Ok tt else refused Limit top_path

unfoldable pub model_at : Option Data → Result EntityTree Refusal
model_at None = refused Shape top_path
model_at (Some d) = do
  _ ← limits_at d
  name ← name_at top_path (get (codes "name") d)
  entity_from top_path name d (entities_field top_path (get (codes "entities") d))

abbrev pub job_fields : List (List ℕ)
job_fields = codes "version" ∷ codes "model" ∷ codes "inputs" ∷ codes "record" ∷ []

unfoldable pub surroundings_at : Data → Result Surroundings Refusal
surroundings_at d = do
  inputs ← optional_list input_at top_path (get (codes "inputs") d)
  records ← optional_list text_at top_path (get (codes "record") d)
  Ok (record { inputs = inputs; records = records })

unfoldable pub job_of : Data → Result JobTree Refusal
job_of d = do
  _ ← listed top_path job_fields d
  _ ← version_at (get (codes "version") d)
  model ← model_at (get (codes "model") d)
  inputs ← optional_list input_at top_path (get (codes "inputs") d)
  records ← optional_list text_at top_path (get (codes "record") d)
  Ok (record { model = model; inputs = inputs; records = records })

-- ---- the bytes

-- what serde_json reads from the bytes
abbrev pub IsDocument : List ℕ → Data → Type 0
IsDocument bytes d = IsUtf8 bytes × (read bytes ≡ Some d)

abbrev pub NoDocument : List ℕ → Type 0
NoDocument bytes = (d : Data) → IsDocument bytes d → ⊥

-- the job that the bytes' JSON value stands for
abbrev pub IsJobOf : List ℕ → JobTree → Type 0
IsJobOf bytes job = (d : Data) × IsDocument bytes d × (job_of d ≡ Ok job)

-- the first refusal in the order of reading
abbrev pub IsFirstRefusal : List ℕ → Refusal → Type 0
IsFirstRefusal bytes r = ((d : Data) × IsDocument bytes d × (job_of d ≡ Err r)) ⊎ ((r ≡ record { code = Json; path = top_path }) × NoDocument bytes)

-- want of memory, or the first refusal
abbrev pub IsReadFault : List ℕ → DocFault → Type 0
IsReadFault bytes faults.Memory = Unit {0}
IsReadFault bytes (faults.Refused r) = IsFirstRefusal bytes r
