-- What is read in stages is what is read field by field.
use Rattle.std.proofs.Common.{◌≡◌, ℕ, List, Option, Bool, Result, Ok, Err, codes, refl}
use Rattle.serde_json.specs.Data.{Data}
use Rattle.serde_json.specs.Find.{get}
use Rattle.pt_document.specs.declared.refusal.Refusal.{Refusal}
use Rattle.pt_document.specs.declared.job.Direction.{Direction}
use Rattle.pt_document.specs.declared.job.Relation.{Relation}
use Rattle.pt_document.specs.declared.job.Link.{Link}
use Rattle.pt_document.specs.declared.job.State.{State}
use Rattle.pt_document.specs.declared.job.OutputAction.{OutputAction}
use Rattle.pt_document.specs.declared.job.SetAction.{SetAction}
use Rattle.pt_moml.specs.declared.parts.Way.{Way}
use Rattle.pt_document.specs.Document.{PropertyTree, PortTree, TransitionTree, Parts, EntityTree, entity, to_entities, Effect, Wiring, Machine, InputTree, Surroundings, JobTree}
use Rattle.pt_document.specs.Classes.{Kind}
use Rattle.pt_document.specs.Outcome.{◌>>=◌}
use Rattle.pt_document.specs.Names.{top_path}
use Rattle.pt_moml.specs.Fields.{text_at, required_text, name_at, required_truth, optional_truth, listed, optional_list}
use Rattle.pt_moml.specs.Rules.{parts_fit}
use Rattle.pt_moml.specs.Reading.{direction_at, link_at, output_at, set_at, kind_at, ports_field, relations_field, states_field, initial_field, input_at, port_fields, properties_field, declared_at, facing_at, port_at, transition_fields, way_at, effect_at, transition_at, entity_fields, wiring_at, machine_at, parts_at, own_at, entity_from, job_fields, version_at, model_at, surroundings_at, job_of}
use Rattle.pt_document.proofs.Refusals.{bind_on}

abbrev pub port_in_stages : List ℕ → Data → Result PortTree Refusal
port_in_stages path d = do
  _ ← listed path port_fields d
  name ← name_at path (get (codes "name") d)
  direction ← facing_at path d
  declared ← declared_at path (get (codes "type") d)
  properties ← properties_field path (get (codes "properties") d)
  Ok (record { name = name; direction = direction; declared = declared; properties = properties })

port-by : (l : Result (Unit {0}) Refusal) (n : Result (List ℕ) Refusal) (i o : Result Bool Refusal) (dir : Bool → Bool → Result Direction Refusal) (end : List ℕ → Direction → Result PortTree Refusal)
    → (l >>= λ _. n >>= λ name. i >>= λ input. o >>= λ output. dir input output >>= λ direction. end name direction)
    ≡ (l >>= λ _. n >>= λ name. (i >>= λ input. o >>= λ output. dir input output) >>= λ direction. end name direction)
port-by (Err r) n i o dir end = refl
port-by (Ok _) (Err r) i o dir end = refl
port-by (Ok _) (Ok name) (Err r) o dir end = refl
port-by (Ok _) (Ok name) (Ok input) (Err r) dir end = refl
port-by (Ok _) (Ok name) (Ok input) (Ok output) dir end = refl

pub port_is : (path : List ℕ) (d : Data) → port_at path d ≡ port_in_stages path d
unfolding port_at facing_at
port_is path d =
    port-by (listed path port_fields d) (name_at path (get (codes "name") d)) (optional_truth path (get (codes "input") d)) (optional_truth path (get (codes "output") d)) (direction_at path)
    (λ name direction. declared_at path (get (codes "type") d) >>= λ declared. properties_field path (get (codes "properties") d) >>= λ properties. Ok (record { name = name; direction = direction; declared = declared; properties = properties }))

abbrev pub transition_in_stages : List ℕ → Data → Result TransitionTree Refusal
transition_in_stages path d = do
  _ ← listed path transition_fields d
  way ← way_at path d
  effect ← effect_at path d
  Ok (record { from = way.from; to = way.to; guard = way.guard; preemptive = effect.preemptive; history = effect.history; output = effect.output; set = effect.set })

abbrev way : (from to guard : List ℕ) → Way
way from to guard = record { from = from; to = to; guard = guard }

abbrev effect : (preemptive history : Bool) → List OutputAction → List SetAction → Effect
effect preemptive history output set = record { preemptive = preemptive; history = history; output = output; set = set }

abbrev transition : Way → Effect → TransitionTree
transition w e = record { from = w.from; to = w.to; guard = w.guard; preemptive = e.preemptive; history = e.history; output = e.output; set = e.set }

transition-by : (l : Result (Unit {0}) Refusal) (f t g : Result (List ℕ) Refusal) (p h : Result Bool Refusal) (o : Result (List OutputAction) Refusal) (s : Result (List SetAction) Refusal)
    → (l >>= λ _. f >>= λ from. t >>= λ to. g >>= λ guard. p >>= λ preemptive. h >>= λ history. o >>= λ output. s >>= λ set. Ok (transition (way from to guard) (effect preemptive history output set)))
    ≡ (l >>= λ _. (f >>= λ from. t >>= λ to. g >>= λ guard. Ok (way from to guard)) >>= λ w. (p >>= λ preemptive. h >>= λ history. o >>= λ output. s >>= λ set. Ok (effect preemptive history output set)) >>= λ e. Ok (transition w e))
transition-by (Err r) f t g p h o s = refl
transition-by (Ok _) (Err r) t g p h o s = refl
transition-by (Ok _) (Ok from) (Err r) g p h o s = refl
transition-by (Ok _) (Ok from) (Ok to) (Err r) p h o s = refl
transition-by (Ok _) (Ok from) (Ok to) (Ok guard) (Err r) h o s = refl
transition-by (Ok _) (Ok from) (Ok to) (Ok guard) (Ok preemptive) (Err r) o s = refl
transition-by (Ok _) (Ok from) (Ok to) (Ok guard) (Ok preemptive) (Ok history) (Err r) s = refl
transition-by (Ok _) (Ok from) (Ok to) (Ok guard) (Ok preemptive) (Ok history) (Ok output) (Err r) = refl
transition-by (Ok _) (Ok from) (Ok to) (Ok guard) (Ok preemptive) (Ok history) (Ok output) (Ok set) = refl

pub transition_is : (path : List ℕ) (d : Data) → transition_at path d ≡ transition_in_stages path d
unfolding transition_at way_at effect_at
transition_is path d =
    transition-by (listed path transition_fields d) (required_text path (get (codes "from") d)) (required_text path (get (codes "to") d)) (required_text path (get (codes "guard") d)) (optional_truth path (get (codes "preemptive") d)) (required_truth path (get (codes "history") d)) (optional_list output_at path (get (codes "output") d)) (optional_list set_at path (get (codes "set") d))

abbrev pub parts_in_stages : (here name class : List ℕ) → Kind → Data → Result Parts Refusal
parts_in_stages here name class kind d = do
  _ ← listed here (entity_fields kind) d
  properties ← properties_field here (get (codes "properties") d)
  wiring ← wiring_at here d
  machine ← machine_at here kind d
  Ok (record { name = name; class = class; properties = properties; ports = wiring.ports; relations = wiring.relations; links = wiring.links; states = machine.states; initial = machine.initial; transitions = machine.transitions })

abbrev wiring : List PortTree → List Relation → List Link → Wiring
wiring ports relations links = record { ports = ports; relations = relations; links = links }

abbrev machine : List State → Option (List ℕ) → List TransitionTree → Machine
machine states initial transitions = record { states = states; initial = initial; transitions = transitions }

abbrev parts : (name class : List ℕ) → List PropertyTree → Wiring → Machine → Parts
parts name class properties w m =
    record { name = name; class = class; properties = properties; ports = w.ports; relations = w.relations; links = w.links; states = m.states; initial = m.initial; transitions = m.transitions }

parts-by : (name class : List ℕ) (l : Result (Unit {0}) Refusal) (ps : Result (List PropertyTree) Refusal) (p : Result (List PortTree) Refusal) (r : Result (List Relation) Refusal) (k : Result (List Link) Refusal) (s : Result (List State) Refusal) (i : Result (Option (List ℕ)) Refusal) (t : Result (List TransitionTree) Refusal)
    → (l >>= λ _. ps >>= λ properties. p >>= λ ports. r >>= λ relations. k >>= λ links. s >>= λ states. i >>= λ initial. t >>= λ transitions. Ok (parts name class properties (wiring ports relations links) (machine states initial transitions)))
    ≡ (l >>= λ _. ps >>= λ properties. (p >>= λ ports. r >>= λ relations. k >>= λ links. Ok (wiring ports relations links)) >>= λ w. (s >>= λ states. i >>= λ initial. t >>= λ transitions. Ok (machine states initial transitions)) >>= λ m. Ok (parts name class properties w m))
parts-by name class (Err e) ps p r k s i t = refl
parts-by name class (Ok _) (Err e) p r k s i t = refl
parts-by name class (Ok _) (Ok properties) (Err e) r k s i t = refl
parts-by name class (Ok _) (Ok properties) (Ok ports) (Err e) k s i t = refl
parts-by name class (Ok _) (Ok properties) (Ok ports) (Ok relations) (Err e) s i t = refl
parts-by name class (Ok _) (Ok properties) (Ok ports) (Ok relations) (Ok links) (Err e) i t = refl
parts-by name class (Ok _) (Ok properties) (Ok ports) (Ok relations) (Ok links) (Ok states) (Err e) t = refl
parts-by name class (Ok _) (Ok properties) (Ok ports) (Ok relations) (Ok links) (Ok states) (Ok initial) (Err e) = refl
parts-by name class (Ok _) (Ok properties) (Ok ports) (Ok relations) (Ok links) (Ok states) (Ok initial) (Ok transitions) = refl

pub parts_are : (here name class : List ℕ) (kind : Kind) (d : Data) → parts_at here name class kind d ≡ parts_in_stages here name class kind d
unfolding parts_at wiring_at machine_at
parts_are here name class kind d =
    parts-by name class (listed here (entity_fields kind) d) (properties_field here (get (codes "properties") d)) (ports_field here (get (codes "ports") d)) (relations_field here (get (codes "relations") d)) (optional_list link_at here (get (codes "links") d)) (states_field here kind (get (codes "states") d)) (initial_field here kind (get (codes "initial") d)) (optional_list transition_at here (get (codes "transitions") d))

abbrev pub with_inner : Result (List EntityTree) Refusal → Parts → Result EntityTree Refusal
with_inner inner own = inner >>= λ entities. Ok (entity own (to_entities entities))

abbrev fitted : List ℕ → Kind → Parts → Result Parts Refusal
fitted here kind own = parts_fit here kind own.properties own.ports >>= λ _. Ok own

abbrev fitted_entity : Result (List EntityTree) Refusal → List ℕ → Kind → Parts → Result EntityTree Refusal
fitted_entity inner here kind own = parts_fit here kind own.properties own.ports >>= λ _. with_inner inner own

pub entity_is : (here name : List ℕ) (d : Data) (inner : Result (List EntityTree) Refusal) → entity_from here name d inner ≡ (own_at here name d >>= with_inner inner)
unfolding entity_from own_at
entity_is here name d inner =
    bind_on (required_text here (get (codes "class") d)) (λ class. kind_at here class >>= λ kind. parts_at here name class kind d >>= fitted here kind) (with_inner inner) (λ class. kind_at here class >>= λ kind. parts_at here name class kind d >>= fitted_entity inner here kind)
    (λ class. bind_on (kind_at here class) (λ kind. parts_at here name class kind d >>= fitted here kind) (with_inner inner) (λ kind. parts_at here name class kind d >>= fitted_entity inner here kind)
    (λ kind. bind_on (parts_at here name class kind d) (fitted here kind) (with_inner inner) (fitted_entity inner here kind)
    (λ own. bind_on (parts_fit here kind own.properties own.ports) (λ _. Ok own) (with_inner inner) (λ _. with_inner inner own) (λ _. refl))))

abbrev pub job_in_stages : Data → Result JobTree Refusal
job_in_stages d = do
  _ ← listed top_path job_fields d
  _ ← version_at (get (codes "version") d)
  model ← model_at (get (codes "model") d)
  around ← surroundings_at d
  Ok (record { model = model; inputs = around.inputs; records = around.records })

abbrev surroundings : List InputTree → List (List ℕ) → Surroundings
surroundings inputs records = record { inputs = inputs; records = records }

abbrev job : EntityTree → Surroundings → JobTree
job model around = record { model = model; inputs = around.inputs; records = around.records }

job-by : (l v : Result (Unit {0}) Refusal) (m : Result EntityTree Refusal) (i : Result (List InputTree) Refusal) (r : Result (List (List ℕ)) Refusal)
    → (l >>= λ _. v >>= λ _. m >>= λ model. i >>= λ inputs. r >>= λ records. Ok (job model (surroundings inputs records)))
    ≡ (l >>= λ _. v >>= λ _. m >>= λ model. (i >>= λ inputs. r >>= λ records. Ok (surroundings inputs records)) >>= λ around. Ok (job model around))
job-by (Err e) v m i r = refl
job-by (Ok _) (Err e) m i r = refl
job-by (Ok _) (Ok _) (Err e) i r = refl
job-by (Ok _) (Ok _) (Ok model) (Err e) r = refl
job-by (Ok _) (Ok _) (Ok model) (Ok inputs) (Err e) = refl
job-by (Ok _) (Ok _) (Ok model) (Ok inputs) (Ok records) = refl

pub job_is : (d : Data) → job_of d ≡ job_in_stages d
unfolding job_of surroundings_at
job_is d =
    job-by (listed top_path job_fields d) (version_at (get (codes "version") d)) (model_at (get (codes "model") d)) (optional_list input_at top_path (get (codes "inputs") d)) (optional_list text_at top_path (get (codes "record") d))
