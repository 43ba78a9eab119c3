-- Written parts of entities are read back.
use Rattle.std.proofs.Common.{◌≡◌, ℕ, List, [], ◌∷◌, Option, Some, None, IfSome, true, Result, refl, ap, ◌∙◌, codes, if◌then◌else◌}
use Rattle.std.specs.Prelude.{is_some}
use Rattle.std.specs.List.{AllByRecursion}
use Rattle.serde_json.specs.Data.{Data}
use Rattle.serde_json.specs.Find.{get}
use Rattle.pt_document.specs.declared.refusal.Refusal.{Refusal}
use Rattle.pt_document.specs.declared.job.Direction.{Direction}
use Rattle.pt_document.specs.declared.job.Direction.TheVariants.{Input, Output}
use Rattle.pt_document.specs.declared.job.Relation.{Relation}
use Rattle.pt_document.specs.declared.job.Link.{Link}
use Rattle.pt_document.specs.declared.job.Link.TheVariants.{Port, Relations}
use Rattle.pt_document.specs.declared.job.State.{State}
use Rattle.pt_document.specs.declared.job.OutputAction.{OutputAction}
use Rattle.pt_document.specs.declared.job.SetAction.{SetAction}
use Rattle.pt_document.specs.declared.job.Event.{Event}
use Rattle.pt_document.specs.Document.{PropertyTree, property, property_name, property_list, PropertyTrees, no_properties, one_property, to_properties, PortTree, TransitionTree, SupplyTree, tokens, events, InputTree}
use Rattle.pt_document.specs.TypeWords.{is_type_text}
use Rattle.pt_document.specs.Outcome.{◌>>=◌}
use Rattle.pt_document.proofs.Chains.{good}
use Rattle.pt_moml.specs.Fields.{required_text, optional_text, name_at, required_truth, optional_truth, required_whole, required_list, optional_list}
use Rattle.pt_moml.specs.Reading.{property_fields, property_from, property_at, properties_field, property_items, port_fields, port_at, declared_at, direction_at, relation_at, port_link, relations_link, link_at, state_at, output_at, set_at, transition_fields, transition_at, token_at, event_at, tokens_input, events_input, input_at}
use Rattle.pt_moml.proofs.Properties.{items_are}
use Rattle.pt_write.specs.Written.{Value, value_then, object, data_of, items_of}
use Rattle.pt_write.specs.Document as written
use Rattle.pt_write.specs.Document.{values, property_value, property_values, port_value, relation_value, link_value, state_value, output_value, set_value, transition_value, token_value, event_value, input_value}
use Rattle.pt_write.specs.Form.{Differ, IsProperty, AreProperties, IsPort, IsRelation, IsState}
use Rattle.pt_write.proofs.Members.{slot_data, over, get-object}
use Rattle.pt_write.proofs.Back.{at, name_back, optional_text_back, optional_truth_back, AreRead, items_back, written_read, optional_list_back, list_back, then_named, all_listed}

-- ---- relations, links, states and actions

module _ (path : List ℕ) where
  pub relation_back : (r : Relation) → IsRelation r → relation_at path (data_of (relation_value r)) ≡ good r
  unfolding relation_at
  relation_back r h =
      let fs = written.one_text (codes "name") r.name in
      let listed_is = all_listed path (codes "name" ∷ []) fs refl in
      let name_is = at (name_at path) (codes "name") fs r.name (name_back path r.name h) in
      (λ i. listed_is i >>= λ _. name_is i >>= λ name. good (record { name = name }))

  port_link_back : (port relation : List ℕ) → port_link path (data_of (link_value (Port port relation))) ≡ good (Port port relation)
  unfolding port_link
  port_link_back port relation =
      let fs = written.two_texts (codes "port") port (codes "relation") relation in
      let listed_is = all_listed path (codes "port" ∷ codes "relation" ∷ []) fs refl in
      let port_is = at (required_text path) (codes "port") fs port refl in
      let relation_is = at (required_text path) (codes "relation") fs relation refl in
      (λ i. listed_is i >>= λ _. port_is i >>= λ port. relation_is i >>= λ relation. good (Port port relation))

  relations_link_back : (first second : List ℕ) → relations_link path (data_of (link_value (Relations first second))) ≡ good (Relations first second)
  unfolding relations_link
  relations_link_back first second =
      let fs = written.two_texts (codes "relation1") first (codes "relation2") second in
      let listed_is = all_listed path (codes "relation1" ∷ codes "relation2" ∷ []) fs refl in
      let first_is = at (required_text path) (codes "relation1") fs first refl in
      let second_is = at (required_text path) (codes "relation2") fs second refl in
      (λ i. listed_is i >>= λ _. first_is i >>= λ first. second_is i >>= λ second. good (Relations first second))

  either_link : (d : Data) (o : Option Data) → get (codes "port") d ≡ o → link_at path d ≡ (if is_some o then port_link path d else relations_link path d)
  either_link d o is = ap (λ (x : Option Data). if is_some x then port_link path d else relations_link path d) is

  pub link_back : (l : Link) → link_at path (data_of (link_value l)) ≡ good l
  link_back (Port port relation) =
      either_link (data_of (link_value (Port port relation))) _ (get-object (codes "port") (written.two_texts (codes "port") port (codes "relation") relation)) ∙ port_link_back port relation
  link_back (Relations first second) =
      either_link (data_of (link_value (Relations first second))) _ (get-object (codes "port") (written.two_texts (codes "relation1") first (codes "relation2") second)) ∙ relations_link_back first second

  pub state_back : (s : State) → IsState s → state_at path (data_of (state_value s)) ≡ good s
  unfolding state_at
  state_back s h =
      let fs = written.state_fields s in
      let listed_is = all_listed path (codes "name" ∷ codes "refinement" ∷ []) fs refl in
      let name_is = at (name_at path) (codes "name") fs s.name (name_back path s.name h) in
      let refinement_is = at (optional_text path) (codes "refinement") fs s.refinement (optional_text_back path s.refinement) in
      (λ i. listed_is i >>= λ _. name_is i >>= λ name. refinement_is i >>= λ refinement. good (record { name = name; refinement = refinement }))

  pub output_back : (a : OutputAction) → output_at path (data_of (output_value a)) ≡ good a
  unfolding output_at
  output_back a =
      let fs = written.two_texts (codes "port") a.port (codes "value") a.value in
      let listed_is = all_listed path (codes "port" ∷ codes "value" ∷ []) fs refl in
      let port_is = at (required_text path) (codes "port") fs a.port refl in
      let value_is = at (required_text path) (codes "value") fs a.value refl in
      (λ i. listed_is i >>= λ _. port_is i >>= λ port. value_is i >>= λ value. good (record { port = port; value = value }))

  pub set_back : (a : SetAction) → set_at path (data_of (set_value a)) ≡ good a
  unfolding set_at
  set_back a =
      let fs = written.two_texts (codes "name") a.name (codes "value") a.value in
      let listed_is = all_listed path (codes "name" ∷ codes "value" ∷ []) fs refl in
      let name_is = at (required_text path) (codes "name") fs a.name refl in
      let value_is = at (required_text path) (codes "value") fs a.value refl in
      (λ i. listed_is i >>= λ _. name_is i >>= λ name. value_is i >>= λ value. good (record { name = name; value = value }))

-- ---- lists of what has no form of its own

abbrev pub Any : {A : Type 0} → A → Type 0
Any x = Unit {0}

pub any_all : {A : Type 0} (xs : List A) → AllByRecursion Any xs
any_all [] = tt
any_all (x ∷ xs) = (tt, any_all xs)

pub plain_read : {A : Type 0} (read : Data → Result A Refusal) (value : A → Value) → ((a : A) → read (data_of (value a)) ≡ good a) → (xs : List A) → AreRead read (items_of (values value xs)) xs
plain_read read value one xs = written_read read value Any (λ a _. one a) xs (any_all xs)

-- ---- transitions

pub transition_back : (path : List ℕ) (t : TransitionTree) → transition_at path (data_of (transition_value t)) ≡ good t
unfolding transition_at
transition_back path t =
    let fs = written.transition_fields t in
    let listed_is = all_listed path transition_fields fs refl in
    let from_is = at (required_text path) (codes "from") fs t.from refl in
    let to_is = at (required_text path) (codes "to") fs t.to refl in
    let guard_is = at (required_text path) (codes "guard") fs t.guard refl in
    let preemptive_is = at (optional_truth path) (codes "preemptive") fs t.preemptive (optional_truth_back path t.preemptive) in
    let history_is = at (required_truth path) (codes "history") fs t.history refl in
    let output_is = at (optional_list output_at path) (codes "output") fs t.output (optional_list_back output_at output_value path t.output (plain_read (output_at path) output_value (output_back path) t.output)) in
    let set_is = at (optional_list set_at path) (codes "set") fs t.set (optional_list_back set_at set_value path t.set (plain_read (set_at path) set_value (set_back path) t.set)) in
    (λ i. listed_is i >>= λ _. from_is i >>= λ from. to_is i >>= λ to. guard_is i >>= λ guard. preemptive_is i >>= λ preemptive. history_is i >>= λ history. output_is i >>= λ output. set_is i >>= λ set.
    good (record { from = from; to = to; guard = guard; preemptive = preemptive; history = history; output = output; set = set }))

-- ---- properties

pub to_properties_of : (ps : PropertyTrees) → to_properties (property_list ps) ≡ ps
to_properties_of no_properties = refl
to_properties_of (one_property p ps) = ap (one_property p) (to_properties_of ps)

values_of_properties : (ps : PropertyTrees) → property_values ps ≡ values property_value (property_list ps)
values_of_properties no_properties = refl
values_of_properties (one_property p ps) = ap (value_then (property_value p)) (values_of_properties ps)

-- a list of properties, of which each is read back
some_properties : (path : List ℕ) (ps : PropertyTrees) → AreRead (property_at path) (items_of (property_values ps)) (property_list ps) → Differ property_name (property_list ps)
    → properties_field path (over (slot_data (written.optional_list (property_values ps))) None) ≡ good (property_list ps)
unfolding property_items
some_properties path no_properties read differ = refl
some_properties path (one_property p ps) read differ =
    let qs = property_list (one_property p ps) in
    let ds = items_of (property_values (one_property p ps)) in
    then_named (property_items path [] ds) path property_name qs (items_are path [] ds ∙ items_back (property_at path) [] ds qs read) differ

mutual
  unfolding property_from

  pub property_back : (path : List ℕ) (p : PropertyTree) → IsProperty p → property_at path (data_of (property_value p)) ≡ good p
  property_back path (property name value class inner) h =
      let fs = written.property_fields name value class (property_values inner) in
      let listed_is = all_listed path property_fields fs refl in
      let name_is = at (name_at path) (codes "name") fs name (name_back path name h.0) in
      let value_is = at (optional_text path) (codes "value") fs value (optional_text_back path value) in
      let class_is = at (optional_text path) (codes "class") fs class (optional_text_back path class) in
      let inner_is = at (properties_field path) (codes "properties") fs (property_list inner) (some_properties path inner (properties_back path inner h.2) h.1) in
      (λ i. listed_is i >>= λ _. name_is i >>= λ name. value_is i >>= λ value. class_is i >>= λ class. inner_is i >>= λ ps. good (property name value class (to_properties ps)))
      ∙ ap (λ (ps : PropertyTrees). good (property name value class ps)) (to_properties_of inner)

  pub properties_back : (path : List ℕ) (ps : PropertyTrees) → AreProperties ps → AreRead (property_at path) (items_of (property_values ps)) (property_list ps)
  properties_back path no_properties h = tt
  properties_back path (one_property p ps) h = (property_back path p h.0, properties_back path ps h.1)

-- the properties of an entity or a port
pub properties_field_back : (path : List ℕ) (ps : List PropertyTree) → AllByRecursion IsProperty ps → Differ property_name ps → properties_field path (over (slot_data (written.optional_list (values property_value ps))) None) ≡ good ps
unfolding property_items
properties_field_back path [] h differ = refl
properties_field_back path (p ∷ ps) h differ =
    let ds = items_of (values property_value (p ∷ ps)) in
    then_named (property_items path [] ds) path property_name (p ∷ ps) (items_are path [] ds ∙ items_back (property_at path) [] ds (p ∷ ps) (written_read (property_at path) property_value IsProperty (property_back path) (p ∷ ps) h)) differ

-- ---- ports

declared_back : (path : List ℕ) (o : Option (List ℕ)) → IfSome o (λ text. is_type_text text ≡ true) → declared_at path (over (slot_data (written.optional_text o)) None) ≡ good o
unfolding declared_at
declared_back path None h = refl
declared_back path (Some s) h = rw h refl

direction_back : (path : List ℕ) (d : Direction) → direction_at path (written.is_input d) (written.is_output d) ≡ good d
direction_back path Input = refl
direction_back path Output = refl

pub port_back : (path : List ℕ) (p : PortTree) → IsPort p → port_at path (data_of (port_value p)) ≡ good p
unfolding port_at
port_back path p h =
    let fs = written.port_fields p in
    let listed_is = all_listed path port_fields fs refl in
    let name_is = at (name_at path) (codes "name") fs p.name (name_back path p.name h.name) in
    let input_is = at (optional_truth path) (codes "input") fs (written.is_input p.direction) (optional_truth_back path (written.is_input p.direction)) in
    let output_is = at (optional_truth path) (codes "output") fs (written.is_output p.direction) (optional_truth_back path (written.is_output p.direction)) in
    let declared_is = at (declared_at path) (codes "type") fs p.declared (declared_back path p.declared h.declared) in
    let properties_is = at (properties_field path) (codes "properties") fs p.properties (properties_field_back path p.properties h.properties h.differ) in
    (λ i. listed_is i >>= λ _. name_is i >>= λ name. input_is i >>= λ input. output_is i >>= λ output. direction_at path input output >>= λ direction. declared_is i >>= λ declared. properties_is i >>= λ properties.
    good (record { name = name; direction = direction; declared = declared; properties = properties }))
    ∙ ap (λ (r : Result Direction Refusal). r >>= λ direction. good (record { name = p.name; direction = direction; declared = p.declared; properties = p.properties })) (direction_back path p.direction)

-- ---- inputs

pub token_back : (path : List ℕ) (t : Option (List ℕ)) → token_at path (data_of (token_value t)) ≡ good t
token_back path None = refl
token_back path (Some s) = refl

pub event_back : (path : List ℕ) (e : Event) → event_at path (data_of (event_value e)) ≡ good e
unfolding event_at
event_back path e =
    let fs = written.event_fields e in
    let listed_is = all_listed path (codes "time" ∷ codes "step" ∷ codes "value" ∷ []) fs refl in
    let time_is = at (required_whole path) (codes "time") fs e.time refl in
    let step_is = at (required_whole path) (codes "step") fs e.step refl in
    let value_is = at (required_text path) (codes "value") fs e.value refl in
    (λ i. listed_is i >>= λ _. time_is i >>= λ time. step_is i >>= λ step. value_is i >>= λ value. good (record { time = time; step = step; value = value }))

module _ (path port : List ℕ) where
  tokens_back : (ts : List (Option (List ℕ))) → tokens_input path (data_of (input_value (record { port = port; supply = tokens ts }))) ≡ good (record { port = port; supply = tokens ts })
  unfolding tokens_input
  tokens_back ts =
      let fs = written.input_fields (record { port = port; supply = tokens ts }) in
      let listed_is = all_listed path (codes "port" ∷ codes "tokens" ∷ []) fs refl in
      let port_is = at (required_text path) (codes "port") fs port refl in
      let tokens_is = at (required_list token_at path) (codes "tokens") fs ts (list_back token_at token_value path ts (plain_read (token_at path) token_value (token_back path) ts)) in
      (λ i. listed_is i >>= λ _. port_is i >>= λ port. tokens_is i >>= λ given. good (record { port = port; supply = tokens given }))

  events_back : (es : List Event) → events_input path (data_of (input_value (record { port = port; supply = events es }))) ≡ good (record { port = port; supply = events es })
  unfolding events_input
  events_back es =
      let fs = written.input_fields (record { port = port; supply = events es }) in
      let listed_is = all_listed path (codes "port" ∷ codes "events" ∷ []) fs refl in
      let port_is = at (required_text path) (codes "port") fs port refl in
      let events_is = at (required_list event_at path) (codes "events") fs es (list_back event_at event_value path es (plain_read (event_at path) event_value (event_back path) es)) in
      (λ i. listed_is i >>= λ _. port_is i >>= λ port. events_is i >>= λ given. good (record { port = port; supply = events given }))

  either_input : (d : Data) (o : Option Data) → get (codes "tokens") d ≡ o → input_at path d ≡ (if is_some o then tokens_input path d else events_input path d)
  either_input d o is = ap (λ (x : Option Data). if is_some x then tokens_input path d else events_input path d) is

  supply_back : (s : SupplyTree) → input_at path (data_of (input_value (record { port = port; supply = s }))) ≡ good (record { port = port; supply = s })
  supply_back (tokens ts) =
      let fs = written.input_fields (record { port = port; supply = tokens ts }) in
      either_input (data_of (object fs)) _ (get-object (codes "tokens") fs) ∙ tokens_back ts
  supply_back (events es) =
      let fs = written.input_fields (record { port = port; supply = events es }) in
      either_input (data_of (object fs)) _ (get-object (codes "tokens") fs) ∙ events_back es

pub input_back : (path : List ℕ) (i : InputTree) → input_at path (data_of (input_value i)) ≡ good i
input_back path i = supply_back path i.port i.supply
