-- Written entities, and whole jobs, are read back.
use Rattle.std.proofs.Common.{◌≡◌, ℕ, List, [], Option, Some, None, Bool, true, Result, refl, sym, ap, ◌∙◌, codes, if◌then◌else◌}
use Rattle.std.specs.List.{AllByRecursion}
use Rattle.serde_json.specs.Data.{Data}
use Rattle.serde_json.specs.Find.{get}
use Rattle.pt_document.specs.declared.refusal.Refusal.{Refusal}
use Rattle.pt_document.specs.declared.job.State.{State}
use Rattle.pt_document.specs.Document.{Parts, EntityTree, entity, entity_name, entity_list, EntityTrees, no_entities, one_entity, to_entities, JobTree}
use Rattle.pt_document.specs.Classes.{Kind, Composite, Modal, Actor}
use Rattle.pt_document.specs.Names.{is_name, below, top_path}
use Rattle.pt_document.specs.Outcome.{◌>>=◌, refused}
use Rattle.pt_document.specs.declared.code.Code.TheVariants.{Limit}
use Rattle.pt_document.proofs.Chains.{good}
use Rattle.pt_moml.specs.Fields.{text_at, required_text, name_at, required_list, optional_list}
use Rattle.pt_moml.specs.Forms.{keys}
use Rattle.pt_moml.specs.Forms as forms
use Rattle.pt_moml.specs.Rules.{parts_fit}
use Rattle.pt_moml.specs.Limits.{one_nest, nest_in, nest_items, nest_field, is_within}
use Rattle.pt_moml.specs.Reading.{properties_field, port_at, ports_field, relation_at, relations_field, link_at, state_at, states_field, initial_field, transition_at, kind_given, kind_at, parts_at, entity_from, entity_at, entity_items, entities_field, input_at, version_at, limits_at, model_at, job_fields, job_of}
use Rattle.pt_moml.proofs.Entities.{items_are}
use Rattle.pt_moml.proofs.Nests.{nest_in_is}
use Rattle.pt_write.specs.Written.{Values, object, text, data_of, items_of}
use Rattle.pt_write.specs.Document as written
use Rattle.pt_write.specs.Document.{values, port_value, relation_value, link_value, state_value, transition_value, entity_value, entity_values, input_value, document}
use Rattle.pt_write.specs.Form.{Differ, IsPort, IsRelation, IsState, HasStates, HasParts, IsEntity, AreEntities, nest_of, nest_of_all, IsSayable}
use Rattle.pt_write.proofs.Members.{slot_data, over, get-object, listed-object}
use Rattle.pt_write.proofs.Back.{at, name_back, AreRead, items_back, written_read, optional_list_back, list_back, then_named, all_listed}
use Rattle.pt_write.proofs.PartsBack.{plain_read, properties_field_back, port_back, relation_back, link_back, state_back, transition_back, input_back}

-- ---- what an entity has beside its entities

module _ (here : List ℕ) where
  states_back : (kind : Kind) (initial : Option (List ℕ)) (states : List State) → HasStates kind initial states → AllByRecursion IsState states → Differ (λ s. s.name) states
      → states_field here kind (over (slot_data (written.states_slot initial (values state_value states))) None) ≡ good states
  unfolding states_field
  states_back Modal None states h all differ = absurd cc
  states_back Modal (Some s) states h all differ =
      then_named (required_list state_at here (slot_data (written.list_slot (values state_value states)))) here (λ s. s.name) states
      (list_back state_at state_value here states (written_read (state_at here) state_value IsState (state_back here) states all)) differ
  states_back Composite initial states h all differ = ap good (sym h.1)
  states_back (Actor class) initial states h all differ = ap good (sym h.1)

  initial_back : (kind : Kind) (initial : Option (List ℕ)) (states : List State) → HasStates kind initial states → initial_field here kind (over (slot_data (written.optional_text initial)) None) ≡ good initial
  unfolding initial_field
  initial_back Modal None states h = absurd cc
  initial_back Modal (Some s) states h = refl
  initial_back Composite initial states h = ap good (sym h.0)
  initial_back (Actor class) initial states h = ap good (sym h.0)

  module _ (own : Parts) (inner : Values) (h : HasParts here own inner) where
    abbrev d : Data
    d = data_of (object (written.entity_fields own inner))

    parts_back : parts_at here own.name own.class h.kind d ≡ good own
    unfolding parts_at
    parts_back =
        let fs = written.entity_fields own inner in
        let listed_is = listed-object here (keys (forms.entity h.kind)) fs h.fields in
        let properties_is = at (properties_field here) (codes "properties") fs own.properties (properties_field_back here own.properties h.properties h.properties_differ) in
        let ports_is = at (ports_field here) (codes "ports") fs own.ports
        (then_named (optional_list port_at here (over (slot_data (written.optional_list (values port_value own.ports))) None)) here (λ p. p.name) own.ports
        (optional_list_back port_at port_value here own.ports (written_read (port_at here) port_value IsPort (port_back here) own.ports h.ports)) h.ports_differ) in
        let relations_is = at (relations_field here) (codes "relations") fs own.relations
        (then_named (optional_list relation_at here (over (slot_data (written.optional_list (values relation_value own.relations))) None)) here (λ r. r.name) own.relations
        (optional_list_back relation_at relation_value here own.relations (written_read (relation_at here) relation_value IsRelation (relation_back here) own.relations h.relations)) h.relations_differ) in
        let links_is = at (optional_list link_at here) (codes "links") fs own.links (optional_list_back link_at link_value here own.links (plain_read (link_at here) link_value (link_back here) own.links)) in
        let states_is = at (states_field here h.kind) (codes "states") fs own.states (states_back h.kind own.initial own.states h.machine h.states h.states_differ) in
        let initial_is = at (initial_field here h.kind) (codes "initial") fs own.initial (initial_back h.kind own.initial own.states h.machine) in
        let transitions_is = at (optional_list transition_at here) (codes "transitions") fs own.transitions
        (optional_list_back transition_at transition_value here own.transitions (plain_read (transition_at here) transition_value (transition_back here) own.transitions)) in
        (λ i. listed_is i >>= λ _. properties_is i >>= λ properties. ports_is i >>= λ ports. relations_is i >>= λ relations. links_is i >>= λ links. states_is i >>= λ states. initial_is i >>= λ initial. transitions_is i >>= λ transitions.
        good (record { name = own.name; class = own.class; properties = properties; ports = ports; relations = relations; links = links; states = states; initial = initial; transitions = transitions }))

    -- the entity, where its own entities are read back
    pub from_back : (entities : Result (List EntityTree) Refusal) (es : List EntityTree) → entities ≡ good es → entity_from here own.name d entities ≡ good (entity own (to_entities es))
    unfolding entity_from
    from_back entities es entities_is =
        let class_is = at (required_text here) (codes "class") (written.entity_fields own inner) own.class refl in
        let kind_is : kind_at here own.class ≡ good h.kind = ap (kind_given here) h.class in
        ap (λ (r : Result (List ℕ) Refusal). r >>= λ class. kind_at here class >>= λ kind. parts_at here own.name class kind d >>= λ own. parts_fit here kind own.properties own.ports >>= λ _. entities >>= λ es. good (entity own (to_entities es))) class_is
        ∙ ap (λ (r : Result Kind Refusal). r >>= λ kind. parts_at here own.name own.class kind d >>= λ own. parts_fit here kind own.properties own.ports >>= λ _. entities >>= λ es. good (entity own (to_entities es))) kind_is
        ∙ ap (λ (r : Result Parts Refusal). r >>= λ own. parts_fit here h.kind own.properties own.ports >>= λ _. entities >>= λ es. good (entity own (to_entities es))) parts_back
        ∙ (λ i. h.fit i >>= λ _. entities_is i >>= λ es. good (entity own (to_entities es)))

-- ---- entities within entities

pub to_entities_of : (es : EntityTrees) → to_entities (entity_list es) ≡ es
to_entities_of no_entities = refl
to_entities_of (one_entity e es) = ap (one_entity e) (to_entities_of es)

some_entities : (here : List ℕ) (es : EntityTrees) → AreRead (entity_at here) (items_of (entity_values es)) (entity_list es) → Differ entity_name (entity_list es)
    → entities_field here (over (slot_data (written.optional_list (entity_values es))) None) ≡ good (entity_list es)
unfolding entity_items
some_entities here no_entities read differ = refl
some_entities here (one_entity e es) read differ =
    let all = entity_list (one_entity e es) in
    let ds = items_of (entity_values (one_entity e es)) in
    then_named (entity_items here [] ds) here entity_name all (items_are here [] ds ∙ items_back (entity_at here) [] ds all read) differ

-- an entity of the path that its name makes
child_back : (here : List ℕ) (e : EntityTree) → is_name (entity_name e) ≡ true
    → entity_from (below here (entity_name e)) (entity_name e) (data_of (entity_value e)) (entities_field (below here (entity_name e)) (get (codes "entities") (data_of (entity_value e)))) ≡ good e
    → entity_at here (data_of (entity_value e)) ≡ good e
child_back here (entity own inner) named_so e =
    let d = data_of (entity_value (entity own inner)) in
    ap (λ (r : Result (List ℕ) Refusal). r >>= λ name. entity_from (below here name) name d (entities_field (below here name) (get (codes "entities") d)))
    (at (name_at here) (codes "name") (written.entity_fields own (entity_values inner)) own.name (name_back here own.name named_so)) ∙ e

mutual
  pub entity_back : (here : List ℕ) (e : EntityTree) → IsEntity here e
      → entity_from here (entity_name e) (data_of (entity_value e)) (entities_field here (get (codes "entities") (data_of (entity_value e)))) ≡ good e
  entity_back here (entity own inner) h =
      let fs = written.entity_fields own (entity_values inner) in
      from_back here own (entity_values inner) h.0 (entities_field here (get (codes "entities") (data_of (object fs)))) (entity_list inner)
      (at (entities_field here) (codes "entities") fs (entity_list inner) (some_entities here inner (entities_back here inner h.2) h.1))
      ∙ ap (λ (es : EntityTrees). good (entity own es)) (to_entities_of inner)

  pub entities_back : (here : List ℕ) (es : EntityTrees) → AreEntities here es → AreRead (entity_at here) (items_of (entity_values es)) (entity_list es)
  entities_back here no_entities h = tt
  entities_back here (one_entity e es) h = (child_back here e h.0 (entity_back (below here (entity_name e)) e h.1), entities_back here es h.2)

-- ---- how many there are, and how deep

mutual
  unfolding nest_in

  nest_back : (e : EntityTree) → nest_field (get (codes "entities") (data_of (entity_value e))) ≡ nest_of e
  nest_back (entity own inner) = ap nest_field (get-object (codes "entities") (written.entity_fields own (entity_values inner))) ∙ nests_field_back inner

  nests_field_back : (es : EntityTrees) → nest_field (over (slot_data (written.optional_list (entity_values es))) None) ≡ nest_of_all es
  nests_field_back no_entities = refl
  nests_field_back (one_entity e es) = (λ i. one_nest ((nest_in_is (data_of (entity_value e)) ∙ nest_back e) i) (nests_back es i))

  nests_back : (es : EntityTrees) → nest_items (items_of (entity_values es)) ≡ nest_of_all es
  nests_back no_entities = refl
  nests_back (one_entity e es) = (λ i. one_nest ((nest_in_is (data_of (entity_value e)) ∙ nest_back e) i) (nests_back es i))

-- ---- the job

module _ (job : JobTree) (h : IsSayable job) where
  abbrev model_data : Data
  model_data = data_of (entity_value job.model)

  model_name : (e : EntityTree) → is_name (entity_name e) ≡ true → name_at top_path (get (codes "name") (data_of (entity_value e))) ≡ good (entity_name e)
  model_name (entity own inner) named_so = at (name_at top_path) (codes "name") (written.entity_fields own (entity_values inner)) own.name (name_back top_path own.name named_so)

  model_back : model_at (Some model_data) ≡ good job.model
  unfolding model_at limits_at
  model_back =
      ap (λ (b : Bool). (if b then good tt else refused Limit top_path) >>= λ _. name_at top_path (get (codes "name") model_data) >>= λ name.
      entity_from top_path name model_data (entities_field top_path (get (codes "entities") model_data))) (ap is_within (nest_back job.model) ∙ h.within)
      ∙ ap (λ (r : Result (List ℕ) Refusal). r >>= λ name. entity_from top_path name model_data (entities_field top_path (get (codes "entities") model_data))) (model_name job.model h.name)
      ∙ entity_back top_path job.model h.model

  records_back : (records : List (List ℕ)) → optional_list text_at top_path (over (slot_data (written.optional_list (values text records))) None) ≡ good records
  records_back records = optional_list_back text_at text top_path records (plain_read (text_at top_path) text (λ s. refl) records)

  pub job_back : job_of (data_of (document job)) ≡ good job
  unfolding job_of
  job_back =
      let fs = written.job_fields job in
      let listed_is = all_listed top_path job_fields fs refl in
      let version_is = at version_at (codes "version") fs tt refl in
      let model_is = at model_at (codes "model") fs job.model model_back in
      let inputs_is = at (optional_list input_at top_path) (codes "inputs") fs job.inputs (optional_list_back input_at input_value top_path job.inputs (plain_read (input_at top_path) input_value (input_back top_path) job.inputs)) in
      let records_is = at (optional_list text_at top_path) (codes "record") fs job.records (records_back job.records) in
      (λ i. listed_is i >>= λ _. version_is i >>= λ _. model_is i >>= λ model. inputs_is i >>= λ inputs. records_is i >>= λ records. good (record { model = model; inputs = inputs; records = records }))
