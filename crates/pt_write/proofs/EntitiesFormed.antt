-- Entities that are read, and whole jobs, have the form of what a document says.
use Rattle.std.proofs.Common.{◌≡◌, ℕ, ◌≤◌, List, [], ◌∷◌, Option, Some, None, Bool, true, false, refl, sym, ap, ◌∙◌, subst, arith, codes, map}
use Rattle.std.specs.Prelude.{is_some, if◌then◌else◌}
use Rattle.std.specs.List.{AllByRecursion}
use Rattle.serde_json.specs.Data as read_as
use Rattle.serde_json.specs.Data.{Data, Items}
use Rattle.serde_json.specs.Find.{get}
use Rattle.pt_document.specs.declared.code.Code.TheVariants.{Shape, Class}
use Rattle.pt_document.specs.declared.job.State.{State}
use Rattle.pt_document.specs.Document.{Parts, parts, EntityTree, entity, entity_name, entity_list, children, EntityTrees, no_entities, one_entity, to_entities}
use Rattle.pt_document.specs.Classes.{Class as ClassOf, Kind, Composite, Modal, Actor, kind_of}
use Rattle.pt_document.specs.Names.{is_name, is_among, below}
use Rattle.pt_document.proofs.Chains.{good, bind_ok, never_ok}
use Rattle.pt_document.proofs.Trees.{entity_list_of}
use Rattle.pt_moml.specs.Fields.{required_text, name_at, listed, required_list, optional_list}
use Rattle.pt_moml.specs.Forms.{Field, keys}
use Rattle.pt_moml.specs.Forms as forms
use Rattle.pt_moml.specs.Rules.{parts_fit}
use Rattle.pt_moml.specs.Limits.{one_nest, nest_in, nest_items, nest_field}
use Rattle.pt_moml.specs.Reading.{properties_field, port_at, ports_field, relation_at, relations_field, link_at, state_at, states_field, initial_field, transition_at, kind_given, kind_at, parts_at, entity_from, entity_at, entity_items, entities_field}
use Rattle.pt_moml.proofs.Entities.{items_are}
use Rattle.pt_moml.proofs.Nests.{nest_in_is}
use Rattle.pt_write.specs.Written.{Values, absent, object, depth, items_depth}
use Rattle.pt_write.specs.Document as written
use Rattle.pt_write.specs.Document.{values, property_value, port_value, relation_value, link_value, state_value, transition_value, entity_value, entity_values}
use Rattle.pt_write.specs.Form.{Differ, IsPort, IsRelation, IsState, HasStates, HasParts, IsEntity, AreEntities, nest_of, nest_of_all}
use Rattle.pt_write.proofs.Back.{AreRead}
use Rattle.pt_write.proofs.PartsBack.{Any}
use Rattle.pt_write.proofs.Standing.{fine, not_among, is_listed, SlotOf, stands, AllStand, all_shallow, no_deeper, all_stand_among, text_stands, name_stands, optional_list_depth, all_read, optional_list_stands, list_stands, named_formed}
use Rattle.pt_write.proofs.PartsFormed.{relation_formed, link_formed, state_formed, transition_formed, properties_field_formed, port_formed}

-- ---- what an entity has beside its entities

-- the states of an entity of this kind, with its initial one
pub record StatesFormed (kind : Kind) (states_at initial_at : Option Data) (states : List State) (initial : Option (List ℕ)) : Type 0 where
  pub all : AllByRecursion IsState states
  pub differ : Differ (λ s. s.name) states
  pub machine : HasStates kind initial states
  pub states_slot : SlotOf states_at (written.states_slot initial (values state_value states))
  pub initial_slot : SlotOf initial_at (written.optional_text initial)

-- the fields of library actors that declare ports, and of others
abbrev declaring : List Field
declaring = forms.required (codes "name") forms.anything ∷ forms.required (codes "class") forms.text ∷ forms.optional (codes "properties") (forms.named (forms.object forms.property)) ∷ forms.optional (codes "ports") (forms.named (forms.object forms.port)) ∷ []

abbrev plain : List Field
plain = forms.required (codes "name") forms.anything ∷ forms.required (codes "class") forms.text ∷ forms.optional (codes "properties") (forms.named (forms.object forms.property)) ∷ []

-- the class of the parts that are read
class_of : (here name class : List ℕ) (kind : Kind) (d : Data) (own : Parts) → parts_at here name class kind d ≡ good own → own.class ≡ class
unfolding parts_at
class_of here name class kind d own e =
    let a = bind_ok (listed here (keys (forms.entity kind)) d) _ own e in
    let properties = bind_ok (properties_field here (get (codes "properties") d)) _ own a.2 in
    let ports = bind_ok (ports_field here (get (codes "ports") d)) _ own properties.2 in
    let relations = bind_ok (relations_field here (get (codes "relations") d)) _ own ports.2 in
    let links = bind_ok (optional_list link_at here (get (codes "links") d)) _ own relations.2 in
    let states = bind_ok (states_field here kind (get (codes "states") d)) _ own links.2 in
    let initial = bind_ok (initial_field here kind (get (codes "initial") d)) _ own states.2 in
    let transitions = bind_ok (optional_list transition_at here (get (codes "transitions") d)) _ own initial.2 in
    let same : record { name = name; class = class; properties = properties.0; ports = ports.0; relations = relations.0; links = links.0; states = states.0; initial = initial.0; transitions = transitions.0 } ≡ own = cc in
    ap (λ (x : Parts). x.class) (sym same)

module _ (here : List ℕ) where
  -- where the class lets no states be there is none, whatever stands at the fields
  abbrev Free : Kind → Option Data → Option Data → Type 0
  Free Modal s i = Unit {0}
  Free Composite s i = (s ≡ None) × (i ≡ None)
  Free (Actor class) s i = (s ≡ None) × (i ≡ None)

  states_formed : (kind : Kind) (s i : Option Data) (states : List State) (initial : Option (List ℕ)) → Free kind s i → states_field here kind s ≡ good states → initial_field here kind i ≡ good initial → StatesFormed kind s i states initial
  unfolding states_field initial_field
  states_formed Modal s i states initial free e f =
      let n = named_formed (required_list state_at here s) here (λ s. s.name) states e in
      let l = list_stands state_at state_value IsState here (state_formed here) s states n.0 in
      let a = bind_ok (required_text here i) (λ t. good (Some t)) initial f in
      let same : Some a.0 ≡ initial = cc in
      subst (StatesFormed Modal s i states) same (record { all = l.0; differ = n.1; machine = (a.0, refl); states_slot = l.1; initial_slot = text_stands here i a.0 a.1 })
  states_formed Composite s i states initial free e f =
      let none : [] ≡ states = cc in
      let nothing : None ≡ initial = cc in
      subst (λ (xs : List State). StatesFormed Composite s i xs initial) none (subst (StatesFormed Composite s i []) nothing
      (record { all = tt; differ = refl; machine = (refl, refl); states_slot = subst (λ (o : Option Data). SlotOf o absent) (sym free.0) refl; initial_slot = subst (λ (o : Option Data). SlotOf o absent) (sym free.1) refl }))
  states_formed (Actor class) s i states initial free e f =
      let none : [] ≡ states = cc in
      let nothing : None ≡ initial = cc in
      subst (λ (xs : List State). StatesFormed (Actor class) s i xs initial) none (subst (StatesFormed (Actor class) s i []) nothing
      (record { all = tt; differ = refl; machine = (refl, refl); states_slot = subst (λ (o : Option Data). SlotOf o absent) (sym free.0) refl; initial_slot = subst (λ (o : Option Data). SlotOf o absent) (sym free.1) refl }))

  declares : (k : List ℕ) (class : ClassOf) → ((b : Bool) → is_among (map (λ f. f.key) (if b then declaring else plain)) k ≡ false) → is_among (keys (forms.entity (Actor class))) k ≡ false
  declares k class both = both (is_some class.declares)

  -- no states may be given but to a Modal entity
  free_kind : (kind : Kind) (d : Data) → listed here (keys (forms.entity kind)) d ≡ fine → Free kind (get (codes "states") d) (get (codes "initial") d)
  free_kind Modal d only = tt
  free_kind Composite d only = (not_among here (keys (forms.entity Composite)) (codes "states") d only refl, not_among here (keys (forms.entity Composite)) (codes "initial") d only refl)
  free_kind (Actor class) d only = (
    not_among here (keys (forms.entity (Actor class))) (codes "states") d only (declares (codes "states") class no_states),
    not_among here (keys (forms.entity (Actor class))) (codes "initial") d only (declares (codes "initial") class no_initial),
  )
    where
      no_states : (b : Bool) → is_among (map (λ f. f.key) (if b then declaring else plain)) (codes "states") ≡ false
      no_states true = refl
      no_states false = refl

      no_initial : (b : Bool) → is_among (map (λ f. f.key) (if b then declaring else plain)) (codes "initial") ≡ false
      no_initial true = refl
      no_initial false = refl

-- what an entity has beside its entities, where those are written so
module _ (here name : List ℕ) (d : Data) (inner : Values) where
  parts_formed : (kind : Kind) (own : Parts) → parts_at here name own.class kind d ≡ good own → kind_of own.class ≡ Some kind → parts_fit here kind own.properties own.ports ≡ good tt
      → SlotOf (get (codes "name") d) (written.text_slot name) → SlotOf (get (codes "class") d) (written.text_slot own.class) → SlotOf (get (codes "entities") d) (written.optional_list inner)
      → (own.name ≡ name) × HasParts here own inner × (depth (object (written.entity_fields own inner)) ≤ read_as.depth d)
  unfolding parts_at
  parts_formed kind own e is_kind fit name_slot class_slot entities_slot =
      let ks = keys (forms.entity kind) in
      let a = bind_ok (listed here ks d) _ own e in
      let properties = bind_ok (properties_field here (get (codes "properties") d)) _ own a.2 in
      let ports = bind_ok (ports_field here (get (codes "ports") d)) _ own properties.2 in
      let relations = bind_ok (relations_field here (get (codes "relations") d)) _ own ports.2 in
      let links = bind_ok (optional_list link_at here (get (codes "links") d)) _ own relations.2 in
      let states = bind_ok (states_field here kind (get (codes "states") d)) _ own links.2 in
      let initial = bind_ok (initial_field here kind (get (codes "initial") d)) _ own states.2 in
      let transitions = bind_ok (optional_list transition_at here (get (codes "transitions") d)) _ own initial.2 in
      let o = is_listed here ks d a.0 a.1 in
      let same : record { name = name; class = own.class; properties = properties.0; ports = ports.0; relations = relations.0; links = links.0; states = states.0; initial = initial.0; transitions = transitions.0 } ≡ own = cc in
      let name_is : own.name ≡ name = ap (λ (x : Parts). x.name) (sym same) in
      let ps = properties_field_formed here (get (codes "properties") d) own.properties (properties.1 ∙ ap (λ (x : Parts). good x.properties) same) in
      let qn = named_formed (optional_list port_at here (get (codes "ports") d)) here (λ p. p.name) own.ports (ports.1 ∙ ap (λ (x : Parts). good x.ports) same) in
      let qs = optional_list_stands port_at port_value IsPort here (port_formed here) (get (codes "ports") d) own.ports qn.0 in
      let rn = named_formed (optional_list relation_at here (get (codes "relations") d)) here (λ r. r.name) own.relations (relations.1 ∙ ap (λ (x : Parts). good x.relations) same) in
      let rs = optional_list_stands relation_at relation_value IsRelation here (relation_formed here) (get (codes "relations") d) own.relations rn.0 in
      let ls = optional_list_stands link_at link_value Any here (link_formed here) (get (codes "links") d) own.links (links.1 ∙ ap (λ (x : Parts). good x.links) same) in
      let machine = states_formed here kind (get (codes "states") d) (get (codes "initial") d) own.states own.initial (free_kind here kind d o.0)
      (states.1 ∙ ap (λ (x : Parts). good x.states) same) (initial.1 ∙ ap (λ (x : Parts). good x.initial) same) in
      let ts = optional_list_stands transition_at transition_value Any here (transition_formed here) (get (codes "transitions") d) own.transitions (transitions.1 ∙ ap (λ (x : Parts). good x.transitions) same) in
      let all : AllStand d (written.entity_fields own inner) = (
        stands d (codes "name") (written.text_slot own.name) o.1 (subst (λ (s : List ℕ). SlotOf (get (codes "name") d) (written.text_slot s)) (sym name_is) name_slot),
        (
          stands d (codes "class") (written.text_slot own.class) o.1 class_slot,
          (
            stands d (codes "properties") (written.optional_list (values property_value own.properties)) o.1 ps.2,
            (
              stands d (codes "ports") (written.optional_list (values port_value own.ports)) o.1 qs.1,
              (
                stands d (codes "entities") (written.optional_list inner) o.1 entities_slot,
                (
                  stands d (codes "relations") (written.optional_list (values relation_value own.relations)) o.1 rs.1,
                  (
                    stands d (codes "links") (written.optional_list (values link_value own.links)) o.1 ls.1,
                    (
                      stands d (codes "states") (written.states_slot own.initial (values state_value own.states)) o.1 machine.states_slot,
                      (stands d (codes "initial") (written.optional_text own.initial) o.1 machine.initial_slot, (stands d (codes "transitions") (written.optional_list (values transition_value own.transitions)) o.1 ts.1, tt)),
                    ),
                  ),
                ),
              ),
            ),
          ),
        ),
      ) in
      (name_is, record { kind = kind; class = is_kind; fields = all_stand_among here ks d (written.entity_fields own inner) o.0 all; properties = ps.1; properties_differ = ps.0; ports = qs.0; ports_differ = qn.1; relations = rs.0; relations_differ = rn.1; states = machine.all; states_differ = machine.differ; machine = machine.machine; fit = fit }, no_deeper _ _ (all_shallow d (written.entity_fields own inner) o.1 all))

-- ---- entities within entities

-- what is read at the field of the entities, where each that is read is formed
record InnerFormed (here : List ℕ) (o : Option Data) (es : EntityTrees) : Type 0 where
  differ : Differ entity_name (entity_list es)
  all : AreEntities here es
  slot : SlotOf o (written.optional_list (entity_values es))
  nest : nest_field o ≡ nest_of_all es

record ItemsFormed (here : List ℕ) (ds : Items) (es : EntityTrees) : Type 0 where
  all : AreEntities here es
  shallow : items_depth (entity_values es) ≤ read_as.items_depth ds
  nest : nest_items ds ≡ nest_of_all es

inner_formed : (here : List ℕ) (o : Option Data) (es : EntityTrees) → ((ds : Items) → AreRead (entity_at here) ds (entity_list es) → ItemsFormed here ds es) → entities_field here o ≡ good (entity_list es) → InnerFormed here o es
unfolding nest_in entity_items
inner_formed here None no_entities formed e = record { differ = refl; all = tt; slot = refl; nest = refl }
inner_formed here None (one_entity x es) formed e = absurd cc
inner_formed here (Some (read_as.array ds)) es formed e =
    let n = named_formed (entity_items here [] ds) here entity_name (entity_list es) e in
    let f = formed ds (all_read (entity_at here) ds (entity_list es) (sym (items_are here [] ds) ∙ n.0)) in
    record { differ = n.1; all = f.all; slot = omega (arith, f.shallow, optional_list_depth (entity_values es)); nest = f.nest }
inner_formed here (Some read_as.null) es formed e = absurd (never_ok Shape here (entity_list es) e)
inner_formed here (Some (read_as.boolean b)) es formed e = absurd (never_ok Shape here (entity_list es) e)
inner_formed here (Some (read_as.number n)) es formed e = absurd (never_ok Shape here (entity_list es) e)
inner_formed here (Some (read_as.string s)) es formed e = absurd (never_ok Shape here (entity_list es) e)
inner_formed here (Some (read_as.object ms)) es formed e = absurd (never_ok Shape here (entity_list es) e)

-- an entity that was read under this name
pub record EntityFormed (here name : List ℕ) (d : Data) (e : EntityTree) : Type 0 where
  pub named : entity_name e ≡ name
  pub form : IsEntity here e
  pub shallow : depth (entity_value e) ≤ read_as.depth d
  pub nest : nest_field (get (codes "entities") d) ≡ nest_of e

kind_formed : (here class : List ℕ) (o : Option Kind) (kind : Kind) → kind_given here o ≡ good kind → o ≡ Some kind
kind_formed here class None kind e = absurd (never_ok Class here kind e)
kind_formed here class (Some k) kind e = cc

mutual
  unfolding entity_from nest_in

  pub entity_formed : (here name : List ℕ) (e : EntityTree) (d : Data) → SlotOf (get (codes "name") d) (written.text_slot name)
      → entity_from here name d (entities_field here (get (codes "entities") d)) ≡ good e → EntityFormed here name d e
  entity_formed here name (entity own inner) d name_slot e =
      let x = entity own inner in
      let class = bind_ok (required_text here (get (codes "class") d)) _ x e in
      let kind = bind_ok (kind_at here class.0) _ x class.2 in
      let own_read = bind_ok (parts_at here name class.0 kind.0 d) _ x kind.2 in
      let fit = bind_ok (parts_fit here kind.0 own_read.0.properties own_read.0.ports) _ x own_read.2 in
      let es = bind_ok (entities_field here (get (codes "entities") d)) _ x fit.2 in
      let same : entity own_read.0 (to_entities es.0) ≡ x = cc in
      let own_is : own_read.0 ≡ own = ap parts same in
      let inner_is : es.0 ≡ entity_list inner = sym (entity_list_of es.0) ∙ ap children same in
      let class_is : own_read.0.class ≡ class.0 = class_of here name class.0 kind.0 d own_read.0 own_read.1 in
      let class_own : class.0 ≡ own.class = sym class_is ∙ ap (λ (p : Parts). p.class) own_is in
      let within = inner_formed here (get (codes "entities") d) inner (entities_formed here inner) (es.1 ∙ ap good inner_is) in
      let is_kind : kind_of own.class ≡ Some kind.0 = sym (ap kind_of class_own) ∙ kind_formed here class.0 (kind_of class.0) kind.0 kind.1 in
      let read_own : parts_at here name own.class kind.0 d ≡ good own = sym (ap (λ (c : List ℕ). parts_at here name c kind.0 d) class_own) ∙ own_read.1 ∙ ap good own_is in
      let fits : parts_fit here kind.0 own.properties own.ports ≡ good tt = sym (ap (λ (p : Parts). parts_fit here kind.0 p.properties p.ports) own_is) ∙ fit.1 in
      let class_slot = text_stands here (get (codes "class") d) own.class (class.1 ∙ ap good class_own) in
      let p = parts_formed here name d (entity_values inner) kind.0 own read_own is_kind fits name_slot class_slot within.slot in
      record { named = p.0; form = (p.1, within.differ, within.all); shallow = p.2; nest = within.nest }

  entities_formed : (here : List ℕ) (es : EntityTrees) (ds : Items) → AreRead (entity_at here) ds (entity_list es) → ItemsFormed here ds es
  entities_formed here no_entities read_as.no_items h = record { all = tt; shallow = omega arith; nest = refl }
  entities_formed here no_entities (read_as.item d ds) h = absurd h
  entities_formed here (one_entity e es) read_as.no_items h = absurd h
  entities_formed here (one_entity e es) (read_as.item d ds) h =
      let n = bind_ok (name_at here (get (codes "name") d)) (λ name. entity_from (below here name) name d (entities_field (below here name) (get (codes "entities") d))) e h.0 in
      let s = name_stands here (get (codes "name") d) n.0 n.1 in
      let a = entity_formed (below here n.0) n.0 e d s.0 n.2 in
      let b = entities_formed here es ds h.1 in
      let form = subst (λ (m : List ℕ). IsEntity (below here m) e) (sym a.named) a.form in
      record { all = (ap is_name a.named ∙ s.1, form, b.all); shallow = omega (arith, a.shallow, b.shallow); nest = (λ i. one_nest ((nest_in_is d ∙ a.nest) i) (b.nest i)) }
