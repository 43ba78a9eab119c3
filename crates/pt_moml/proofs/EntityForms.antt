-- What is refused in the parts of an entity stands there, and where they are read nothing stands.
use Rattle.std.proofs.Common.{◌≡◌, inl, inr, List, [], ◌∷◌, ℕ, Result, Ok, Err, Option, Some, None, Bool, true, false, cond, codes, map, refl, sym, ap, ◌∙◌, subst}
use Rattle.std.specs.Prelude.{option_and_then, is_some}
use Rattle.serde_json.specs.Data.{Data}
use Rattle.serde_json.specs.Find.{get, as_str}
use Rattle.pt_document.specs.declared.job.Relation.{Relation}
use Rattle.pt_document.specs.declared.job.State.{State}
use Rattle.pt_document.specs.declared.refusal.Refusal.{Refusal}
use Rattle.pt_document.specs.Classes.{Class, Kind, Composite, Modal, Actor}
use Rattle.pt_document.specs.Names.{is_among}
use Rattle.pt_document.specs.Outcome.{◌>>=◌}
use Rattle.pt_moml.specs.Fields.{listed, name_at, required_text, optional_text, optional_list, distinct_at}
use Rattle.pt_moml.specs.Forms as forms
use Rattle.pt_moml.specs.Forms.{Object, Field, Form, fields, keys, object, list, named}
use Rattle.pt_moml.specs.Reading.{relation_at, state_at, properties_field, port_at, ports_field, relations_field, link_at, states_field, initial_field, transition_at, parts_at}
use Rattle.pt_moml.specs.Reading.{named as named_list}
use Rattle.pt_moml.specs.Stands.{IsIn, text_in}
use Rattle.pt_document.proofs.Chains.{good, bind_ok, never_err}
use Rattle.pt_moml.proofs.FieldLaws.{Fine, Reads, ReadsAt, FineAt, NamesRead, required_reads, then_good, text_reads, fine_text, name_ok, optional_list_reads, required_named_reads, optional_named_reads}
use Rattle.pt_moml.proofs.ObjectLaws.{Chain, chain_end, chain_step, chain_known, chain_skip, known_object_reads, absent_field}
use Rattle.pt_moml.proofs.PlainObjects.{relation_reads, state_reads, link_reads, transition_reads}
use Rattle.pt_moml.proofs.PropertyLaws.{properties_reads}
use Rattle.pt_moml.proofs.PortLaws.{port_reads, port_named}

pub relation_named : (path : List ℕ) → NamesRead (relation_at path) (λ r. r.name)
unfolding relation_at
relation_named path d x e =
    let a = bind_ok (listed path (keys forms.relation) d) _ x e in
    let b = bind_ok (name_at path (get (codes "name") d)) _ x a.2 in
    (name_ok path (get (codes "name") d) b.0 b.1).0 ∙ ap Some (same b.0 b.2)
  where
    same : (s : List ℕ) → good (record { name = s }) ≡ good x → s ≡ x.name
    same s e = let is : record { name = s } ≡ x = cc in ap (λ (y : Relation). y.name) is

pub state_named : (path : List ℕ) → NamesRead (state_at path) (λ s. s.name)
unfolding state_at
state_named path d x e =
    let a = bind_ok (listed path (keys forms.state) d) _ x e in
    let b = bind_ok (name_at path (get (codes "name") d)) _ x a.2 in
    let c = bind_ok (optional_text path (get (codes "refinement") d)) _ x b.2 in
    (name_ok path (get (codes "name") d) b.0 b.1).0 ∙ ap Some (same b.0 c.0 c.2)
  where
    same : (s : List ℕ) (o : Option (List ℕ)) → good (record { name = s; refinement = o }) ≡ good x → s ≡ x.name
    same s o e = let is : record { name = s; refinement = o } ≡ x = cc in ap (λ (y : State). y.name) is

-- ---- fields of which enough is known

pub fine_anything : (d : Data) → Fine forms.anything d
fine_anything d code stands = elim stands [ ]

known_name : (field : Option Data) (s : List ℕ) → option_and_then as_str field ≡ Some s → FineAt true forms.anything field
known_name None s is = absurd cc
known_name (Some d) s is = record { given = λ _ e. cc; fine = λ x _. fine_anything x }

known_class : (field : Option Data) (s : List ℕ) → option_and_then as_str field ≡ Some s → FineAt true forms.text field
known_class None s is = absurd cc
known_class (Some d) s is = record { given = λ _ e. cc; fine = λ x e. let same : d ≡ x = cc in subst (Fine forms.text) same (fine_text d s is) }

known_entities : (field : Option Data) → FineAt false forms.anything field
known_entities field = record { given = λ e _. cc; fine = λ x _. fine_anything x }

-- ---- fields that an entity of another kind has

absent_list : {A : Type 0} (read : List ℕ → Data → Result A Refusal) (path : List ℕ) (field : Option Data) → field ≡ None → (r : Refusal) → optional_list read path field ≡ Err r → ⊥
unfolding optional_list
absent_list read path field none r e = never_err [] r (sym (ap (optional_list read path) none) ∙ e)

absent_relations : (path : List ℕ) (field : Option Data) → field ≡ None → (r : Refusal) → relations_field path field ≡ Err r → ⊥
unfolding optional_list named_list distinct_at
absent_relations path field none r e = never_err [] r (sym (ap (relations_field path) none) ∙ e)

absent_ports : (path : List ℕ) (field : Option Data) → field ≡ None → (r : Refusal) → ports_field path field ≡ Err r → ⊥
unfolding optional_list named_list distinct_at
absent_ports path field none r e = never_err [] r (sym (ap (ports_field path) none) ∙ e)

composite_states : (path : List ℕ) (field : Option Data) (r : Refusal) → states_field path Composite field ≡ Err r → ⊥
unfolding states_field
composite_states path field r e = never_err [] r e

actor_states : (path : List ℕ) (row : Class) (field : Option Data) (r : Refusal) → states_field path (Actor row) field ≡ Err r → ⊥
unfolding states_field
actor_states path row field r e = never_err [] r e

composite_initial : (path : List ℕ) (field : Option Data) (r : Refusal) → initial_field path Composite field ≡ Err r → ⊥
unfolding initial_field
composite_initial path field r e = never_err None r e

actor_initial : (path : List ℕ) (row : Class) (field : Option Data) (r : Refusal) → initial_field path (Actor row) field ≡ Err r → ⊥
unfolding initial_field
actor_initial path row field r e = never_err None r e

-- ---- what stands at the fields

relations_reads : (path : List ℕ) (field : Option Data) → ReadsAt path false (named (object forms.relation)) (relations_field path field) field
relations_reads path field = optional_named_reads path (object forms.relation) relation_at (λ r. r.name) (relation_reads path) (relation_named path) field

ports_reads : (path : List ℕ) (field : Option Data) → ReadsAt path false (named (object forms.port)) (ports_field path field) field
ports_reads path field = optional_named_reads path (object forms.port) port_at (λ p. p.name) (port_reads path) (port_named path) field

links_reads : (path : List ℕ) (field : Option Data) → ReadsAt path false (list forms.link) (optional_list link_at path field) field
links_reads path field = optional_list_reads path forms.link link_at (link_reads path) field

transitions_reads : (path : List ℕ) (field : Option Data) → ReadsAt path false (list (object forms.transition)) (optional_list transition_at path field) field
transitions_reads path field = optional_list_reads path (object forms.transition) transition_at (transition_reads path) field

states_reads : (path : List ℕ) (field : Option Data) → ReadsAt path true (named (object forms.state)) (states_field path Modal field) field
unfolding states_field
states_reads path field = required_named_reads path (object forms.state) state_at (λ s. s.name) (state_reads path) (state_named path) field

initial_reads : (path : List ℕ) (field : Option Data) → ReadsAt path true forms.text (initial_field path Modal field) field
unfolding initial_field
initial_reads path field = required_reads path forms.text (λ f. required_text path f >>= λ s. Ok (Some s)) refl (λ d. then_good path forms.text (required_text path (Some d)) d Some (text_reads path d)) field

-- ---- the kinds of entities

chain_table : {A : Type 0} (path : List ℕ) (o : Object) (d : Data) (fs : List Field) (rest : Result A Refusal) → fields o ≡ fs → Chain path o d fs rest → Chain path o d (fields o) rest
chain_table path o d fs rest table chain = subst (λ (gs : List Field). Chain path o d gs rest) (sym table) chain

composite_reads : (here name class : List ℕ) (d : Data) → text_in (codes "name") d ≡ Some name → text_in (codes "class") d ≡ Some class → Reads here (object (forms.entity Composite)) (parts_at here name class Composite d) d
unfolding parts_at
composite_reads here name class d name_is class_is =
    known_object_reads here (forms.entity Composite) d _ (λ known.
    let gone = λ (k : List ℕ) (other : is_among (keys (forms.entity Composite)) k ≡ false). absent_field (keys (forms.entity Composite)) k d known other in
    chain_known here (forms.entity Composite) d (forms.required (codes "name") forms.anything) _ _ (known_name (get (codes "name") d) name name_is)
    (chain_known here (forms.entity Composite) d (forms.required (codes "class") forms.text) _ _ (known_class (get (codes "class") d) class class_is)
    (chain_step here (forms.entity Composite) d (forms.optional (codes "properties") (named (object forms.property))) _ (properties_field here (get (codes "properties") d)) _ (inr (inr (inl refl))) (properties_reads here (get (codes "properties") d)) (λ _ _.
    chain_step here (forms.entity Composite) d (forms.optional (codes "ports") (named (object forms.port))) _ (ports_field here (get (codes "ports") d)) _ (inr (inr (inr (inl refl)))) (ports_reads here (get (codes "ports") d)) (λ _ _.
    chain_known here (forms.entity Composite) d (forms.optional (codes "entities") forms.anything) _ _ (known_entities (get (codes "entities") d))
    (chain_step here (forms.entity Composite) d (forms.optional (codes "relations") (named (object forms.relation))) _ (relations_field here (get (codes "relations") d)) _ (inr (inr (inr (inr (inr (inl refl)))))) (relations_reads here (get (codes "relations") d)) (λ _ _.
    chain_step here (forms.entity Composite) d (forms.optional (codes "links") (list forms.link)) _ (optional_list link_at here (get (codes "links") d)) _ (inr (inr (inr (inr (inr (inr (inl refl))))))) (links_reads here (get (codes "links") d)) (λ _ _.
    chain_skip here (forms.entity Composite) d _ (states_field here Composite (get (codes "states") d)) _ (composite_states here (get (codes "states") d)) (λ _ _.
    chain_skip here (forms.entity Composite) d _ (initial_field here Composite (get (codes "initial") d)) _ (composite_initial here (get (codes "initial") d)) (λ _ _.
    chain_skip here (forms.entity Composite) d _ (optional_list transition_at here (get (codes "transitions") d)) _ (absent_list transition_at here (get (codes "transitions") d) (gone (codes "transitions") refl)) (λ _ _.
    chain_end here (forms.entity Composite) d _)))))))))))
    (λ _ _. refl)

modal_reads : (here name class : List ℕ) (d : Data) → text_in (codes "name") d ≡ Some name → text_in (codes "class") d ≡ Some class → Reads here (object (forms.entity Modal)) (parts_at here name class Modal d) d
unfolding parts_at
modal_reads here name class d name_is class_is =
    known_object_reads here (forms.entity Modal) d _ (λ known.
    let gone = λ (k : List ℕ) (other : is_among (keys (forms.entity Modal)) k ≡ false). absent_field (keys (forms.entity Modal)) k d known other in
    chain_known here (forms.entity Modal) d (forms.required (codes "name") forms.anything) _ _ (known_name (get (codes "name") d) name name_is)
    (chain_known here (forms.entity Modal) d (forms.required (codes "class") forms.text) _ _ (known_class (get (codes "class") d) class class_is)
    (chain_step here (forms.entity Modal) d (forms.optional (codes "properties") (named (object forms.property))) _ (properties_field here (get (codes "properties") d)) _ (inr (inr (inl refl))) (properties_reads here (get (codes "properties") d)) (λ _ _.
    chain_step here (forms.entity Modal) d (forms.optional (codes "ports") (named (object forms.port))) _ (ports_field here (get (codes "ports") d)) _ (inr (inr (inr (inl refl)))) (ports_reads here (get (codes "ports") d)) (λ _ _.
    chain_known here (forms.entity Modal) d (forms.optional (codes "entities") forms.anything) _ _ (known_entities (get (codes "entities") d))
    (chain_skip here (forms.entity Modal) d _ (relations_field here (get (codes "relations") d)) _ (absent_relations here (get (codes "relations") d) (gone (codes "relations") refl)) (λ _ _.
    chain_skip here (forms.entity Modal) d _ (optional_list link_at here (get (codes "links") d)) _ (absent_list link_at here (get (codes "links") d) (gone (codes "links") refl)) (λ _ _.
    chain_step here (forms.entity Modal) d (forms.required (codes "states") (named (object forms.state))) _ (states_field here Modal (get (codes "states") d)) _ (inr (inr (inr (inr (inr (inl refl)))))) (states_reads here (get (codes "states") d)) (λ _ _.
    chain_step here (forms.entity Modal) d (forms.required (codes "initial") forms.text) _ (initial_field here Modal (get (codes "initial") d)) _ (inr (inr (inr (inr (inr (inr (inl refl))))))) (initial_reads here (get (codes "initial") d)) (λ _ _.
    chain_step here (forms.entity Modal) d (forms.optional (codes "transitions") (list (object forms.transition))) _ (optional_list transition_at here (get (codes "transitions") d)) _ (inr (inr (inr (inr (inr (inr (inr (inl refl)))))))) (transitions_reads here (get (codes "transitions") d)) (λ _ _.
    chain_end here (forms.entity Modal) d _)))))))))))
    (λ _ _. refl)

abbrev with_ports : List Field
with_ports = forms.required (codes "name") forms.anything ∷ forms.required (codes "class") forms.text ∷ forms.optional (codes "properties") (named (object forms.property)) ∷ forms.optional (codes "ports") (named (object forms.port)) ∷ []

abbrev without_ports : List Field
without_ports = forms.required (codes "name") forms.anything ∷ forms.required (codes "class") forms.text ∷ forms.optional (codes "properties") (named (object forms.property)) ∷ []

-- an actor that may declare ports
declaring_actor : (here name class : List ℕ) (row : Class) (d : Data) → fields (forms.entity (Actor row)) ≡ with_ports → text_in (codes "name") d ≡ Some name → text_in (codes "class") d ≡ Some class → Reads here (object (forms.entity (Actor row))) (parts_at here name class (Actor row) d) d
unfolding parts_at
declaring_actor here name class row d table name_is class_is =
    let is_in = λ (f : Field) (h : IsIn f (with_ports)). subst (IsIn f) (sym table) h in
    known_object_reads here (forms.entity (Actor row)) d _ (λ known.
    let gone = λ (k : List ℕ) (other : is_among (map (λ f. f.key) (with_ports)) k ≡ false). absent_field (keys (forms.entity (Actor row))) k d known (ap (λ (fs : List Field). is_among (map (λ f. f.key) fs) k) table ∙ other) in
    chain_table here (forms.entity (Actor row)) d _ _ table
    (chain_known here (forms.entity (Actor row)) d (forms.required (codes "name") forms.anything) _ _ (known_name (get (codes "name") d) name name_is)
    (chain_known here (forms.entity (Actor row)) d (forms.required (codes "class") forms.text) _ _ (known_class (get (codes "class") d) class class_is)
    (chain_step here (forms.entity (Actor row)) d (forms.optional (codes "properties") (named (object forms.property))) _ (properties_field here (get (codes "properties") d)) _ (is_in _ (inr (inr (inl refl)))) (properties_reads here (get (codes "properties") d)) (λ _ _.
    chain_step here (forms.entity (Actor row)) d (forms.optional (codes "ports") (named (object forms.port))) _ (ports_field here (get (codes "ports") d)) _ (is_in _ (inr (inr (inr (inl refl))))) (ports_reads here (get (codes "ports") d)) (λ _ _.
    chain_skip here (forms.entity (Actor row)) d _ (relations_field here (get (codes "relations") d)) _ (absent_relations here (get (codes "relations") d) (gone (codes "relations") refl)) (λ _ _.
    chain_skip here (forms.entity (Actor row)) d _ (optional_list link_at here (get (codes "links") d)) _ (absent_list link_at here (get (codes "links") d) (gone (codes "links") refl)) (λ _ _.
    chain_skip here (forms.entity (Actor row)) d _ (states_field here (Actor row) (get (codes "states") d)) _ (actor_states here row (get (codes "states") d)) (λ _ _.
    chain_skip here (forms.entity (Actor row)) d _ (initial_field here (Actor row) (get (codes "initial") d)) _ (actor_initial here row (get (codes "initial") d)) (λ _ _.
    chain_skip here (forms.entity (Actor row)) d _ (optional_list transition_at here (get (codes "transitions") d)) _ (absent_list transition_at here (get (codes "transitions") d) (gone (codes "transitions") refl)) (λ _ _.
    chain_end here (forms.entity (Actor row)) d _)))))))))))
    (λ _ _. refl)

-- an actor that may not
plain_actor : (here name class : List ℕ) (row : Class) (d : Data) → fields (forms.entity (Actor row)) ≡ without_ports → text_in (codes "name") d ≡ Some name → text_in (codes "class") d ≡ Some class → Reads here (object (forms.entity (Actor row))) (parts_at here name class (Actor row) d) d
unfolding parts_at
plain_actor here name class row d table name_is class_is =
    let is_in = λ (f : Field) (h : IsIn f (without_ports)). subst (IsIn f) (sym table) h in
    known_object_reads here (forms.entity (Actor row)) d _ (λ known.
    let gone = λ (k : List ℕ) (other : is_among (map (λ f. f.key) (without_ports)) k ≡ false). absent_field (keys (forms.entity (Actor row))) k d known (ap (λ (fs : List Field). is_among (map (λ f. f.key) fs) k) table ∙ other) in
    chain_table here (forms.entity (Actor row)) d _ _ table
    (chain_known here (forms.entity (Actor row)) d (forms.required (codes "name") forms.anything) _ _ (known_name (get (codes "name") d) name name_is)
    (chain_known here (forms.entity (Actor row)) d (forms.required (codes "class") forms.text) _ _ (known_class (get (codes "class") d) class class_is)
    (chain_step here (forms.entity (Actor row)) d (forms.optional (codes "properties") (named (object forms.property))) _ (properties_field here (get (codes "properties") d)) _ (is_in _ (inr (inr (inl refl)))) (properties_reads here (get (codes "properties") d)) (λ _ _.
    chain_skip here (forms.entity (Actor row)) d _ (ports_field here (get (codes "ports") d)) _ (absent_ports here (get (codes "ports") d) (gone (codes "ports") refl)) (λ _ _.
    chain_skip here (forms.entity (Actor row)) d _ (relations_field here (get (codes "relations") d)) _ (absent_relations here (get (codes "relations") d) (gone (codes "relations") refl)) (λ _ _.
    chain_skip here (forms.entity (Actor row)) d _ (optional_list link_at here (get (codes "links") d)) _ (absent_list link_at here (get (codes "links") d) (gone (codes "links") refl)) (λ _ _.
    chain_skip here (forms.entity (Actor row)) d _ (states_field here (Actor row) (get (codes "states") d)) _ (actor_states here row (get (codes "states") d)) (λ _ _.
    chain_skip here (forms.entity (Actor row)) d _ (initial_field here (Actor row) (get (codes "initial") d)) _ (actor_initial here row (get (codes "initial") d)) (λ _ _.
    chain_skip here (forms.entity (Actor row)) d _ (optional_list transition_at here (get (codes "transitions") d)) _ (absent_list transition_at here (get (codes "transitions") d) (gone (codes "transitions") refl)) (λ _ _.
    chain_end here (forms.entity (Actor row)) d _)))))))))))
    (λ _ _. refl)

pub parts_reads : (here name class : List ℕ) (kind : Kind) (d : Data) → text_in (codes "name") d ≡ Some name → text_in (codes "class") d ≡ Some class → Reads here (object (forms.entity kind)) (parts_at here name class kind d) d
parts_reads here name class Composite d name_is class_is = composite_reads here name class d name_is class_is
parts_reads here name class Modal d name_is class_is = modal_reads here name class d name_is class_is
parts_reads here name class (Actor row) d name_is class_is = chosen (is_some row.declares) refl
  where
    chosen : (b : Bool) → is_some row.declares ≡ b → Reads here (object (forms.entity (Actor row))) (parts_at here name class (Actor row) d) d
    chosen true is = declaring_actor here name class row d (ap (λ (b : Bool). cond b with_ports without_ports) is) name_is class_is
    chosen false is = plain_actor here name class row d (ap (λ (b : Bool). cond b with_ports without_ports) is) name_is class_is
