-- The objects of the format beside properties, ports, entities and jobs.
use Rattle.std.proofs.Common.{◌≡◌, inl, inr, List, ℕ, Bool, true, false, cond, Ok, Err, codes, refl, sym, ◌∙◌}
use Rattle.std.specs.Prelude.{is_some}
use Rattle.serde_json.specs.Data.{Data}
use Rattle.serde_json.specs.Find.{get}
use Rattle.pt_document.specs.declared.code.Code.{Code}
use Rattle.pt_document.specs.declared.refusal.Refusal.{Refusal}
use Rattle.pt_moml.specs.Fields.{required_text, optional_text, name_at, required_truth, optional_truth, required_whole, required_list, optional_list}
use Rattle.pt_moml.specs.Forms as forms
use Rattle.pt_moml.specs.Forms.{list, object}
use Rattle.pt_moml.specs.Reading.{relation_at, port_link, relations_link, link_at, state_at, output_at, set_at, transition_at, token_at, event_at, tokens_input, events_input, input_at}
use Rattle.pt_moml.specs.Stands.{Faulty, in_port_link, in_relations_link, in_tokens, in_events}
use Rattle.pt_moml.proofs.FieldLaws.{Reads, required_text_reads, optional_text_reads, name_reads, required_truth_reads, optional_truth_reads, required_whole_reads, token_reads, required_list_reads, optional_list_reads}
use Rattle.pt_moml.proofs.ObjectLaws.{chain_end, chain_step, object_reads}

pub relation_reads : (path : List ℕ) (d : Data) → Reads path (object forms.relation) (relation_at path d) d
unfolding relation_at
relation_reads path d =
    object_reads path forms.relation d _
    (chain_step path forms.relation d (forms.required (codes "name") forms.name) _ (name_at path (get (codes "name") d)) _ (inl refl) (name_reads path (get (codes "name") d)) (λ _ _.
    chain_end path forms.relation d _))
    (λ _ _. refl)

pub port_link_reads : (path : List ℕ) (d : Data) → Reads path (object forms.port_link) (port_link path d) d
unfolding port_link
port_link_reads path d =
    object_reads path forms.port_link d _
    (chain_step path forms.port_link d (forms.required (codes "port") forms.text) _ (required_text path (get (codes "port") d)) _ (inl refl) (required_text_reads path (get (codes "port") d)) (λ _ _.
    chain_step path forms.port_link d (forms.required (codes "relation") forms.text) _ (required_text path (get (codes "relation") d)) _ (inr (inl refl)) (required_text_reads path (get (codes "relation") d)) (λ _ _.
    chain_end path forms.port_link d _)))
    (λ _ _. refl)

pub relations_link_reads : (path : List ℕ) (d : Data) → Reads path (object forms.relations_link) (relations_link path d) d
unfolding relations_link
relations_link_reads path d =
    object_reads path forms.relations_link d _
    (chain_step path forms.relations_link d (forms.required (codes "relation1") forms.text) _ (required_text path (get (codes "relation1") d)) _ (inl refl) (required_text_reads path (get (codes "relation1") d)) (λ _ _.
    chain_step path forms.relations_link d (forms.required (codes "relation2") forms.text) _ (required_text path (get (codes "relation2") d)) _ (inr (inl refl)) (required_text_reads path (get (codes "relation2") d)) (λ _ _.
    chain_end path forms.relations_link d _)))
    (λ _ _. refl)

pub state_reads : (path : List ℕ) (d : Data) → Reads path (object forms.state) (state_at path d) d
unfolding state_at
state_reads path d =
    object_reads path forms.state d _
    (chain_step path forms.state d (forms.required (codes "name") forms.name) _ (name_at path (get (codes "name") d)) _ (inl refl) (name_reads path (get (codes "name") d)) (λ _ _.
    chain_step path forms.state d (forms.optional (codes "refinement") forms.text) _ (optional_text path (get (codes "refinement") d)) _ (inr (inl refl)) (optional_text_reads path (get (codes "refinement") d)) (λ _ _.
    chain_end path forms.state d _)))
    (λ _ _. refl)

pub output_action_reads : (path : List ℕ) (d : Data) → Reads path (object forms.output_action) (output_at path d) d
unfolding output_at
output_action_reads path d =
    object_reads path forms.output_action d _
    (chain_step path forms.output_action d (forms.required (codes "port") forms.text) _ (required_text path (get (codes "port") d)) _ (inl refl) (required_text_reads path (get (codes "port") d)) (λ _ _.
    chain_step path forms.output_action d (forms.required (codes "value") forms.text) _ (required_text path (get (codes "value") d)) _ (inr (inl refl)) (required_text_reads path (get (codes "value") d)) (λ _ _.
    chain_end path forms.output_action d _)))
    (λ _ _. refl)

pub set_action_reads : (path : List ℕ) (d : Data) → Reads path (object forms.set_action) (set_at path d) d
unfolding set_at
set_action_reads path d =
    object_reads path forms.set_action d _
    (chain_step path forms.set_action d (forms.required (codes "name") forms.text) _ (required_text path (get (codes "name") d)) _ (inl refl) (required_text_reads path (get (codes "name") d)) (λ _ _.
    chain_step path forms.set_action d (forms.required (codes "value") forms.text) _ (required_text path (get (codes "value") d)) _ (inr (inl refl)) (required_text_reads path (get (codes "value") d)) (λ _ _.
    chain_end path forms.set_action d _)))
    (λ _ _. refl)

pub transition_reads : (path : List ℕ) (d : Data) → Reads path (object forms.transition) (transition_at path d) d
unfolding transition_at
transition_reads path d =
    object_reads path forms.transition d _
    (chain_step path forms.transition d (forms.required (codes "from") forms.text) _ (required_text path (get (codes "from") d)) _ (inl refl) (required_text_reads path (get (codes "from") d)) (λ _ _.
    chain_step path forms.transition d (forms.required (codes "to") forms.text) _ (required_text path (get (codes "to") d)) _ (inr (inl refl)) (required_text_reads path (get (codes "to") d)) (λ _ _.
    chain_step path forms.transition d (forms.required (codes "guard") forms.text) _ (required_text path (get (codes "guard") d)) _ (inr (inr (inl refl))) (required_text_reads path (get (codes "guard") d)) (λ _ _.
    chain_step path forms.transition d (forms.optional (codes "preemptive") forms.truth) _ (optional_truth path (get (codes "preemptive") d)) _ (inr (inr (inr (inl refl)))) (optional_truth_reads path (get (codes "preemptive") d)) (λ _ _.
    chain_step path forms.transition d (forms.required (codes "history") forms.truth) _ (required_truth path (get (codes "history") d)) _ (inr (inr (inr (inr (inl refl))))) (required_truth_reads path (get (codes "history") d)) (λ _ _.
    chain_step path forms.transition d (forms.optional (codes "output") (list (object forms.output_action))) _ (optional_list output_at path (get (codes "output") d)) _ (inr (inr (inr (inr (inr (inl refl)))))) (optional_list_reads path (object forms.output_action) output_at (output_action_reads path) (get (codes "output") d)) (λ _ _.
    chain_step path forms.transition d (forms.optional (codes "set") (list (object forms.set_action))) _ (optional_list set_at path (get (codes "set") d)) _ (inr (inr (inr (inr (inr (inr (inl refl))))))) (optional_list_reads path (object forms.set_action) set_at (set_action_reads path) (get (codes "set") d)) (λ _ _.
    chain_end path forms.transition d _))))))))
    (λ _ _. refl)

pub event_reads : (path : List ℕ) (d : Data) → Reads path (object forms.event) (event_at path d) d
unfolding event_at
event_reads path d =
    object_reads path forms.event d _
    (chain_step path forms.event d (forms.required (codes "time") forms.whole) _ (required_whole path (get (codes "time") d)) _ (inl refl) (required_whole_reads path (get (codes "time") d)) (λ _ _.
    chain_step path forms.event d (forms.required (codes "step") forms.whole) _ (required_whole path (get (codes "step") d)) _ (inr (inl refl)) (required_whole_reads path (get (codes "step") d)) (λ _ _.
    chain_step path forms.event d (forms.required (codes "value") forms.text) _ (required_text path (get (codes "value") d)) _ (inr (inr (inl refl))) (required_text_reads path (get (codes "value") d)) (λ _ _.
    chain_end path forms.event d _))))
    (λ _ _. refl)

pub tokens_input_reads : (path : List ℕ) (d : Data) → Reads path (object forms.tokens_input) (tokens_input path d) d
unfolding tokens_input
tokens_input_reads path d =
    object_reads path forms.tokens_input d _
    (chain_step path forms.tokens_input d (forms.required (codes "port") forms.text) _ (required_text path (get (codes "port") d)) _ (inl refl) (required_text_reads path (get (codes "port") d)) (λ _ _.
    chain_step path forms.tokens_input d (forms.required (codes "tokens") (list forms.token)) _ (required_list token_at path (get (codes "tokens") d)) _ (inr (inl refl)) (required_list_reads path forms.token token_at (token_reads path) (get (codes "tokens") d)) (λ _ _.
    chain_end path forms.tokens_input d _)))
    (λ _ _. refl)

pub events_input_reads : (path : List ℕ) (d : Data) → Reads path (object forms.events_input) (events_input path d) d
unfolding events_input
events_input_reads path d =
    object_reads path forms.events_input d _
    (chain_step path forms.events_input d (forms.required (codes "port") forms.text) _ (required_text path (get (codes "port") d)) _ (inl refl) (required_text_reads path (get (codes "port") d)) (λ _ _.
    chain_step path forms.events_input d (forms.required (codes "events") (list (object forms.event))) _ (required_list event_at path (get (codes "events") d)) _ (inr (inl refl)) (required_list_reads path (object forms.event) event_at (event_reads path) (get (codes "events") d)) (λ _ _.
    chain_end path forms.events_input d _)))
    (λ _ _. refl)

link_told : (path : List ℕ) (d : Data) (b : Bool) → is_some (get (codes "port") d) ≡ b → (r : Refusal) → cond b (port_link path d) (relations_link path d) ≡ Err r → (r.path ≡ path) × Faulty r.code forms.link d
link_told path d true is r e = (let t = (port_link_reads path d).told r e in (t.0, in_port_link is t.1))
link_told path d false is r e = (let t = (relations_link_reads path d).told r e in (t.0, in_relations_link is t.1))

link_clean : (path : List ℕ) (d : Data) (b : Bool) → is_some (get (codes "port") d) ≡ b → (x : _) → cond b (port_link path d) (relations_link path d) ≡ Ok x → (code : Code) → Faulty code forms.link d → ⊥
link_clean path d true is x e code (in_port_link _ stands) = (port_link_reads path d).clean x e code stands
link_clean path d true is x e code (in_relations_link other stands) = let both : true ≡ false = sym is ∙ other in cc
link_clean path d false is x e code (in_port_link other stands) = let both : false ≡ true = sym is ∙ other in cc
link_clean path d false is x e code (in_relations_link _ stands) = (relations_link_reads path d).clean x e code stands

pub link_reads : (path : List ℕ) (d : Data) → Reads path forms.link (link_at path d) d
link_reads path d = record { told = λ r e. link_told path d (is_some (get (codes "port") d)) refl r e; clean = λ x e. link_clean path d (is_some (get (codes "port") d)) refl x e }

input_told : (path : List ℕ) (d : Data) (b : Bool) → is_some (get (codes "tokens") d) ≡ b → (r : Refusal) → cond b (tokens_input path d) (events_input path d) ≡ Err r → (r.path ≡ path) × Faulty r.code forms.input d
input_told path d true is r e = (let t = (tokens_input_reads path d).told r e in (t.0, in_tokens is t.1))
input_told path d false is r e = (let t = (events_input_reads path d).told r e in (t.0, in_events is t.1))

input_clean : (path : List ℕ) (d : Data) (b : Bool) → is_some (get (codes "tokens") d) ≡ b → (x : _) → cond b (tokens_input path d) (events_input path d) ≡ Ok x → (code : Code) → Faulty code forms.input d → ⊥
input_clean path d true is x e code (in_tokens _ stands) = (tokens_input_reads path d).clean x e code stands
input_clean path d true is x e code (in_events other stands) = let both : true ≡ false = sym is ∙ other in cc
input_clean path d false is x e code (in_tokens other stands) = let both : false ≡ true = sym is ∙ other in cc
input_clean path d false is x e code (in_events _ stands) = (events_input_reads path d).clean x e code stands

pub input_reads : (path : List ℕ) (d : Data) → Reads path forms.input (input_at path d) d
input_reads path d = record { told = λ r e. input_told path d (is_some (get (codes "tokens") d)) refl r e; clean = λ x e. input_clean path d (is_some (get (codes "tokens") d)) refl x e }
