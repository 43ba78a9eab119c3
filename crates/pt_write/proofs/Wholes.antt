-- The whole numbers of a document have 64 bits.
use Rattle.std.proofs.Common.{ℕ, ◌^◌, ◌<◌, List, [], ◌∷◌, Option, Some, None, Bool, true, false, arith}
use Rattle.std.specs.List.{AllByRecursion}
use Rattle.pt_document.specs.declared.job.Link.{Link}
use Rattle.pt_document.specs.declared.job.Link.TheVariants.{Port, Relations}
use Rattle.pt_document.specs.declared.job.State.{State}
use Rattle.pt_document.specs.Document.{PropertyTree, property, PropertyTrees, no_properties, one_property, PortTree, TransitionTree, EntityTree, entity, EntityTrees, no_entities, one_entity, SupplyTree, tokens, events, JobTree}
use Rattle.pt_write.specs.Written.{Value, Values, no_values, value_then, text}
use Rattle.pt_write.specs.Document as written
use Rattle.pt_write.specs.Document.{values, property_value, property_values, port_value, relation_value, link_value, state_value, output_value, set_value, transition_value, entity_value, entity_values, token_value, event_value, supply_field, input_value, document}
use Rattle.pt_write.specs.Form.{IsEvent, IsSupply}
use Rattle.pt_write.proofs.Json.{HasWholes, ItemsHaveWholes, SlotHasWholes, FieldsHaveWholes}
use Rattle.pt_write.proofs.PartsBack.{any_all}

text_whole : (o : Option (List ℕ)) → SlotHasWholes (written.optional_text o)
text_whole None = tt
text_whole (Some s) = tt

truth_whole : (b : Bool) → SlotHasWholes (written.optional_truth b)
truth_whole false = tt
truth_whole true = tt

list_whole : (vs : Values) → ItemsHaveWholes vs → SlotHasWholes (written.optional_list vs)
list_whole no_values h = tt
list_whole (value_then v vs) h = h

items_whole : {A : Type 0} (value : A → Value) (form : A → Type 0) → ((a : A) → form a → HasWholes (value a)) → (xs : List A) → AllByRecursion form xs → ItemsHaveWholes (values value xs)
items_whole value form one [] h = tt
items_whole value form one (x ∷ xs) h = (one x h.0, items_whole value form one xs h.1)

abbrev Any : {A : Type 0} → A → Type 0
Any x = Unit {0}

plain_whole : {A : Type 0} (value : A → Value) → ((a : A) → HasWholes (value a)) → (xs : List A) → SlotHasWholes (written.optional_list (values value xs))
plain_whole value one xs = list_whole (values value xs) (items_whole value Any (λ a _. one a) xs (any_all xs))

mutual
  property_whole : (p : PropertyTree) → HasWholes (property_value p)
  property_whole (property name value class inner) = (tt, (text_whole value, (text_whole class, (list_whole (property_values inner) (properties_whole inner), tt))))

  properties_whole : (ps : PropertyTrees) → ItemsHaveWholes (property_values ps)
  properties_whole no_properties = tt
  properties_whole (one_property p ps) = (property_whole p, properties_whole ps)

port_whole : (p : PortTree) → HasWholes (port_value p)
port_whole p = (tt, (truth_whole (written.is_input p.direction), (truth_whole (written.is_output p.direction), (text_whole p.declared, (plain_whole property_value property_whole p.properties, tt)))))

link_whole : (l : Link) → HasWholes (link_value l)
link_whole (Port port relation) = (tt, (tt, tt))
link_whole (Relations first second) = (tt, (tt, tt))

state_whole : (s : State) → HasWholes (state_value s)
state_whole s = (tt, (text_whole s.refinement, tt))

transition_whole : (t : TransitionTree) → HasWholes (transition_value t)
transition_whole t =
    (tt, (tt, (tt, (truth_whole t.preemptive, (tt, (plain_whole output_value (λ a. (tt, (tt, tt))) t.output, (plain_whole set_value (λ a. (tt, (tt, tt))) t.set, tt)))))))

states_whole : (o : Option (List ℕ)) (vs : Values) → ItemsHaveWholes vs → SlotHasWholes (written.states_slot o vs)
states_whole None vs h = list_whole vs h
states_whole (Some s) vs h = h

mutual
  entity_whole : (e : EntityTree) → HasWholes (entity_value e)
  entity_whole (entity own inner) = (
    tt,
    (
      tt,
      (
        plain_whole property_value property_whole own.properties,
        (
          plain_whole port_value port_whole own.ports,
          (
            list_whole (entity_values inner) (entities_whole inner),
            (
              plain_whole relation_value (λ r. (tt, tt)) own.relations,
              (
                plain_whole link_value link_whole own.links,
                (
                  states_whole own.initial (values state_value own.states) (items_whole state_value Any (λ s _. state_whole s) own.states (any_all own.states)),
                  (text_whole own.initial, (plain_whole transition_value transition_whole own.transitions, tt)),
                ),
              ),
            ),
          ),
        ),
      ),
    ),
  )

  entities_whole : (es : EntityTrees) → ItemsHaveWholes (entity_values es)
  entities_whole no_entities = tt
  entities_whole (one_entity e es) = (entity_whole e, entities_whole es)

token_whole : (t : Option (List ℕ)) → HasWholes (token_value t)
token_whole None = tt
token_whole (Some s) = tt

supply_whole : (s : SupplyTree) → IsSupply s → FieldsHaveWholes (supply_field s)
supply_whole (tokens ts) h = (items_whole token_value Any (λ t _. token_whole t) ts (any_all ts), tt)
supply_whole (events es) h = (items_whole event_value IsEvent (λ e is. (is.0, (is.1, (tt, tt)))) es h, tt)

pub document_whole : (job : JobTree) → AllByRecursion (λ i. IsSupply i.supply) job.inputs → HasWholes (document job)
document_whole job h =
    let one : 1 < 2 ^ 64 = omega arith in
    (one, (entity_whole job.model, (list_whole (values input_value job.inputs) (items_whole input_value (λ i. IsSupply i.supply) (λ i is. (tt, supply_whole i.supply is)) job.inputs h), (plain_whole text (λ s. tt) job.records, tt))))
