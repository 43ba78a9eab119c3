-- What is written of properties and entities by turns is what is written for them.
use Rattle.std.proofs.Common.{◌≡◌, ℕ, suc, ◌≤◌, ◌==◌, Option, drop_of_length-le, List, [], ◌∷◌, ◌++◌, length, drop, map, Bool, refl, sym, ap, ◌∙◌, subst, codes, rules, append_assoc}
use Rattle.json.specs.Token.{Token, begin_object, end_object}
use Rattle.json.specs.Written.{Written}
use Rattle.pt_document.specs.declared.job.Property.{Property, out-Property}
use Rattle.pt_document.specs.declared.job.Entity.{Entity, out-Entity}
use Rattle.pt_document.specs.declared.job.Property as of_property
use Rattle.pt_document.specs.declared.job.Entity as of_entity
use Rattle.pt_document.specs.Document.{PropertyTree, property, property_name, property_value as value_in, property_class, to_properties, Parts, parts, EntityTree, entity, to_entities}
use Rattle.pt_document.specs.View.{property_view, properties_view, entity_view, entities_view}
use Rattle.pt_write.specs.Written.{Values, value_then, tokens, items_tokens, slot_tokens}
use Rattle.pt_write.specs.Document.{text_slot, optional_text, optional_list, values, property_value, property_values, port_value, relation_value, link_value, entity_value, entity_values}
use Rattle.pt_write.specs.Appends.{Appends, opening, closing, saying_tokens, outside_tokens, wiring_tokens, machine_tokens}
use Rattle.pt_write.proofs.Appending.{then, same_tokens, Left, left_none, optional_list_tokens}

length_map : {A B : Type 0} (f : A → B) (xs : List A) → length (map f xs) ≡ length xs
length_map f [] = refl
length_map f (x ∷ xs) = ap suc (length_map f xs)

-- ---- properties

values_of_properties : (ps : List PropertyTree) → property_values (to_properties ps) ≡ values property_value ps
values_of_properties [] = refl
values_of_properties (p ∷ ps) = ap (value_then (property_value p)) (values_of_properties ps)

three : (x y z w : List Token) → (x ++ (y ++ z)) ++ w ≡ x ++ (y ++ (z ++ w))
three x y z w = append_assoc x (y ++ z) w ∙ ap (λ (ts : List Token). x ++ ts) (append_assoc y z w)

pub property_tokens : (name : List ℕ) (value class : Option (List ℕ)) (ps : List PropertyTree)
    → saying_tokens (property name value class (to_properties ps)) ++ (opening (codes "properties") (length ps == 0) ++ (items_tokens (values property_value ps) ++ (closing (length ps == 0) ++ end_object ∷ [])))
    ≡ tokens (property_value (property name value class (to_properties ps)))
property_tokens name value class ps =
    let k = codes "properties" in
    let e = length ps == 0 in
    let items = items_tokens (values property_value ps) in
    let n = slot_tokens (codes "name") (text_slot name) in
    let v = slot_tokens (codes "value") (optional_text value) in
    let c = slot_tokens (codes "class") (optional_text class) in
    let within : opening k e ++ (items ++ (closing e ++ end_object ∷ [])) ≡ slot_tokens k (optional_list (property_values (to_properties ps))) ++ end_object ∷ [] =
    ap (λ (ts : List Token). opening k e ++ ts) (sym (append_assoc items (closing e) (end_object ∷ []))) ∙ sym (append_assoc (opening k e) (items ++ closing e) (end_object ∷ []))
    ∙ ap (λ (ts : List Token). ts ++ end_object ∷ []) (optional_list_tokens property_value (values property_value) refl (λ x xs. refl) k ps ∙ ap (λ (vs : Values). slot_tokens k (optional_list vs)) (sym (values_of_properties ps))) in
    ap (λ (ts : List Token). begin_object ∷ ((n ++ (v ++ c)) ++ ts)) within ∙ ap (λ (ts : List Token). begin_object ∷ ts) (three n v c (slot_tokens k (optional_list (property_values (to_properties ps))) ++ end_object ∷ []))

property-view : (p : Property) → property_view p ≡ property (property_name (property_view p)) (value_in (property_view p)) (property_class (property_view p)) (to_properties (properties_view (out-Property p).properties.items))
property-view p = search (rules, of_property.the_lemmas)

pub property_written : (p : Property) (xs : List Property) (a b c d f z : Written) (i n : ℕ) (first last : Bool) → xs ≡ (out-Property p).properties.items → length xs ≡ n → first ≡ (n == 0) → last ≡ (n == 0) → length xs ≤ i
    → Appends a b (saying_tokens (property_view p)) → Appends b c (opening (codes "properties") first)
    → Left c d (items_tokens (values property_value (properties_view (drop i xs)))) (items_tokens (values property_value (properties_view xs))) → Appends d f (closing last) → Appends f z (end_object ∷ [])
    → Appends a z (tokens (property_value (property_view p)))
property_written p xs a b c d f z i n first last is len at_first at_last done saying opened items closed ended =
    let ps = properties_view xs in
    let k = codes "properties" in
    let empty : (n == 0) ≡ (length ps == 0) = ap (λ (m : ℕ). m == 0) (sym (length_map property_view xs ∙ len)) in
    let none : items_tokens (values property_value (properties_view (drop i xs))) ≡ [] = ap (λ (ys : List Property). items_tokens (values property_value (properties_view ys))) (drop_of_length-le xs done) in
    let whole : Appends c d (items_tokens (values property_value ps)) = left_none (subst (λ (rest : List Token). Left c d rest (items_tokens (values property_value ps))) none items) in
    let tree = property (property_name (property_view p)) (value_in (property_view p)) (property_class (property_view p)) (to_properties ps) in
    let is_tree : property_view p ≡ tree = property-view p ∙ ap (λ (ys : List Property). property (property_name (property_view p)) (value_in (property_view p)) (property_class (property_view p)) (to_properties (properties_view ys))) (sym is) in
    let said : Appends a b (saying_tokens tree) = subst (λ (t : PropertyTree). Appends a b (saying_tokens t)) is_tree saying in
    let begun : Appends b c (opening k (length ps == 0)) = subst (λ (e : Bool). Appends b c (opening k e)) (at_first ∙ empty) opened in
    let finished : Appends d f (closing (length ps == 0)) = subst (λ (e : Bool). Appends d f (closing e)) (at_last ∙ empty) closed in
    subst (λ (t : PropertyTree). Appends a z (tokens (property_value t))) (sym is_tree)
    (same_tokens (property_tokens (property_name (property_view p)) (value_in (property_view p)) (property_class (property_view p)) ps) (then said (then begun (then whole (then finished ended)))))

-- ---- entities

values_of_entities : (es : List EntityTree) → entity_values (to_entities es) ≡ values entity_value es
values_of_entities [] = refl
values_of_entities (e ∷ es) = ap (value_then (entity_value e)) (values_of_entities es)

seven : (n c p q e r l m : List Token) → (n ++ (c ++ (p ++ q))) ++ (e ++ ((r ++ l) ++ m)) ≡ n ++ (c ++ (p ++ (q ++ (e ++ (r ++ (l ++ m))))))
seven n c p q e r l m =
    ap (λ (ts : List Token). (n ++ (c ++ (p ++ q))) ++ (e ++ ts)) (append_assoc r l m)
    ∙ append_assoc n (c ++ (p ++ q)) (e ++ (r ++ (l ++ m))) ∙ ap (λ (ts : List Token). n ++ ts) (append_assoc c (p ++ q) (e ++ (r ++ (l ++ m))) ∙ ap (λ (ts : List Token). c ++ ts) (append_assoc p q (e ++ (r ++ (l ++ m)))))

pub entity_tokens : (own : Parts) (es : List EntityTree)
    → outside_tokens own ++ (opening (codes "entities") (length es == 0) ++ (items_tokens (values entity_value es) ++ (closing (length es == 0) ++ (wiring_tokens own ++ machine_tokens own))))
    ≡ tokens (entity_value (entity own (to_entities es)))
entity_tokens own es =
    let k = codes "entities" in
    let e = length es == 0 in
    let items = items_tokens (values entity_value es) in
    let after = wiring_tokens own ++ machine_tokens own in
    let within : opening k e ++ (items ++ (closing e ++ after)) ≡ slot_tokens k (optional_list (entity_values (to_entities es))) ++ after =
    ap (λ (ts : List Token). opening k e ++ ts) (sym (append_assoc items (closing e) after)) ∙ sym (append_assoc (opening k e) (items ++ closing e) after)
    ∙ ap (λ (ts : List Token). ts ++ after) (optional_list_tokens entity_value (values entity_value) refl (λ x xs. refl) k es ∙ ap (λ (vs : Values). slot_tokens k (optional_list vs)) (sym (values_of_entities es))) in
    ap (λ (ts : List Token). outside_tokens own ++ ts) within ∙ ap (λ (ts : List Token). begin_object ∷ ts) (seven (slot_tokens (codes "name") (text_slot own.name)) (slot_tokens (codes "class") (text_slot own.class)) (slot_tokens (codes "properties") (optional_list (values property_value own.properties)))
    (slot_tokens (codes "ports") (optional_list (values port_value own.ports))) (slot_tokens k (optional_list (entity_values (to_entities es)))) (slot_tokens (codes "relations") (optional_list (values relation_value own.relations)))
    (slot_tokens (codes "links") (optional_list (values link_value own.links))) (machine_tokens own))

entity-view : (e : Entity) → entity_view e ≡ entity (parts (entity_view e)) (to_entities (entities_view (out-Entity e).entities.items))
entity-view e = search (rules, of_entity.the_lemmas)

pub entity_written : (e : Entity) (xs : List Entity) (a b c d f h z : Written) (i n : ℕ) (first last : Bool) → xs ≡ (out-Entity e).entities.items → length xs ≡ n → first ≡ (n == 0) → last ≡ (n == 0) → length xs ≤ i
    → Appends a b (outside_tokens (parts (entity_view e))) → Appends b c (opening (codes "entities") first)
    → Left c d (items_tokens (values entity_value (entities_view (drop i xs)))) (items_tokens (values entity_value (entities_view xs))) → Appends d f (closing last)
    → Appends f h (wiring_tokens (parts (entity_view e))) → Appends h z (machine_tokens (parts (entity_view e))) → Appends a z (tokens (entity_value (entity_view e)))
entity_written e xs a b c d f h z i n first last is len at_first at_last done outside opened items closed wired ended =
    let es = entities_view xs in
    let own = parts (entity_view e) in
    let empty : (n == 0) ≡ (length es == 0) = ap (λ (m : ℕ). m == 0) (sym (length_map entity_view xs ∙ len)) in
    let none : items_tokens (values entity_value (entities_view (drop i xs))) ≡ [] = ap (λ (ys : List Entity). items_tokens (values entity_value (entities_view ys))) (drop_of_length-le xs done) in
    let whole : Appends c d (items_tokens (values entity_value es)) = left_none (subst (λ (rest : List Token). Left c d rest (items_tokens (values entity_value es))) none items) in
    let is_tree : entity_view e ≡ entity own (to_entities es) = entity-view e ∙ ap (λ (ys : List Entity). entity own (to_entities (entities_view ys))) (sym is) in
    let begun : Appends b c (opening (codes "entities") (length es == 0)) = subst (λ (x : Bool). Appends b c (opening (codes "entities") x)) (at_first ∙ empty) opened in
    let finished : Appends d f (closing (length es == 0)) = subst (λ (x : Bool). Appends d f (closing x)) (at_last ∙ empty) closed in
    subst (λ (t : EntityTree). Appends a z (tokens (entity_value t))) (sym is_tree) (same_tokens (entity_tokens own es) (then outside (then begun (then whole (then finished (then wired ended))))))

-- ---- the whole text

pub no_text_before : (old new : Written) (before : List ℕ) (ts : List Token) → old.before ≡ before → before ≡ [] → Appends old new ts → new.before ≡ []
no_text_before old new before ts is none h = h.before ∙ is ∙ none

pub only_these : (old new : Written) (ts : List Token) → old.tokens ≡ [] → Appends old new ts → new.tokens ≡ ts
only_these old new ts none h = h.tokens ∙ ap (λ (us : List Token). us ++ ts) none
