-- Entities of the program and of the document.
use Rattle.std.proofs.Common.{◌≡◌, ℕ, ◌+◌, ◌<◌, ◌≤◌, List, [], ◌∷◌, ◌++◌, length, get_or, drop, sym, ap, ◌∙◌, rules}
use Rattle.std.proofs.lemmas.List.{drop_more, drop_all}
use Rattle.pt_document.specs.declared.job.Entity.{Entity, out-Entity, the_lemmas}
use Rattle.pt_document.specs.Document.{EntityTree, entity, entity_name, parts, to_entities}
use Rattle.pt_document.specs.View.{entity_view, entities_view}
use Rattle.pt_document.specs.Names.{below}
use Rattle.pt_net.specs.Standing.{Round, Standing, standing, round_in, with_entity, with_entities}

pub name-view : (e : Entity) → entity_name (entity_view e) ≡ (out-Entity e).name
name-view e = search (rules, the_lemmas)

pub class-view : (e : Entity) → (parts (entity_view e)).class ≡ (out-Entity e).class
class-view e = search (rules, the_lemmas)

pub entity-view : (e : Entity) → entity_view e ≡ entity (parts (entity_view e)) (to_entities (entities_view (out-Entity e).entities.items))
entity-view e = search (rules, the_lemmas)

pub with_next : (before : List Standing) (round : Round) (path : List ℕ) (es : List Entity) (i : ℕ) (d : Entity) → i < length es → with_entities before round path (to_entities (entities_view (drop i es))) ≡ with_entities (with_entity before round (below path (out-Entity (get_or es i d)).name) (entity_view (get_or es i d))) round path (to_entities (entities_view (drop (i + 1) es)))
unfolding with_entity
with_next before round path es i d within =
    ap (λ (rest : List Entity). with_entities before round path (to_entities (entities_view rest))) (drop_more es i d within)
    ∙ ap (λ (name : List ℕ). with_entities (with_entity before round (below path name) (entity_view (get_or es i d))) round path (to_entities (entities_view (drop (i + 1) es)))) (name-view (get_or es i d))

pub with_all : (before : List Standing) (round : Round) (path : List ℕ) (e : Entity) → with_entity before round path (entity_view e) ≡ with_entities (before ++ standing before round path (entity_view e) ∷ []) (round_in (length before) (standing before round path (entity_view e))) path (to_entities (entities_view (out-Entity e).entities.items))
unfolding with_entity
with_all before round path e =
    ap (λ (v : EntityTree). with_entity before round path v) (entity-view e)
    ∙ sym (ap (λ (v : EntityTree). with_entities (before ++ standing before round path v ∷ []) (round_in (length before) (standing before round path v)) path (to_entities (entities_view (out-Entity e).entities.items))) (entity-view e))

-- the table once the last of the children is in it
pub with_last : (before after table : List Standing) (round inside : Round) (path : List ℕ) (e : Entity) (es : List Entity) (i : ℕ) → table ≡ before ++ standing before round path (entity_view e) ∷ [] → inside ≡ round_in (length before) (standing before round path (entity_view e)) → es ≡ (out-Entity e).entities.items → length es ≤ i → with_entities after inside path (to_entities (entities_view (drop i es))) ≡ with_entities table inside path (to_entities (entities_view es)) → after ≡ with_entity before round path (entity_view e)
unfolding with_entity
with_last before after table round inside path e es i is_table is_inside is_es whole invariant =
    sym (ap (λ (rest : List Entity). with_entities after inside path (to_entities (entities_view rest))) (drop_all i es whole))
    ∙ invariant
    ∙ ap (λ (t : List Standing). with_entities t inside path (to_entities (entities_view es))) is_table
    ∙ ap (λ (r : Round). with_entities (before ++ standing before round path (entity_view e) ∷ []) r path (to_entities (entities_view es))) is_inside
    ∙ ap (λ (xs : List Entity). with_entities (before ++ standing before round path (entity_view e) ∷ []) (round_in (length before) (standing before round path (entity_view e))) path (to_entities (entities_view xs))) is_es
    ∙ sym (with_all before round path e)

-- the table with one of the children more
pub with_child : (now next : List Standing) (round : Round) (path : List ℕ) (es : List Entity) (i : ℕ) (child : Entity) (name inside given : List ℕ) (total : List Standing) → i < length es → child ≡ get_or es i child → name ≡ (out-Entity child).name → inside ≡ below path name → given ≡ inside → next ≡ with_entity now round given (entity_view child) → with_entities now round path (to_entities (entities_view (drop i es))) ≡ total → with_entities next round path (to_entities (entities_view (drop (i + 1) es))) ≡ total
with_child now next round path es i child name inside given total within is is_name is_inside is_given is_next invariant =
    let rest = to_entities (entities_view (drop (i + 1) es)) in
    let text : given ≡ below path (out-Entity child).name = is_given ∙ is_inside ∙ ap (below path) is_name in
    ap (λ (t : List Standing). with_entities t round path rest) is_next
    ∙ ap (λ (t : List ℕ). with_entities (with_entity now round t (entity_view child)) round path rest) text
    ∙ ap (λ (e : Entity). with_entities (with_entity now round (below path (out-Entity e).name) (entity_view e)) round path rest) is
    ∙ sym (with_next now round path es i child within)
    ∙ invariant
