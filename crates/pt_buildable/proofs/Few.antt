-- The net of a document within its limits has few entities and few channels.
use Rattle.std.proofs.Common.{◌≡◌, inl, inr, ◌≤◌, ◌+◌, ℕ, suc, List, [], ◌∷◌, ◌++◌, Bool, true, false, length, filter, refl, sym, ap, ◌∙◌, arith}
use Rattle.std.specs.List.{AllZip}
use Rattle.std.proofs.lemmas.Bool.{cases_order}
use Rattle.std.proofs.lemmas.List.{length-map, length-append}
use Rattle.std.proofs.lemmas.List.Sums.{length-filter, count_by-le-length}
use Rattle.pt_document.specs.Document.{EntityTree, EntityTrees, entity, no_entities, one_entity, entity_name, JobTree}
use Rattle.pt_document.specs.Names.{below, top_path}
use Rattle.pt_net.specs.declared.net.Net.{Net}
use Rattle.pt_net.specs.declared.net.NetEntity.{NetEntity}
use Rattle.pt_net.specs.Inside.{is_child, child_if, children_from, children_of, place_count, source_of, is_within, channels_in}
use Rattle.pt_net.specs.Standing.{Standing, Round, is_kept, standing, round_in, no_round, with_entity, with_entities, entities}
use Rattle.pt_net.specs.Table.{Tables, tables_of}
use Rattle.pt_net.specs.Net.{NetEntityTree, entity_view, entity_tree, IsChannelTo, all_places, IsNetOf}
use Rattle.pt_net.specs.Stands.{IsPastLimit}
use Rattle.pt_trees.specs.Trees.{Starts, around_in}
use Rattle.pt_buildable.proofs.Depths.{size_in, size_of, IsSmall}

-- ---- entities

mutual
  unfolding with_entity with_entities

  entity-size : (before : List Standing) (round : Round) (path : List ℕ) (e : EntityTree) → length (with_entity before round path e) ≡ length before + size_in e
  entity-size before round path (entity own inner) =
      let s = standing before round path (entity own inner) in
      let rest = entities-size (before ++ s ∷ []) (round_in (length before) s) path inner in
      let one = length-append before (s ∷ []) in
      rest ∙ (let e : length (before ++ s ∷ []) + size_of inner ≡ length before + (1 + size_of inner) = omega (arith, one) in e)

  entities-size : (before : List Standing) (round : Round) (path : List ℕ) (es : EntityTrees) → length (with_entities before round path es) ≡ length before + size_of es
  entities-size before round path no_entities = let e : length before ≡ length before + 0 = omega arith in e
  entities-size before round path (one_entity e es) =
      let first = entity-size before round (below path (entity_name e)) e in
      let rest = entities-size (with_entity before round (below path (entity_name e)) e) round path es in
      rest ∙ (let h : length (with_entity before round (below path (entity_name e)) e) + size_of es ≡ length before + (size_in e + size_of es) = omega (arith, first) in h)

job-size : (job : JobTree) → length (entities job) ≡ size_in job.model
unfolding entities
job-size job = entity-size [] no_round top_path job.model ∙ (let e : 0 + size_in job.model ≡ size_in job.model = omega arith in e)

net-size : (job : JobTree) (net : Net) → IsNetOf job net → IsSmall job.model → length net.entities.items ≤ 10000
net-size job net is small =
    let seen : length net.entities.items ≡ length (filter is_kept (entities job)) =
    sym (length-map net.entities.items entity_view) ∙ ap (λ (xs : List NetEntityTree). length xs) is.each_entity ∙ length-map (filter is_kept (entities job)) entity_tree in
    let kept = length-filter is_kept (entities job) in
    let some = count_by-le-length is_kept (entities job) in
    let all = job-size job in
    let size = small.size in
    omega (arith, seen, kept, some, all, size)

few-children : (c i : ℕ) (es : List NetEntity) → length (children_from c i es) ≤ length es
few-children c i [] = omega arith
few-children c i (e ∷ es) = chosen (is_child c e) (children_from c (suc i) es) (few-children c (suc i) es)
  where
    chosen : (b : Bool) (ns : List ℕ) → length ns ≤ length es → length (child_if b i ns) ≤ length (e ∷ es)
    chosen true ns h = omega (arith, h)
    chosen false ns h = omega (arith, h)

-- ---- channels

zip-length : {A B : Type 0} (R : A → B → Type 0) (xs : List A) (ys : List B) → AllZip R xs ys → length xs ≡ length ys
zip-length R [] [] h = refl
zip-length R [] (y ∷ ys) h = absurd h
zip-length R (x ∷ xs) [] h = absurd h
zip-length R (x ∷ xs) (y ∷ ys) h = ap (λ n. suc n) (zip-length R xs ys h.1)

-- a document has at most so many channels
pub few-places : (t : Tables) (records : List (List ℕ)) → ((path : List ℕ) → IsPastLimit t records path → ⊥) → length (all_places t) ≤ 100000
few-places t records within = elim (cases_order (length (all_places t)) 100000) as (λ o. length (all_places t) ≤ 100000) [
  | inl same ↦ omega (arith, same)
  | inr other ↦ elim other as (λ o. length (all_places t) ≤ 100000) [ inl less ↦ omega (arith, less) | inr more ↦ absurd (within top_path (record { many = inl more; told = refl })) ]
]

-- ---- a composite

pub few-sources : (job : JobTree) (net : Net) (starts : Starts) (k : ℕ) (e : NetEntity) → IsNetOf job net → length (all_places (tables_of job)) ≤ 100000 → length (around_in net starts k e).sources ≤ 100000
few-sources job net starts k e is within =
    let all = zip-length (IsChannelTo (tables_of job)) (all_places (tables_of job)) net.channels.items is.numbered in
    let mapped = length-map (channels_in net.channels.items k) (source_of net.entities.items) in
    let kept = length-filter (is_within k) net.channels.items in
    let some = count_by-le-length (is_within k) net.channels.items in
    omega (arith, all, mapped, kept, some, within)

pub few-kids : (job : JobTree) (net : Net) (starts : Starts) (k : ℕ) (e : NetEntity) → IsNetOf job net → IsSmall job.model → length (around_in net starts k e).places ≤ 10000
few-kids job net starts k e is small =
    let mapped = length-map (children_of net.entities.items k) (place_count net.channels.items) in
    let some = few-children k 0 net.entities.items in
    let all = net-size job net is small in
    omega (arith, mapped, some, all)
