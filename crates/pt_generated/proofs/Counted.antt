-- A generated job has few entities, and its document doesn't nest deep.
use Rattle.std.proofs.Common.{◌≡◌, ℕ, zero, suc, ◌+◌, ◌/◌, ◌%◌, ◌==◌, ◌≤◌, max, List, [], ◌∷◌, ◌++◌, Bool, true, false, cond, refl, ap, map, arith}
use Rattle.std.specs.List.{AllByRecursion, range_with_len}
use Rattle.std.proofs.lemmas.Bool.{eqb-true}
use Rattle.pt_document.specs.declared.job.Relation.{Relation}
use Rattle.pt_document.specs.declared.job.Link.{Link}
use Rattle.pt_document.specs.declared.job.Link.TheVariants.{Port, Relations}
use Rattle.pt_document.specs.Document.{EntityTree, to_entities}
use Rattle.pt_moml.specs.Limits.{count, levels}
use Rattle.pt_write.specs.Written.{Value, depth, items_depth, slot_depth}
use Rattle.pt_write.specs.Document.{values, optional_list, entity_value, entity_values, relation_value, link_value, document}
use Rattle.pt_write.specs.Form.{nest_of, nest_of_all}
use Rattle.pt_write.proofs.Standing.{optional_list_depth}
use Rattle.pt_gen.specs.Generated.{source, sink, scale, stage, stage_name, composite_stage, stages, relations, links, top, generated}
use Rattle.pt_generated.proofs.Numbered.{all_of_range}

-- ---- how many they are

-- one more entity, where the number is one of each ten
stage_count : (i : ℕ) → count (nest_of (stage i)) + (i + 9) / 10 ≤ ((i + 1) + 9) / 10
stage_count i = chosen (i % 10 == 0) refl
  where
    chosen : (b : Bool) → (i % 10 == 0) ≡ b → count (nest_of (cond b (composite_stage i) (scale (stage_name i) i))) + (i + 9) / 10 ≤ ((i + 1) + 9) / 10
    chosen true is =
        let whole : i % 10 ≡ 0 = eqb-true (i % 10) 0 is in
        let one : count (nest_of (composite_stage i)) ≡ 1 = refl in
        omega (arith, whole, one)
    chosen false is = let none : count (nest_of (scale (stage_name i) i)) ≡ 0 = refl in omega (arith, none)

stages_count : (a n m : ℕ) (rest : List EntityTree) → a + n ≡ m → count (nest_of_all (to_entities (map stage (range_with_len a n) ++ rest))) + (a + 9) / 10 ≤ (n + (m + 9) / 10) + count (nest_of_all (to_entities rest))
stages_count a zero m rest e =
    let all : a ≡ m = omega (arith, e) in
    let same : (a + 9) / 10 ≡ (m + 9) / 10 = ap (λ (k : ℕ). (k + 9) / 10) all in
    omega (arith, same)
stages_count a (suc n) m rest e =
    let more : count (nest_of_all (to_entities (map stage (range_with_len a (suc n)) ++ rest))) ≡ (1 + count (nest_of (stage a))) + count (nest_of_all (to_entities (map stage (range_with_len (a + 1) n) ++ rest))) = refl in
    omega (arith, more, stage_count a, stages_count (a + 1) n m rest (omega (arith, e)))

pub few_entities : (n : ℕ) → n ≤ 9000 → count (nest_of_all (to_entities (source ∷ (stages n ++ sink ∷ [])))) ≤ 9902
few_entities n few =
    let all : count (nest_of_all (to_entities (source ∷ (stages n ++ sink ∷ [])))) ≡ 1 + count (nest_of_all (to_entities (stages n ++ sink ∷ []))) = refl in
    let last : count (nest_of_all (to_entities (sink ∷ []))) ≡ 1 = refl in
    let first : (1 + 9) / 10 ≡ 1 = refl in
    let tens : ((1 + n) + 9) / 10 ≤ 901 = omega (arith, few) in
    omega (arith, few, all, last, first, tens, stages_count 1 n (1 + n) (sink ∷ []) refl)

-- ---- how deep they nest

levels_of : (es : List EntityTree) → AllByRecursion (λ e. levels (nest_of e) ≤ 1) es → levels (nest_of_all (to_entities es)) ≤ 2
levels_of [] h = let none : levels (nest_of_all (to_entities [])) ≡ 0 = refl in omega (arith, none)
levels_of (e ∷ es) h =
    let more : levels (nest_of_all (to_entities (e ∷ es))) ≡ max (1 + levels (nest_of e)) (levels (nest_of_all (to_entities es))) = refl in
    omega (arith, more, h.0, levels_of es h.1)

stage_levels : (i : ℕ) → levels (nest_of (stage i)) ≤ 1
stage_levels i = chosen (i % 10 == 0)
  where
    chosen : (b : Bool) → levels (nest_of (cond b (composite_stage i) (scale (stage_name i) i))) ≤ 1
    chosen true = let is : levels (nest_of (composite_stage i)) ≡ 1 = refl in omega (arith, is)
    chosen false = let is : levels (nest_of (scale (stage_name i) i)) ≡ 0 = refl in omega (arith, is)

pub few_levels : (n : ℕ) → n ≤ 9000 → levels (nest_of_all (to_entities (source ∷ (stages n ++ sink ∷ [])))) ≤ 2
few_levels n few =
    let first : levels (nest_of source) ≡ 0 = refl in
    let last : levels (nest_of sink) ≡ 0 = refl in
    levels_of (source ∷ (stages n ++ sink ∷ []))
    (omega (arith, first), all_of_range stage (λ e. levels (nest_of e) ≤ 1) 1 n 9000 (sink ∷ []) (omega (arith, few)) (λ i _. stage_levels i) (omega (arith, last), tt))

-- ---- how deep the document nests

items_of : {A : Type 0} (value : A → Value) (k : ℕ) (xs : List A) → ((x : A) → depth (value x) ≤ k) → items_depth (values value xs) ≤ k
items_of value k [] each = let none : items_depth (values value []) ≡ 0 = refl in omega (arith, none)
items_of value k (x ∷ xs) each =
    let more : items_depth (values value (x ∷ xs)) ≡ max (depth (value x)) (items_depth (values value xs)) = refl in
    omega (arith, more, each x, items_of value k xs each)

entities_depth : (k : ℕ) (es : List EntityTree) → AllByRecursion (λ e. depth (entity_value e) ≤ k) es → items_depth (entity_values (to_entities es)) ≤ k
entities_depth k [] h = let none : items_depth (entity_values (to_entities [])) ≡ 0 = refl in omega (arith, none)
entities_depth k (e ∷ es) h =
    let more : items_depth (entity_values (to_entities (e ∷ es))) ≡ max (depth (entity_value e)) (items_depth (entity_values (to_entities es))) = refl in
    omega (arith, more, h.0, entities_depth k es h.1)

relation_depth : (r : Relation) → depth (relation_value r) ≤ 1
relation_depth r = let e : depth (relation_value r) ≡ 1 = refl in omega (arith, e)

link_depth : (l : Link) → depth (link_value l) ≤ 1
link_depth (Port p r) = let e : depth (link_value (Port p r)) ≡ 1 = refl in omega (arith, e)
link_depth (Relations r s) = let e : depth (link_value (Relations r s)) ≡ 1 = refl in omega (arith, e)

stage_depth : (i : ℕ) → depth (entity_value (stage i)) ≤ 5
stage_depth i = chosen (i % 10 == 0)
  where
    chosen : (b : Bool) → depth (entity_value (cond b (composite_stage i) (scale (stage_name i) i))) ≤ 5
    chosen true = let e : depth (entity_value (composite_stage i)) ≡ 5 = refl in omega (arith, e)
    chosen false = let e : depth (entity_value (scale (stage_name i) i)) ≡ 3 = refl in omega (arith, e)

inside_depth : (n : ℕ) → n ≤ 9000 → items_depth (entity_values (to_entities (source ∷ (stages n ++ sink ∷ [])))) ≤ 5
inside_depth n few =
    let first : depth (entity_value source) ≡ 3 = refl in
    let last : depth (entity_value sink) ≡ 1 = refl in
    entities_depth 5 (source ∷ (stages n ++ sink ∷ []))
    (omega (arith, first), all_of_range stage (λ e. depth (entity_value e) ≤ 5) 1 n 9000 (sink ∷ []) (omega (arith, few)) (λ i _. stage_depth i) (omega (arith, last), tt))

top_depth : (n : ℕ) → n ≤ 9000 → depth (entity_value (top n)) ≤ 8
top_depth n few =
    let entities = entity_values (to_entities (source ∷ (stages n ++ sink ∷ []))) in
    let rs = values relation_value (relations n) in
    let ls = values link_value (links n) in
    let is : depth (entity_value (top n)) ≡ suc (max 0 (max 0 (max 2 (max 0 (max (suc (items_depth entities)) (max (slot_depth (optional_list rs)) (max (slot_depth (optional_list ls)) 0))))))) = refl in
    omega (arith, is, inside_depth n few, optional_list_depth rs, optional_list_depth ls, items_of relation_value 1 (relations n) relation_depth, items_of link_value 1 (links n) link_depth)

pub document_depth : (n : ℕ) → n ≤ 9000 → depth (document (generated n)) ≤ 127
document_depth n few =
    let is : depth (document (generated n)) ≡ suc (max 0 (max (depth (entity_value (top n))) (max 0 1))) = refl in
    omega (arith, is, top_depth n few)
