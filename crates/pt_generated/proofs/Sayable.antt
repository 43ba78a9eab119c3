-- A document says each generated job.
use Rattle.std.proofs.Common.{◌≡◌, ℕ, zero, suc, ◌+◌, ◌≤◌, List, [], ◌∷◌, ◌++◌, Bool, true, false, cond, ◌&&◌, ◌||◌, nat_le, refl, sym, ap, ap₂, ◌∙◌, subst, codes, map, decimal, bytes_eq, arith, append-nil}
use Rattle.std.specs.List.{AllByRecursion, range_with_len}
use Rattle.std.proofs.lemmas.Bool.{false_from_ne_true, le-leb}
use Rattle.std.proofs.lemmas.List.{map-append}
use Rattle.std.proofs.lemmas.Slice.Eq.{bytes_eq-Decides}
use Rattle.pt_document.specs.declared.job.Relation.{Relation}
use Rattle.pt_document.specs.Document.{EntityTree, entity_name, entity_list, to_entities}
use Rattle.pt_document.specs.Classes.{Composite, kind_of, director_row, directors}
use Rattle.pt_document.specs.Names.{is_name, is_layout, has_name, are_distinct, are_distinct_after, top_path}
use Rattle.pt_document.proofs.Trees.{entity_list_of}
use Rattle.pt_moml.specs.Forms.{keys}
use Rattle.pt_moml.specs.Forms as forms
use Rattle.pt_moml.specs.Limits.{count, levels}
use Rattle.pt_moml.specs.Rules.{parts_fit, parameters_fit, parameter_fits, parameter_given, composite_property, property_director, director_at, port_fits, value_fits}
use Rattle.pt_write.specs.Document.{values, optional_list, relation_value, link_value}
use Rattle.pt_write.specs.Form.{Differ, IsRelation, IsEntity, nest_of_all, IsSayable}
use Rattle.pt_gen.specs.Generated.{source, sink, stage, stages, relation_name, relations, links, top, generated}
use Rattle.pt_generated.proofs.Numbered.{lettered, row, row_is_new, not_in_row, no_number, all_of_range}
use Rattle.pt_generated.proofs.Entities.{slot_among, all_in, stage_is_in, IsIn, source_is_in, sink_is_in, stage_named}
use Rattle.pt_generated.proofs.Counted.{few_entities, few_levels, document_depth}

-- ---- names that differ

names_of_stages : (a n : ℕ) → map entity_name (map stage (range_with_len a n)) ≡ row 115 a n
names_of_stages a zero = refl
names_of_stages a (suc n) = ap₂ (λ (s : List ℕ) (ss : List (List ℕ)). s ∷ ss) (stage_named a) (names_of_stages (a + 1) n)

abbrev inside : ℕ → List EntityTree
inside n = source ∷ (stages n ++ sink ∷ [])

names_inside : (n : ℕ) → map entity_name (inside n) ≡ codes "src" ∷ (row 115 1 n ++ codes "sink" ∷ [])
names_inside n =
    ap (λ (ns : List (List ℕ)). codes "src" ∷ ns) (map-append entity_name (stages n) (sink ∷ []) ∙ ap (λ (ns : List (List ℕ)). ns ++ codes "sink" ∷ []) (names_of_stages 1 n))

src_is_new : (i : ℕ) → 1 ≤ i → i ≤ 9000 → has_name (codes "src" ∷ []) (115 ∷ decimal i) ≡ false
src_is_new i some few =
    let e : bytes_eq (115 ∷ decimal i) (codes "src") ≡ false = false_from_ne_true (bytes_eq (115 ∷ decimal i) (codes "src")) (λ t.
    let same : 115 ∷ decimal i ≡ codes "src" = (bytes_eq-Decides (115 ∷ decimal i) (codes "src")).0 t in
    let back : bytes_eq (codes "src") (115 ∷ decimal i) ≡ true = (bytes_eq-Decides (codes "src") (115 ∷ decimal i)).1 (sym same) in
    let never : false ≡ true = sym (no_number 115 114 (codes "c") i (omega arith) few) ∙ back in
    cc) in
    ap (λ (b : Bool). b || false) e

sink_is_new : (n : ℕ) → n ≤ 9000 → has_name (codes "src" ∷ row 115 1 n) (codes "sink") ≡ false
sink_is_new n few = not_in_row (codes "sink") 115 1 n (omega (arith, few)) (λ i small. no_number 115 105 (codes "nk") i (omega arith) small)

sink_is_last : (n : ℕ) → n ≤ 9000 → are_distinct_after (codes "src" ∷ row 115 1 n) (codes "sink" ∷ []) ≡ true
sink_is_last n few = ap (λ (b : Bool). cond b false true) (sink_is_new n few)

entities_differ : (n : ℕ) → n ≤ 9000 → Differ entity_name (entity_list (to_entities (inside n)))
entities_differ n few =
    ap (λ (es : List EntityTree). are_distinct (map entity_name es)) (entity_list_of (inside n)) ∙ ap are_distinct (names_inside n)
    ∙ row_is_new 115 1 n (codes "src" ∷ []) (codes "sink" ∷ []) (omega (arith, few)) src_is_new (sink_is_last n few)

names_of_relations : (a n : ℕ) → map (λ (r : Relation). r.name) (map (λ i. record { name = relation_name i }) (range_with_len a n)) ≡ row 114 a n
names_of_relations a zero = refl
names_of_relations a (suc n) = ap (λ (ss : List (List ℕ)). relation_name a ∷ ss) (names_of_relations (a + 1) n)

relations_differ : (n : ℕ) → n ≤ 9000 → Differ (λ (r : Relation). r.name) (relations n)
relations_differ n few =
    ap are_distinct (names_of_relations 0 (n + 1) ∙ sym (append-nil (row 114 0 (n + 1)))) ∙ row_is_new 114 0 (n + 1) [] [] (omega (arith, few)) (λ i from to. refl) refl

-- ---- the top

relations_named : (n : ℕ) → n ≤ 9000 → AllByRecursion IsRelation (relations n)
unfolding is_name
relations_named n few =
    subst (AllByRecursion IsRelation) (append-nil (relations n)) (all_of_range (λ i. record { name = relation_name i }) IsRelation 0 (n + 1) 9000 [] (omega (arith, few)) (λ i small. lettered 114 i refl small) tt)

top_is : (n : ℕ) → n ≤ 9000 → IsEntity top_path (top n)
unfolding kind_of is_name is_layout director_row directors parts_fit parameters_fit parameter_fits parameter_given composite_property property_director director_at port_fits value_fits
top_is n few = (
  record {
    kind = Composite;
    class = refl;
    fields = (
      refl,
      (
        refl,
        (
          refl,
          (
            tt,
            (
              refl,
              (
                slot_among (keys (forms.entity Composite)) (codes "relations") (optional_list (values relation_value (relations n))) refl,
                (slot_among (keys (forms.entity Composite)) (codes "links") (optional_list (values link_value (links n))) refl, (tt, (tt, (tt, tt)))),
              ),
            ),
          ),
        ),
      ),
    );
    properties = ((refl, refl, tt), tt);
    properties_differ = refl;
    ports = tt;
    ports_differ = refl;
    relations = relations_named n few;
    relations_differ = relations_differ n few;
    states = tt;
    states_differ = refl;
    machine = (refl, refl);
    fit = refl;
  },
  entities_differ n few,
  all_in top_path (inside n) (source_is_in, all_of_range stage (IsIn top_path) 1 n 9000 (sink ∷ []) (omega (arith, few)) stage_is_in (sink_is_in, tt)),
)

within : (m k : ℕ) → m ≤ 9902 → k ≤ 2 → (nat_le (1 + m) 10000 && nat_le (1 + k) 16) ≡ true
within m k few flat = ap₂ (λ (a b : Bool). a && b) (le-leb (1 + m) 10000 (omega (arith, few))) (le-leb (1 + k) 16 (omega (arith, flat)))

-- ---- the job

top_named : is_name (codes "gen") ≡ true
unfolding is_name
top_named = refl

pub generated_is_sayable : (n : ℕ) → n ≤ 9000 → IsSayable (generated n)
generated_is_sayable n few = record {
  name = top_named;
  model = top_is n few;
  within = within (count (nest_of_all (to_entities (inside n)))) (levels (nest_of_all (to_entities (inside n)))) (few_entities n few) (few_levels n few);
  inputs = tt;
  shallow = document_depth n few;
}
