-- Lists made from numbers, one number more.
use Rattle.std.proofs.Common.{◌≡◌, ℕ, ◌+◌, List, [], ◌∷◌, ◌++◌, map, flat_map, sym, ap, ap₂, ◌∙◌, arith, map-id, append-nil, append_assoc}
use Rattle.std.proofs.lemmas.List.{map_push}
use Rattle.std.proofs.lemmas.List.Concat.{flat_map-append}
use Rattle.std.proofs.lemmas.List.FromFn.{map-range_with_len_more}
use Rattle.std.specs.List.{range_with_len}
use Rattle.pt_document.specs.declared.job.Relation.{Relation}
use Rattle.pt_document.specs.declared.job.Link.{Link}
use Rattle.pt_document.specs.declared.job.Entity.{Entity}
use Rattle.pt_document.specs.Document.{EntityTree}
use Rattle.pt_document.specs.View.{entity_view, entities_view}
use Rattle.pt_gen.specs.Generated.{relation_name, joint, stage, stages}

range_more : (i : ℕ) → range_with_len 0 (i + 1) ≡ range_with_len 0 i ++ i ∷ []
range_more i = sym (map-id (range_with_len 0 (i + 1))) ∙ map-range_with_len_more (λ k. k) 0 i i (omega arith) ∙ ap (λ (ks : List ℕ). ks ++ i ∷ []) (map-id (range_with_len 0 i))

-- the links of one relation more
pub links_more : (n i : ℕ) (old new : List Link) → new ≡ old ++ joint n i → old ≡ flat_map (joint n) (range_with_len 0 i) → new ≡ flat_map (joint n) (range_with_len 0 (i + 1))
links_more n i old new pushed so_far =
    let one : flat_map (joint n) (i ∷ []) ≡ joint n i = append-nil (joint n i) in
    pushed ∙ ap (λ (ls : List Link). ls ++ joint n i) so_far ∙ sym (ap (flat_map (joint n)) (range_more i) ∙ flat_map-append (joint n) (range_with_len 0 i) (i ∷ []) ∙ ap (λ (ls : List Link). flat_map (joint n) (range_with_len 0 i) ++ ls) one)

abbrev relation : ℕ → Relation
relation i = record { name = relation_name i }

-- one relation more
pub relations_more : (i : ℕ) (name : List ℕ) (old new : List Relation) → new ≡ old ++ record { name = name } ∷ [] → name ≡ relation_name i → old ≡ map (λ k. record { name = relation_name k }) (range_with_len 0 i)
    → new ≡ map (λ k. record { name = relation_name k }) (range_with_len 0 (i + 1))
relations_more i name old new pushed is so_far =
    pushed ∙ ap₂ (λ (rs : List Relation) (s : List ℕ). rs ++ record { name = s } ∷ []) so_far is ∙ sym (map-range_with_len_more relation 0 i i (omega arith))

-- one stage more
pub stages_more : (i : ℕ) (first : List EntityTree) (old new : List Entity) (e : Entity) → new ≡ old ++ e ∷ [] → entity_view e ≡ stage (i + 1) → entities_view old ≡ first ++ stages i → entities_view new ≡ first ++ stages (i + 1)
stages_more i first old new e pushed is so_far =
    ap entities_view pushed ∙ map_push entity_view old e ∙ ap₂ (λ (es : List EntityTree) (x : EntityTree). es ++ x ∷ []) so_far is
    ∙ append_assoc first (stages i) (stage (i + 1) ∷ []) ∙ sym (ap (λ (es : List EntityTree). first ++ es) (map-range_with_len_more stage 1 i (i + 1) (omega arith)))
