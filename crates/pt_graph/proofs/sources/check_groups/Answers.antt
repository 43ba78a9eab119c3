use Rattle.std.proofs.Common.{◌≡◌, ℕ, ◌<◌, false, List, length, sym, ap, subst, ◌∙◌, arith, Vec, Global}
use Rattle.std.proofs.lemmas.List.{length-map}
use Rattle.std.proofs.lemmas.Option.{MatchOption-at_some, MatchOption-at_none}
use Rattle.std.specs.List.{All, filter_map}
use Rattle.pt_document.specs.declared.code.Code.TheVariants as code
use Rattle.pt_survey.specs.declared.tables.PlacedRelation.{PlacedRelation}
use Rattle.pt_net.specs.Joined.{IsGrouping}
use Rattle.pt_net.specs.Table.{relation_path}
use Rattle.pt_survey.specs.Survey.{tables_view, relation_at, relations_view}
use Rattle.pt_net.specs.Net.{wires}
use Rattle.pt_graph.specs.Sources.{bond_of, HasOneGiver, HasTwoGivers}
use Rattle.pt_net.specs.Stands.{IsTwoSources}
use Rattle.pt_links.proofs.Told.{told, number_view}
use Rattle.pt_graph.proofs.GiftFacts.{AreEnds, bonds_below, gifts_below, two_below, one_source, two_sources}
use Rattle.pt_graph.proofs.sources.check_groups.Goals as goal

count_of : (relations : Vec PlacedRelation Global) (n : ℕ) → n ≡ relations.len → n ≡ length (relations_view relations.items)
count_of relations n e = omega (arith, length-map relations.items relation_at, relations.ok.0)

ends_of : (n m : ℕ) (xs ys : List (ℕ × ℕ)) → n ≡ m → xs ≡ ys → AreEnds m ys → AreEnds n xs
ends_of n m xs ys e f all = subst (λ k. AreEnds k xs) (sym e) (subst (λ zs. AreEnds m zs) (sym f) all)

grouping_of : (n m : ℕ) (xs ys : List (ℕ × ℕ)) (gs hs : List ℕ) → n ≡ m → xs ≡ ys → hs ≡ gs → IsGrouping n xs gs → IsGrouping m ys hs
grouping_of n m xs ys gs hs e f g k = subst (λ zs. IsGrouping m ys zs) (sym g) (subst (λ zs. IsGrouping m zs gs) f (subst (λ j. IsGrouping j xs gs) e k))

pub group-requires : goal.group-requires
group-requires c =
    let t = tables_view c.args.wiring.now.tables.now in
    record { ends = ends_of c.len.result (length t.relations) c.deref-2.result.now (filter_map bond_of (wires t)) (count_of c.args.wiring.now.tables.now.relations c.len.result c.len.ensures) (c.deref-2.ensures.value ∙ c.in_ok-bonds.ensures ∙ ap (filter_map bond_of) (c.deref.ensures.value ∙ c.requires.wires_are)) (bonds_below (length t.ports) (length t.relations) (wires t) c.requires.within) }

pub doubly_given-requires-clause-relations : goal.doubly_given-requires-clause-relations
doubly_given-requires-clause-relations c =
    let t = tables_view c.args.wiring.now.tables.now in
    let n = count_of c.args.wiring.now.tables.now.relations c.len.result c.len.ensures in
    let size : length c.deref-3.result.now ≡ length t.relations = ap (λ gs. length gs) c.deref-3.ensures.value ∙ c.in_ok-group.ensures.each ∙ n in
    subst (λ k. All (λ gift. gift.1 < k) c.deref-4.result.now) (sym size) (subst (λ gs. All (λ gift. gift.1 < length t.relations) gs) (sym (c.deref-4.ensures.value ∙ c.in_ok-gifts.ensures)) (gifts_below t c.requires.within false))

pub index-requires : goal.index-requires
index-requires c =
    let t = tables_view c.args.wiring.now.tables.now in
    let two = MatchOption-at_some _ _ c.in-Some.relation c.in-Some.is c.in_ok-relation.ensures in
    let r = two_below t c.requires.within c.deref-3.result.now c.in-Some.relation (subst (λ gs. HasTwoGivers c.deref-3.result.now gs c.in-Some.relation) (c.deref-4.ensures.value ∙ c.in_ok-gifts.ensures) two) in
    omega (arith, r, length-map c.args.wiring.now.tables.now.relations.items relation_at, c.args.wiring.now.tables.now.relations.ok.0)

pub returns-in-Some-clause-told : goal.returns-in-Some-clause-told
returns-in-Some-clause-told c =
    let t = tables_view c.args.wiring.now.tables.now in
    let items = c.args.wiring.now.tables.now.relations.items in
    let number = c.in-Some.relation in
    let two = subst (λ gs. HasTwoGivers c.deref-3.result.now gs number) (c.deref-4.ensures.value ∙ c.in_ok-gifts.ensures) (MatchOption-at_some _ _ number c.in-Some.is c.in_ok-relation.ensures) in
    let below = two_below t c.requires.within c.deref-3.result.now number two in
    let is = number_view relation_at items number c.index.result.now (omega (arith, below, length-map items relation_at)) c.index.ensures in
    told c.refused_relation.result code.TwoSources (relation_path (relation_at c.index.result.now)) (IsTwoSources t) c.refused_relation.ensures
    (two_sources t c.requires.within c.deref-3.result.now (grouping_of c.len.result (length t.relations) c.deref-2.result.now (filter_map bond_of (wires t)) c.in_ok-group.group.items c.deref-3.result.now (count_of c.args.wiring.now.tables.now.relations c.len.result c.len.ensures) (c.deref-2.ensures.value ∙ c.in_ok-bonds.ensures ∙ ap (filter_map bond_of) (c.deref.ensures.value ∙ c.requires.wires_are)) c.deref-3.ensures.value c.in_ok-group.ensures) number (relation_at c.index.result.now) is two)

pub returns-clause-ok : goal.returns-clause-ok
returns-clause-ok c =
    let t = tables_view c.args.wiring.now.tables.now in
    let one = MatchOption-at_none _ _ c.in-None.is c.in_ok-relation.ensures in
    one_source t c.requires.within c.deref-3.result.now (grouping_of c.len.result (length t.relations) c.deref-2.result.now (filter_map bond_of (wires t)) c.in_ok-group.group.items c.deref-3.result.now (count_of c.args.wiring.now.tables.now.relations c.len.result c.len.ensures) (c.deref-2.ensures.value ∙ c.in_ok-bonds.ensures ∙ ap (filter_map bond_of) (c.deref.ensures.value ∙ c.requires.wires_are)) c.deref-3.ensures.value c.in_ok-group.ensures)
    (subst (λ gs. HasOneGiver c.deref-3.result.now gs) (c.deref-4.ensures.value ∙ c.in_ok-gifts.ensures) one)
