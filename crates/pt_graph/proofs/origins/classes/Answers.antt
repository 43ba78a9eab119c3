use Rattle.std.proofs.Common.{◌≡◌, ℕ, List, length, sym, subst, ◌∙◌, arith, Vec, Global}
use Rattle.std.proofs.lemmas.List.{length-map}
use Rattle.pt_survey.specs.declared.tables.PlacedRelation.{PlacedRelation}
use Rattle.pt_survey.specs.Survey.{tables_view, relation_at, relations_view}
use Rattle.pt_graph.specs.Origins.{ways}
use Rattle.pt_graph.proofs.GroupSteps.{AreEnds}
use Rattle.pt_graph.proofs.WayFacts.{ways_below}
use Rattle.pt_graph.proofs.origins.classes.Goals as goal

count_of : (relations : Vec PlacedRelation Global) (n : ℕ) → n ≡ relations.len → n ≡ length (relations_view relations.items)
count_of relations n e = omega (arith, length-map relations.items relation_at, relations.ok.0)

ends_of : (n m : ℕ) (xs ys : List (ℕ × ℕ)) → n ≡ m → xs ≡ ys → AreEnds m ys → AreEnds n xs
ends_of n m xs ys e f all = subst (λ k. AreEnds k xs) (sym e) (subst (λ zs. AreEnds m zs) (sym f) all)

pub group-class-requires : goal.group-class-requires
group-class-requires c =
    let t = tables_view c.args.wiring.now.tables.now in
    record { ends = ends_of c.len.result (length t.relations) c.deref.result.now (ways t) (count_of c.args.wiring.now.tables.now.relations c.len.result c.len.ensures) (c.deref.ensures.value ∙ c.in_ok-ways.ensures) (ways_below t c.requires.wiring.owned c.requires.fine c.requires.wiring.within) }
