use Rattle.std.proofs.Common.{◌<◌, true, length, sym, subst, ◌∙◌}
use Rattle.std.specs.List.{All}
use Rattle.pt_survey.specs.Survey.{tables_view}
use Rattle.pt_graph.proofs.GiftFacts.{gifts_below}
use Rattle.pt_graph.proofs.origins.sources_of.Goals as goal

pub class_sources-sources-requires-clause-relations : goal.class_sources-sources-requires-clause-relations
class_sources-sources-requires-clause-relations c =
    let t = tables_view c.args.wiring.now.tables.now in
    subst (λ k. All (λ gift. gift.1 < k) c.deref.result.now) (sym c.requires.relations) (subst (λ gs. All (λ gift. gift.1 < length t.relations) gs) (sym (c.deref.ensures.value ∙ c.in_ok-gifts.ensures)) (gifts_below t c.requires.wiring.within true))
