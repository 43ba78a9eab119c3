use Rattle.std.proofs.Common.{◌≡◌, ◌<◌, None, length, get_or, sym, ap, ◌∙◌, arith}
use Rattle.std.proofs.lemmas.List.{get_or_default}
use Rattle.pt_survey.specs.Survey.{tables_view}
use Rattle.pt_graph.proofs.WayFacts.{source_is}
use Rattle.pt_graph.proofs.origins.Origins.source.Goals as goal

pub returns : goal.returns
returns c =
    let t = tables_view c.args.self.now.wiring.now.tables.now in
    let o = c.requires.origins in
    let class = c.args.self.now.class.items in
    let sources = c.args.self.now.sources.items in
    let inside : c.args.relation < length class = omega (arith, o.classes.each, c.requires.relation) in
    let e : c.index.result.now ≡ get_or class c.args.relation 0 = c.index.ensures ∙ get_or_default class c.args.relation c.index.result.now 0 inside in
    let below = o.classes.within c.args.relation 0 inside in
    let f : c.index-2.result.now ≡ get_or sources c.index.result.now None = c.index-2.ensures ∙ get_or_default sources c.index.result.now c.index-2.result.now None (omega (arith, o.origins.each, below, e)) in
    source_is t o.wiring.owned o.fine o.wiring.within class sources o.classes o.origins c.args.relation c.requires.relation c.index-2.result.now (ap (λ n. get_or sources n None) (sym e) ∙ sym f)
