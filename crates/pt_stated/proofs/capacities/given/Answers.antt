use Rattle.std.proofs.Common.{◌≡◌, map, true, false, sym, ◌∙◌}
use Rattle.std.specs.Str.{bytes_eq}
use Rattle.pt_document.specs.Document.{property_name}
use Rattle.pt_document.specs.View.{property_view}
use Rattle.pt_scopes.specs.Given.{held_view}
use Rattle.pt_scopes.proofs.Pairs.{found, passed, get-view}
use Rattle.pt_stated.proofs.capacities.given.Goals as goal

pub returns-then-is_named : goal.returns-then-is_named
returns-then-is_named c =
    let hs = map held_view c.args.values.now in
    let e : bytes_eq (property_name (property_view c.index-properties-index.result)) c.args.name.now ≡ true = sym c.is_named.ensures ∙ c.if-is_named.true in
    get-view held_view c.args.values.now c.loop-index.index c.get.result c.get.ensures.lookup
    ∙ sym (found c.args.properties.now hs c.loop-index.index c.index-properties-index.result c.args.name.now c.loop-index-test.true c.index-properties-index.is e)
    ∙ sym c.loop-index.invariant

pub loop-index-preserved : goal.loop-index-preserved
loop-index-preserved c =
    let e : bytes_eq (property_name (property_view c.index-properties-index.result)) c.args.name.now ≡ false = sym c.is_named.ensures ∙ c.if-is_named.false in
    c.loop-index.invariant ∙ passed c.args.properties.now (map held_view c.args.values.now) c.loop-index.index c.index-properties-index.result c.args.name.now c.loop-index-test.true c.index-properties-index.is e
