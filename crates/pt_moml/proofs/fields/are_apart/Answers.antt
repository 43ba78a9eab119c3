use Rattle.std.proofs.Common.{◌≡◌, [], take, false, sym, ap, ◌∙◌}
use Rattle.pt_document.specs.Names.{has_name, are_distinct_after}
use Rattle.pt_moml.proofs.Apart.{still_apart}
use Rattle.pt_moml.proofs.fields.are_apart.Goals as goal

pub loop-place-preserved : goal.loop-place-preserved
loop-place-preserved g c =
    let fresh : has_name (g.T.Named.names (take c.loop-place.place c.args.parts.now)) (g.T.Named.name c.index-parts-place.result) ≡ false = sym (ap (has_name (g.T.Named.names (take c.loop-place.place c.args.parts.now))) c.name.ensures) ∙ sym c.has_name.ensures ∙ c.if-has_name.false in
    still_apart _ g.T.Named.name g.T.Named.names g.met.T.Named.of_none g.met.T.Named.of_more c.args.parts.now c.loop-place.place c.index-parts-place.result (are_distinct_after [] (g.T.Named.names c.args.parts.now)) c.loop-place-test.true c.index-parts-place.is fresh c.loop-place.invariant
