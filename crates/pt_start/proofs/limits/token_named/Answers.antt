use Rattle.std.proofs.Common.{◌≡◌, true, false, sym, ◌∙◌}
use Rattle.std.specs.Str.{bytes_eq}
use Rattle.pt_document.specs.Document.{property_name}
use Rattle.pt_document.specs.View.{property_view}
use Rattle.pt_start.proofs.NamedTokens.{named-step}
use Rattle.pt_start.proofs.limits.token_named.Goals as goal

pub returns-then-is_named : goal.returns-then-is_named
returns-then-is_named c =
    let p = c.index-properties-number.result in
    let test : bytes_eq (property_name (property_view p)) c.args.name.now ≡ true = sym c.is_named.ensures ∙ c.if-is_named.true in
    c.token_at.ensures ∙ sym (named-step c.args.properties.now c.args.values.now c.loop-number.number p c.args.name.now true c.loop-number-test.true c.index-properties-number.is test) ∙ c.loop-number.invariant

pub loop-number-preserved : goal.loop-number-preserved
loop-number-preserved c =
    let p = c.index-properties-number.result in
    let test : bytes_eq (property_name (property_view p)) c.args.name.now ≡ false = sym c.is_named.ensures ∙ c.if-is_named.false in
    sym (named-step c.args.properties.now c.args.values.now c.loop-number.number p c.args.name.now false c.loop-number-test.true c.index-properties-number.is test) ∙ c.loop-number.invariant
