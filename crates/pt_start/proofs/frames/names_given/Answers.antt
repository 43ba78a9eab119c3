use Rattle.std.proofs.Common.{◌≡◌, ◌+◌, ◌++◌, refl, sym, ap, ap₂, ◌∙◌, drop}
use Rattle.std.specs.Prelude.{option_map, slice_get}
use Rattle.pt_document.specs.Document.{property_name}
use Rattle.pt_document.specs.View.{property_view, properties_view}
use Rattle.pt_start.specs.Started.{given_tokens}
use Rattle.pt_start.specs.Frames.{with_token, token_in}
use Rattle.pt_start.proofs.Tokens.{given-step, put-some}
use Rattle.pt_start.proofs.frames.names_given.Goals as goal

pub loop-number-preserved : goal.loop-number-preserved
loop-number-preserved c =
    let ps = c.args.properties.now in
    let vs = c.args.values.now in
    let i = c.loop-number.number in
    let p = c.index-properties-number.result in
    let inv = c.loop-number.invariant in
    let some = with_token c.name_of.result.now (option_map (λ t. t.now) c.token_at.result) in
    let more = given_tokens (properties_view (drop (i + 1) ps)) (drop (i + 1) vs) in
    let same : with_token (property_name (property_view p)) (token_in (slice_get vs i)) ≡ some = sym (ap₂ (λ n o. with_token n o) c.name_of.ensures c.token_at.ensures) in
    (inv.0 ++ some, c.in_ok-put_token.ensures inv.0 inv.1, put-some inv.0 (inv.0 ++ some) some (given_tokens (properties_view (drop i ps)) (drop i vs)) more (given_tokens (properties_view ps) vs) refl (given-step ps vs i p c.loop-number-test.true c.index-properties-number.is ∙ ap (λ z. z ++ more) same) inv.2)
