use Rattle.std.proofs.Common.{◌≡◌, ◌+◌, ◌++◌, ap, ◌∙◌, drop}
use Rattle.std.specs.Prelude.{slice_get}
use Rattle.pt_document.specs.View.{property_view, properties_view}
use Rattle.pt_start.specs.Started.{own_tokens}
use Rattle.pt_start.specs.Own.{own_token}
use Rattle.pt_start.proofs.Loops.{get-is}
use Rattle.pt_start.proofs.Tokens.{own-step, put-some}
use Rattle.pt_start.proofs.given.own_tokens.Goals as goal

pub loop-number-preserved : goal.loop-number-preserved
loop-number-preserved c =
    let ps = c.args.properties.now in
    let vs = c.args.values.now in
    let i = c.loop-number.number in
    let p = c.index-properties-number.result in
    let put : c.add_own.new.tokens.items ≡ c.loop-number.tokens.items ++ own_token (property_view p) (slice_get vs i) =
    c.in_ok-add_own.ensures ∙ ap (λ o. c.loop-number.tokens.items ++ own_token (property_view p) o) (get-is vs i c.get.result c.get.ensures.lookup) in
    put-some c.loop-number.tokens.items c.add_own.new.tokens.items (own_token (property_view p) (slice_get vs i))
    (own_tokens (properties_view (drop i ps)) (drop i vs)) (own_tokens (properties_view (drop (i + 1) ps)) (drop (i + 1) vs)) (own_tokens (properties_view ps) vs)
    put (own-step ps vs i p c.loop-number-test.true c.index-properties-number.is) c.loop-number.invariant
