use Rattle.std.proofs.Common.{◌≡◌, ◌+◌, Some, map, drop, sym, ap, ◌∙◌}
use Rattle.std.proofs.Math.ListN.{drop_of_length-le}
use Rattle.pt_meaning.specs.Valuation.{known}
use Rattle.pt_firing.specs.TriState.{partial_of, if_known}
use Rattle.pt_firing.proofs.Known.{and_then, known-more, known-all, drop-item}
use Rattle.pt_firing.proofs.partial.Partial.known.Goals as goal

pub loop-state-preserved : goal.loop-state-preserved
loop-state-preserved c =
    let items = c.deref-state-items.result.now in
    let n = c.loop-state.state-index in
    let X = c.loop-state.lists.items in
    let is_known : Some c.in-Some.tokens ≡ if_known (partial_of c.state-item.result) = sym c.in-Some.is ∙ c.in_ok-tokens.ensures in
    c.loop-state.invariant
    ∙ ap (λ states. and_then X (known (map partial_of states))) (drop-item items n c.state-item.result c.loop-state-test.true c.state-item.is)
    ∙ known-more X (partial_of c.state-item.result) (map partial_of (drop (n + 1) items)) c.in-Some.tokens is_known
    ∙ ap (λ Y. and_then Y (known (map partial_of (drop (n + 1) items)))) (sym c.in_ok-push.ensures.items)

pub returns : goal.returns
returns c =
    let X = c.loop-state.lists.items in
    sym (c.loop-state.invariant ∙ ap (λ states. and_then X (known (map partial_of states))) (drop_of_length-le c.deref-state-items.result.now c.loop-state-test.false) ∙ known-all X)
