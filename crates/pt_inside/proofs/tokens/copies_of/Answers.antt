use Rattle.std.proofs.Common.{◌∙◌}
use Rattle.pt_firing.proofs.Known.{copied-one}
use Rattle.pt_inside.proofs.tokens.copies_of.Goals as goal

pub loop-token-preserved : goal.loop-token-preserved
loop-token-preserved c =
    c.in_ok-push.ensures.items ∙ copied-one c.args.tokens.now c.loop-token.copies.items c.loop-token.token-index c.in_ok-token.token c.token-item.result c.loop-token.invariant c.loop-token-test.true c.token-item.is c.in_ok-token.ensures.value
