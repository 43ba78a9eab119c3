use Rattle.std.proofs.Common.{take, ◌∙◌}
use Rattle.pt_meaning.specs.Basics.{with_tag}
use Rattle.pt_past.proofs.RecordedLaws.{noted-more, first-stay}
use Rattle.pt_past.proofs.recorded.note_all.Goals as goal

pub loop-token-preserved : goal.loop-token-preserved
loop-token-preserved c =
    c.in_ok-push.ensures.pushed ∙ noted-more c.args.noted.now c.loop-token.noted c.args.tag c.args.tokens.now c.loop-token.token-index c.token-item.result c.in_ok-copy.field-0 c.loop-token.invariant c.loop-token-test.true c.token-item.is c.in_ok-copy.ensures.value

pub returns-in_err-push-clause-before : goal.returns-in_err-push-clause-before
returns-in_err-push-clause-before c =
    first-stay c.args.noted.now (with_tag c.args.tag (take c.loop-token.token-index c.args.tokens.now)) c.loop-token.noted c.push.new.self c.loop-token.invariant c.push.ensures.before
