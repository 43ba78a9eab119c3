use Rattle.std.proofs.Common.{get_or, below_more, rules}
use Rattle.pt_sched.proofs.Listing.{no_channel}
use Rattle.pt_sched.proofs.Steps.{filled-from, has-tokens, lacks-tokens}
use Rattle.pt_sched.proofs.search.has_tokens.Goals as goal

pub returns-then-is_short : goal.returns-then-is_short
returns-then-is_short c = λ child at. (
  (λ never. absurd (search (rules, never))),
  λ tokens. absurd (lacks-tokens c.args.channels.now (λ other. get_or c.args.fired.now other 0) child c.args.ins.now at c.loop-number.number-index c.loop-number-test.true (c.if-is_short.ensures.0 (search rules)) tokens),
)

pub loop-number-preserved : goal.loop-number-preserved
loop-number-preserved c =
    below_more _ _ c.loop-number.invariant (filled-from (λ other. get_or c.args.fired.now other 0) (get_or c.args.channels.now (get_or c.args.ins.now c.loop-number.number-index 0) no_channel) c.if-is_short.ensures.1)

pub returns : goal.returns
returns c = λ child at. (
  (λ yes. has-tokens c.args.channels.now (λ other. get_or c.args.fired.now other 0) child c.args.ins.now at c.loop-number.number-index c.loop-number-test.false c.loop-number.invariant),
  λ tokens. search rules,
)
