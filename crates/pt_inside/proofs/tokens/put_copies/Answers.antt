use Rattle.std.proofs.Common.{ap, ◌∙◌, arith, get_or}
use Rattle.pt_inside.proofs.LoopLaws.{put-more, lowered-at}
use Rattle.pt_inside.proofs.tokens.put_copies.Goals as goal

pub loop-token-preserved : goal.loop-token-preserved
loop-token-preserved c = record {
  lists = c.put.ensures.lists ∙ put-more c.args.channels.now.lists c.loop-token.channels.lists c.args.channel c.args.tokens.now c.loop-token.token-index c.token-item.result c.in_ok-token.token c.requires c.loop-token.invariant.lists c.loop-token-test.true c.token-item.is c.in_ok-token.ensures.value;
  spare = omega (arith, c.loop-token.invariant.spare, c.loop-token-test.true, ap (λ v. get_or v c.args.channel 0) c.put.ensures.spares, lowered-at c.loop-token.channels.spares c.args.channel);
}
