use Rattle.std.proofs.Common.{◌∙◌, arith}
use Rattle.pt_core.specs.Source.{source_of}
use Rattle.pt_rv.specs.Parties.{moving_in}
use Rattle.pt_rv.proofs.PassLaws.{source-there}
use Rattle.pt_rv.proofs.OfferLaws.{none-past, offered-by}
use Rattle.pt_rv.proofs.offers.is_offered.Goals as goal

pub returns-then-channel-channels : goal.returns-then-channel-channels
returns-then-channel-channels c = none-past c.args.plan.now.plan.net (moving_in c.args.parties.now) c.args.channel (omega (arith, c.if-channel-channels.true, c.channels.ensures.count))

pub source-requires : goal.source-requires
source-requires c = omega (arith, c.if-channel-channels.false, c.channels.ensures.count)

pub next_put-next-requires : goal.next_put-next-requires
next_put-next-requires c = source-there c.args.plan.now c.args.parties.now c.args.channel (source_of c.source.result) c.requires.sound c.requires.fit c.source.ensures

pub returns : goal.returns
returns c = c.is_on.ensures ∙ offered-by c.args.plan.now.plan.net (moving_in c.args.parties.now) c.args.channel (source_of c.source.result) c.next_put-next.result c.source.ensures c.next_put-next.ensures
