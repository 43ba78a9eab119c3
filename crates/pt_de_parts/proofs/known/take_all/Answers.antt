use Rattle.std.proofs.Common.{◌+◌, [], length, drop, ap, ◌∙◌, arith, length-set}
use Rattle.pt_de_parts.proofs.KnownLaws.{given-more, rest-left}
use Rattle.pt_de_parts.proofs.known.take_all.Goals as goal

pub loop-channel-preserved : goal.loop-channel-preserved
loop-channel-preserved c = record {
  given =
      given-more c.args.channels.now.lists c.loop-channel.channels.lists c.take-line.new.self.lists c.loop-channel.lists.items c.push_reserved.new.self.items c.args.first c.loop-channel.channel c.take.result (omega (arith, c.loop-channel.auto.channel)) (omega (arith, c.loop-channel-test.true, c.requires.there))
      c.loop-channel.invariant.long c.loop-channel.invariant.given c.loop-channel.invariant.rest (c.take.ensures.taken ∙ c.take-line.ensures.taken) c.push_reserved.ensures.items;
  rest = ap (λ X. drop (c.loop-channel.channel + 1) X) c.take-line.ensures.left ∙ rest-left c.args.channels.now.lists c.loop-channel.channels.lists c.loop-channel.channel c.loop-channel.invariant.rest;
  long = ap (λ X. length X) c.take-line.ensures.left ∙ length-set c.loop-channel.channels.lists c.loop-channel.channel [] ∙ c.loop-channel.invariant.long;
  room = c.push_reserved.ensures.capacity ∙ c.loop-channel.invariant.room;
}
