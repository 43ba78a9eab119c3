use Rattle.std.proofs.Common.{length, ap, ◌∙◌, sym, arith, length-set}
use Rattle.pt_de_due.proofs.PutLaws.{put-nothing}
use Rattle.pt_de_due.specs.Due.{put}
use Rattle.pt_de_reaction.proofs.DeliverLaws.{put-step}
use Rattle.pt_de_reaction.proofs.gifts.put_all.Goals as goal

pub put-requires-clause-there : goal.put-requires-clause-there
put-requires-clause-there c = omega (arith, c.requires.there, c.loop-token.invariant.counted)

pub put-requires-clause-room : goal.put-requires-clause-room
put-requires-clause-room c = omega (arith, c.loop-token.invariant.room, ap (λ v. length v) c.in-Some.ensures.steps)

pub loop-token-preserved : goal.loop-token-preserved
loop-token-preserved c = record {
  lists = put-step c.loop-token.channels.lists c.put.new.self.lists c.args.channel _ _ _ c.in-Some.ensures.steps c.put.ensures.lists ∙ c.loop-token.invariant.lists;
  counted = ap (λ v. length v) c.put.ensures.lists ∙ length-set c.loop-token.channels.lists c.args.channel _ ∙ c.loop-token.invariant.counted;
  room = omega (arith, c.loop-token.invariant.room, ap (λ v. length v) c.in-Some.ensures.steps, c.put.ensures.spare);
  others = λ d h. c.put.ensures.others d h ∙ c.loop-token.invariant.others d h;
}

pub returns-clause-lists : goal.returns-clause-lists
returns-clause-lists c = sym (put-nothing c.loop-token.channels.lists c.args.channel) ∙ ap (λ v. put c.args.channel v c.loop-token.channels.lists) (sym c.in-None.ensures.steps.0) ∙ c.loop-token.invariant.lists
