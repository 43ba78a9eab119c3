use Rattle.std.proofs.Common.{◌<◌, length, ap, ◌∙◌, arith, refl, length-set}
use Rattle.pt_recv.proofs.LineLaws.{lists-step, rest-step}
use Rattle.pt_recv.specs.Lines.{list_at, spare_at}
use Rattle.pt_sdf_parts.proofs.Lists.{spare-lowered, spare-other}
use Rattle.pt_sdf_parts.proofs.scattering.put_all.Goals as goal

pub put-requires-clause-given : goal.put-requires-clause-given
put-requires-clause-given c = omega (arith, c.requires.given, ap (λ v. length v) c.loop-token.invariant.lists, length-set c.args.channels.now.lists c.args.c (list_at c.loop-token.channels.lists c.args.c))

pub put-requires-clause-spare : goal.put-requires-clause-spare
put-requires-clause-spare c = omega (arith, c.loop-token.invariant.room, ap (λ v. length v) c.in-Some.ensures.steps)

pub loop-token-preserved : goal.loop-token-preserved
loop-token-preserved c = record {
  lists = lists-step _ _ _ _ c.requires.given c.loop-token.invariant.lists _ c.put.ensures.lists;
  rest = rest-step _ _ _ _ c.requires.given c.loop-token.invariant.lists _ _ _ _ _ refl c.in-Some.ensures.steps c.loop-token.invariant.rest c.put.ensures.lists;
  room =
      let some : 0 < spare_at c.loop-token.channels.spares c.args.c = omega (arith, c.loop-token.invariant.room, ap (λ v. length v) c.in-Some.ensures.steps) in
      omega (arith, c.loop-token.invariant.room, ap (λ v. length v) c.in-Some.ensures.steps, ap (λ v. spare_at v c.args.c) c.put.ensures.spares, spare-lowered c.loop-token.channels.spares c.args.c some);
  others = λ d h. ap (λ v. spare_at v d) c.put.ensures.spares ∙ spare-other c.loop-token.channels.spares c.args.c d h ∙ c.loop-token.invariant.others d h;
}
