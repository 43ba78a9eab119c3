use Rattle.std.proofs.Common.{◌<◌, length, take, drop, ap, ◌∙◌, arith, length-set, length-drop, ◌++◌}
use Rattle.std.proofs.lemmas.List.{drop-drop}
use Rattle.pt_recv.specs.Lines.{list_at, spare_at}
use Rattle.pt_sdf_parts.proofs.Lists.{spare-lowered, spare-other, put-more}
use Rattle.pt_sdf_parts.proofs.scattering.unstage.Goals as goal

pub unstage_one-requires-clause-given : goal.unstage_one-requires-clause-given
unstage_one-requires-clause-given c = omega (arith, c.requires.given, ap (λ v. length v) c.loop.invariant.lists, length-set c.args.channels.now.lists c.args.c (list_at c.args.channels.now.lists c.args.c ++ take c.loop.counter c.args.staged.now.list))

pub unstage_one-requires-clause-room : goal.unstage_one-requires-clause-room
unstage_one-requires-clause-room c = omega (arith, c.loop.invariant.room, c.loop-test.true)

pub unstage_one-requires-clause-there : goal.unstage_one-requires-clause-there
unstage_one-requires-clause-there c = omega (arith, c.requires.there, c.loop-test.true, ap (λ v. length v) c.loop.invariant.staged, length-drop c.loop.counter c.args.staged.now.list)

pub loop-preserved : goal.loop-preserved
loop-preserved c = record {
  lists = put-more _ _ _ _ _ _ _ c.requires.given c.loop.invariant.lists c.loop.invariant.staged c.unstage_one.ensures.lists;
  staged = c.unstage_one.ensures.staged ∙ ap (λ v. drop 1 v) c.loop.invariant.staged ∙ drop-drop 1 c.loop.counter c.args.staged.now.list;
  room =
      let some : 0 < spare_at c.loop.channels.spares c.args.c = omega (arith, c.loop.invariant.room, c.loop-test.true) in
      omega (arith, c.loop.invariant.room, ap (λ v. spare_at v c.args.c) c.unstage_one.ensures.spares, spare-lowered c.loop.channels.spares c.args.c some);
  others = λ d h. ap (λ v. spare_at v d) c.unstage_one.ensures.spares ∙ spare-other c.loop.channels.spares c.args.c d h ∙ c.loop.invariant.others d h;
}
