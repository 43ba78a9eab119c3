use Rattle.std.proofs.Common.{[], length, replicate, ap, sym, ◌∙◌, arith, refl}
use Rattle.std.proofs.lemmas.List.{get_or_read, length-replicate}
use Rattle.pt_pn.proofs.FreshLaws.{filled-more, filled-all, filled-count}
use Rattle.pt_pn.proofs.fresh.queues_of.Goals as goal

pub loop-channel-init : goal.loop-channel-init
loop-channel-init c = record {
  lists = c.in_ok-queues.ensures.lists ∙ ap (λ n. replicate n []) (omega arith);
  spares = ap (λ v. length v) c.in_ok-queues.ensures.spares ∙ length-replicate (length c.args.first.now) 0;
}

pub fill-requires : goal.fill-requires
fill-requires c =
    let l = filled-count c.args.first.now c.loop-channel.queues.lists c.loop-channel.channel c.loop-channel-test.true c.loop-channel.invariant.lists in
    record { there = omega (arith, l, c.loop-channel-test.true); counted = c.loop-channel.invariant.spares ∙ sym l }

pub loop-channel-preserved : goal.loop-channel-preserved
loop-channel-preserved c = record {
  lists = c.in_ok-fill.ensures.lists ∙
      filled-more c.args.first.now c.loop-channel.queues.lists c.loop-channel.channel (length c.args.first.now) c.as_slice.result.now c.loop-channel-test.true refl (c.as_slice.ensures ∙ get_or_read c.args.first.now c.loop-channel.channel c.index-first-channel.result c.loop-channel-test.true c.index-first-channel.is []) c.loop-channel.invariant.lists;
  spares = c.in_ok-fill.ensures.counted ∙ c.loop-channel.invariant.spares;
}

pub returns-clause-lists : goal.returns-clause-lists
returns-clause-lists c = filled-all c.args.first.now c.loop-channel.queues.lists c.loop-channel.channel (length c.args.first.now) refl (omega (arith, c.loop-channel-test.false)) c.loop-channel.invariant.lists
