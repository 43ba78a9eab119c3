use Rattle.std.proofs.Common.{ℕ, ◌+◌, ◌<◌, length, ap, ◌∙◌, arith, refl}
use Rattle.pt_pn.proofs.OutletLaws.{none-drained, one-drained, all-drained, next-list, given-more, given-all, rooms-left, more-on}
use Rattle.pt_pn.proofs.outlets.hand_out.Goals as goal

pub loop-k-init : goal.loop-k-init
loop-k-init c = record {
  counted = c.in_ok-lists.ensures.len;
  capacity = c.in_ok-lists.ensures.exact;
  rooms = c.in_ok-rooms.ensures.counted;
  have = c.in_ok-rooms.ensures.rooms;
  given = c.in_ok-lists.ensures.items;
  left = none-drained c.args.queues.now.lists c.args.from;
  spares = refl;
  more = λ d. omega arith;
}

pub drain_to-tokens-requires : goal.drain_to-tokens-requires
drain_to-tokens-requires c =
    let k : ℕ = c.loop-k.k in
    let room = c.loop-k.invariant.have k (omega arith) (omega (arith, c.loop-k-test.true, c.loop-k.invariant.rooms, c.requires.within)) in
    let same = ap (λ v. length v) (next-list c.args.queues.now.lists c.loop-k.queues.lists c.args.from k c.loop-k.invariant.left) in
    record {
      there = let l = c.loop-k.invariant.left.long in omega (arith, c.loop-k-test.true, l, c.requires.counted, c.requires.within);
      within = omega (arith, c.loop-k-test.true, c.loop-k.invariant.rooms, c.requires.within);
      empty = room.0;
      room = let r = room.1 in omega (arith, r, same);
    }

pub loop-k-preserved : goal.loop-k-preserved
loop-k-preserved c =
    let k : ℕ = c.loop-k.k in
    let h : c.args.from + k < length c.args.queues.now.lists = omega (arith, c.loop-k-test.true, c.requires.counted, c.requires.within) in
    record {
      counted = c.push_reserved.ensures.len ∙ ap (λ n. n + 1) c.loop-k.invariant.counted;
      capacity = c.push_reserved.ensures.capacity ∙ c.loop-k.invariant.capacity;
      rooms = omega (arith, c.drain_to-tokens.ensures.counted, c.loop-k.invariant.rooms);
      have = rooms-left c.args.queues.now.lists c.args.from k c.loop-k.rooms.items c.drain_to-tokens.new.rooms.items c.loop-k.invariant.have c.drain_to-tokens.ensures.counted c.drain_to-tokens.ensures.others;
      given = c.push_reserved.ensures.items ∙
          given-more c.args.queues.now.lists c.args.from k c.drain_to-tokens.result c.loop-k.lists.items h (c.drain_to-tokens.ensures.taken ∙ next-list c.args.queues.now.lists c.loop-k.queues.lists c.args.from k c.loop-k.invariant.left) c.loop-k.invariant.given;
      left = one-drained c.args.queues.now.lists c.loop-k.queues.lists c.drain_to-tokens.new.queues.lists c.args.from k h c.loop-k.invariant.left c.drain_to-tokens.ensures.left;
      spares = c.drain_to-tokens.ensures.spares ∙ c.loop-k.invariant.spares;
      more = more-on c.args.queues.now.spares c.loop-k.queues.spares c.drain_to-tokens.new.queues.spares c.loop-k.invariant.more c.drain_to-tokens.ensures.more;
    }

pub returns-clause-given : goal.returns-clause-given
returns-clause-given c = c.of.ensures ∙ given-all c.args.queues.now.lists c.args.from c.loop-k.k c.loop-k.lists.items (omega (arith, c.loop-k-test.false, c.requires.counted, c.requires.within)) c.loop-k.invariant.given

pub returns-clause-left : goal.returns-clause-left
returns-clause-left c = all-drained c.args.queues.now.lists c.loop-k.queues.lists c.args.from c.loop-k.k (omega (arith, c.requires.counted, c.requires.within)) (omega (arith, c.loop-k-test.false, c.requires.counted, c.requires.within)) c.loop-k.invariant.left
