use Rattle.std.proofs.Common.{◌≡◌, ℕ, ◌+◌, ◌*◌, ◌<◌, [], length, min, get_or, None, ap, ◌∙◌, sym, subst, arith, refl, length-set, eqb-true}
use Rattle.std.proofs.lemmas.List.{get_or-set_other}
use Rattle.pt_sdf_parts.specs.Rooms.{HasRoom}
use Rattle.pt_sdf_parts.proofs.Lists.{skip-zero, read-at}
use Rattle.pt_sdf_parts.proofs.OutletLaws.{outlet-there, outlet-list, outlet-given, outlet-left, outlets-left, outlets-given, none-left, one-left}
use Rattle.pt_sdf_parts.proofs.outlets.hand_out.Goals as goal

pub returns-then-is_empty-clause-left : goal.returns-then-is_empty-clause-left
returns-then-is_empty-clause-left c = none-left c.args.turns c.args.gives.now c.args.channels.now.lists c.args.from c.requires.counted (eqb-true (length c.args.gives.now) 0 (sym c.is_empty.ensures ∙ c.if-is_empty.true))

pub returns-then-gives-eq1-clause-left : goal.returns-then-gives-eq1-clause-left
returns-then-gives-eq1-clause-left c = one-left c.args.turns c.args.gives.now c.args.channels.now.lists c.args.from c.requires.counted c.take_first.new.channels.lists c.owed_on-n.result c.if-gives-eq1.true c.owed_on-n.ensures c.take_first.ensures.lists

pub loop-k-init : goal.loop-k-init
loop-k-init c = record {
  counted = c.in_ok-lists.ensures.len;
  room = c.in_ok-lists.ensures.exact;
  rooms = c.in_ok-rooms.ensures.counted;
  made = λ j h l. c.in_ok-rooms.ensures.made j l;
  given = c.in_ok-lists.ensures.items;
  left = sym (skip-zero c.args.from c.args.channels.now.lists);
}

pub owed_on-n-requires-in-loop-k : goal.owed_on-n-requires-in-loop-k
owed_on-n-requires-in-loop-k c = outlet-there c.args.turns c.args.gives.now c.args.channels.now.lists c.args.from c.requires.counted c.loop-k.channels.lists c.loop-k.k c.loop-k-test.true c.loop-k.invariant.left

pub take_first-requires-in-loop-k-clause-given : goal.take_first-requires-in-loop-k-clause-given
take_first-requires-in-loop-k-clause-given c = outlet-there c.args.turns c.args.gives.now c.args.channels.now.lists c.args.from c.requires.counted c.loop-k.channels.lists c.loop-k.k c.loop-k-test.true c.loop-k.invariant.left

pub take_first-requires-in-loop-k-clause-room : goal.take_first-requires-in-loop-k-clause-room
take_first-requires-in-loop-k-clause-room c =
    let k : ℕ = c.loop-k.k in
    let h : k < length c.args.gives.now = c.loop-k-test.true in
    let same : get_or c.loop-k.channels.lists (c.args.from + k) [] ≡ get_or c.args.channels.now.lists (c.args.from + k) [] =
    outlet-list c.args.turns c.args.gives.now c.args.channels.now.lists c.args.from c.requires.counted c.loop-k.channels.lists k h c.loop-k.invariant.left
    in
    let room : c.take-room.result ≡ get_or c.loop-k.rooms.items k None = c.take-room.ensures.value ∙ read-at c.loop-k.rooms.items k c.index_mut.result.now None (omega (arith, h, c.loop-k.invariant.rooms)) c.index_mut.ensures.value in
    subst (λ v. HasRoom v c.take-room.result) (sym (c.owed_on-n-in-loop-k.ensures ∙ ap (λ v. min (c.args.turns * get_or c.args.gives.now k 0) (length v)) same))
    (subst (λ v. HasRoom (min (c.args.turns * get_or c.args.gives.now k 0) (length (get_or c.args.channels.now.lists (c.args.from + k) []))) v) (sym room) (c.loop-k.invariant.made k (omega arith) h))

pub loop-k-preserved : goal.loop-k-preserved
loop-k-preserved c =
    let k : ℕ = c.loop-k.k in
    let h : k < length c.args.gives.now = c.loop-k-test.true in
    let give : ℕ = get_or c.args.gives.now k 0 in
    record {
      counted = omega (arith, c.push_reserved.ensures.len, c.loop-k.invariant.counted);
      room = c.push_reserved.ensures.capacity ∙ c.loop-k.invariant.room;
      rooms = length-set c.loop-k.rooms.items k c.take-room.new.self ∙ c.loop-k.invariant.rooms;
      made = λ j a b.
          subst (λ v. HasRoom (min (c.args.turns * get_or c.args.gives.now j 0) (length (get_or c.args.channels.now.lists (c.args.from + j) []))) v) (sym (get_or-set_other c.loop-k.rooms.items k j c.take-room.new.self None (λ z. omega (arith, a, z)))) (c.loop-k.invariant.made j (omega (arith, a)) b);
      given = c.push_reserved.ensures.items ∙
          outlet-given c.args.turns c.args.gives.now c.args.channels.now.lists c.args.from c.requires.counted c.loop-k.channels.lists k h c.loop-k.invariant.left c.owed_on-n-in-loop-k.result give refl c.owed_on-n-in-loop-k.ensures c.loop-k.lists.items c.take_first-in-loop-k.result c.take_first-in-loop-k.ensures.taken c.loop-k.invariant.given;
      left =
          outlet-left c.args.turns c.args.gives.now c.args.channels.now.lists c.args.from c.requires.counted c.loop-k.channels.lists k h c.loop-k.invariant.left c.owed_on-n-in-loop-k.result give refl c.owed_on-n-in-loop-k.ensures c.take_first-in-loop-k.new.channels.lists c.take_first-in-loop-k.ensures.lists;
    }

pub returns-clause-left : goal.returns-clause-left
returns-clause-left c = outlets-left c.args.turns c.args.gives.now c.args.channels.now.lists c.args.from c.requires.counted c.loop-k.k c.loop-k-test.false c.loop-k.channels.lists c.loop-k.invariant.left

pub returns-clause-given : goal.returns-clause-given
returns-clause-given c = c.of.ensures ∙ outlets-given c.args.turns c.args.gives.now c.args.channels.now.lists c.args.from c.requires.counted c.loop-k.k c.loop-k-test.false c.loop-k.lists.items c.loop-k.invariant.given
