use Rattle.std.proofs.Common.{◌≤◌, max, get_or, subst, ◌∙◌, arith}
use Rattle.pt_puts.specs.Lines.{room_at}
use Rattle.pt_rv_parts.proofs.GatherLaws.{rooms-more, rooms-all}
use Rattle.pt_rv_parts.proofs.renew.make_rooms.Goals as goal

pub loop-place-preserved : goal.loop-place-preserved
loop-place-preserved c = record {
  counted = c.in_ok-make_room.ensures.counted ∙ c.loop-place.invariant.counted;
  rooms = rooms-more (λ q. max (get_or c.args.counts.now q 0) c.least_room-least.result) c.loop-place.lines.items c.make_room.new.lines.items c.loop-place.place c.loop-place.invariant.rooms c.in_ok-make_room.ensures.empty (subst (λ n. n ≤ room_at c.make_room.new.lines.items c.loop-place.place) c.room_of-room.ensures c.in_ok-make_room.ensures.room) c.in_ok-make_room.ensures.others;
}

pub returns-clause-rooms : goal.returns-clause-rooms
returns-clause-rooms c = rooms-all c.args.is_barrier c.args.counts.now c.least_room-least.result c.loop-place.lines.items c.loop-place.place c.least_room-least.ensures (omega (arith, c.loop-place.invariant.counted, c.loop-place-test.false, c.len-place-end.ensures, c.args.lines.now.ok.0)) c.loop-place.invariant.rooms
