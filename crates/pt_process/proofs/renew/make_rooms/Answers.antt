use Rattle.std.proofs.Common.{◌∙◌}
use Rattle.pt_process.proofs.RoomLaws.{rooms-more}
use Rattle.pt_process.proofs.renew.make_rooms.Goals as goal

pub loop-place-preserved : goal.loop-place-preserved
loop-place-preserved c = record {
  counted = c.in_ok-make_room.ensures.counted ∙ c.loop-place.invariant.counted;
  rooms = rooms-more c.args.counts.now c.loop-place.lines.items c.make_room.new.lines.items c.loop-place.place c.count_at.result c.in_ok-make_room.ensures.counted c.loop-place.invariant.rooms c.count_at.ensures c.in_ok-make_room.ensures.empty c.in_ok-make_room.ensures.room c.in_ok-make_room.ensures.others;
}
