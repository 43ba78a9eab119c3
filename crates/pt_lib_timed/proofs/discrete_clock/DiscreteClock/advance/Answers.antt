use Rattle.std.proofs.Common.{◌<◌, ◌*◌, length, arith}
use Rattle.std.specs.Prelude.{slice_get}
use Rattle.pt_lib_timed.specs.DiscreteClock.{offset_of}
use Rattle.pt_lib_timed.proofs.ClockLaws.{due-index, due-round}
use Rattle.pt_lib_timed.proofs.discrete_clock.DiscreteClock.advance.Goals as goal

pub overflow_add-index : goal.overflow_add-index
overflow_add-index c =
    let a = c.args.self.now in
    let below : a.index < length a.offsets = due-index (a.round * a.period) a.offsets a.index c.requires in
    omega arith

pub round_after-self-requires : goal.round_after-self-requires
round_after-self-requires c =
    let a = c.args.self.now in
    due-round (a.round * a.period) (offset_of (slice_get a.offsets a.index)) c.requires
