use Rattle.std.proofs.Common.{◌∙◌}
use Rattle.pt_process.proofs.RoomLaws.{one-empty-more}
use Rattle.pt_process.proofs.renew.empty_row.Goals as goal

pub loop-preserved : goal.loop-preserved
loop-preserved c = c.in_ok-push.ensures.items ∙ one-empty-more c.loop.row.items c.new.result c.loop.counter c.loop.invariant c.new.ensures
