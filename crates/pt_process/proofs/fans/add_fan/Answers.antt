use Rattle.pt_puts.specs.Fans.{row_in}
use Rattle.pt_puts.proofs.FanLaws.{row-then}
use Rattle.pt_process.proofs.fans.add_fan.Goals as goal

pub returns : goal.returns
returns c = row-then c.args.port c.args.c (row_in c.args.row.now.items) (row_in c.widen.new.row.items) (row_in c.push_channel.new.row.items) c.in_ok-widen.ensures.same c.in_ok-push_channel.ensures
