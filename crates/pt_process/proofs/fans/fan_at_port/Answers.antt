use Rattle.pt_process.proofs.FanLaws.{fans-set}
use Rattle.pt_process.proofs.fans.fan_at_port.Goals as goal

pub returns-clause-fans : goal.returns-clause-fans
returns-clause-fans c = fans-set c.args.fans.now.items c.args.child c.index_mut-row.result.now c.add_fan.new.row c.args.port c.args.c c.requires c.index_mut-row.ensures.value c.in_ok-add_fan.ensures
