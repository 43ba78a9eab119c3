use Rattle.std.proofs.Common.{arith}
use Rattle.pt_core.specs.Source.{source_of}
use Rattle.pt_rv_plan.proofs.FanLaws.{fans-set}
use Rattle.pt_rv_plan.proofs.fans.fan_out.Goals as goal

pub returns-clause-fans : goal.returns-clause-fans
returns-clause-fans c =
    fans-set c.args.processes (source_of c.args.source) c.args.fans.now.items c.row_at-row.result c.index_mut-row.result.now c.add_fan.new.row c.port_at-port.result c.args.c c.requires.named c.row_at-row.ensures.row c.port_at-port.ensures
    (let a = c.row_at-row.ensures.within in let b = c.requires.long in omega (arith, a, b)) c.index_mut-row.ensures.value c.in_ok-add_fan.ensures
