use Rattle.pt_puts.specs.Fans.{fans_in}
use Rattle.pt_process.proofs.FanLaws.{fans-own}
use Rattle.pt_process.proofs.fans.fan_out.Goals as goal

pub returns-in-Own-clause-fans : goal.returns-in-Own-clause-fans
returns-in-Own-clause-fans c = fans-own c.args.source _ c.args.c (fans_in c.args.fans.now.items) c.in-Own.is
