use Rattle.std.proofs.Common.{◌∙◌}
use Rattle.pt_puts.specs.Fans.{fans_in}
use Rattle.pt_puts.proofs.FanLaws.{named-at}
use Rattle.pt_rv_plan.proofs.FanLaws.{no-fans, fans-next, fans-all}
use Rattle.pt_rv_plan.proofs.fans.fans_of.Goals as goal

pub fan_out-requires-clause-named : goal.fan_out-requires-clause-named
fan_out-requires-clause-named c = named-at c.args.processes c.args.sources.now c.loop-c.c c.loop-c-test.true c.requires.named

pub loop-c-init : goal.loop-c-init
loop-c-init c = record {
  fans = no-fans c.args.processes (fans_in c.in_ok-fans.fans.items) c.in_ok-fans.ensures.none;
  counted = c.in_ok-fans.ensures.counted;
}

pub loop-c-preserved : goal.loop-c-preserved
loop-c-preserved c = record {
  fans = fans-next c.args.processes c.args.sources.now c.loop-c.c (fans_in c.loop-c.fans.items) (fans_in c.fan_out.new.fans.items) c.loop-c-test.true c.loop-c.invariant.fans c.in_ok-fan_out.ensures.fans;
  counted = c.in_ok-fan_out.ensures.length ∙ c.loop-c.invariant.counted;
}

pub returns-clause-fans : goal.returns-clause-fans
returns-clause-fans c = fans-all c.args.processes c.args.sources.now c.loop-c.c (fans_in c.loop-c.fans.items) c.loop-c-test.false c.loop-c.invariant.fans
