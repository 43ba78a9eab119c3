use Rattle.std.proofs.Common.{get_or, ◌∙◌, sym, subst}
use Rattle.pt_core.specs.declared.source.Source.TheVariants.{Own}
use Rattle.pt_core.specs.Source.{source_of}
use Rattle.pt_puts.specs.Fans.{fans_in, IsNamed}
use Rattle.pt_puts.proofs.FanLaws.{named-at}
use Rattle.pt_process.proofs.FanLaws.{fans-next, fans-all}
use Rattle.pt_process.proofs.fans.fans_of.Goals as goal

pub fan_out-requires : goal.fan_out-requires
fan_out-requires c = subst (λ n. IsNamed n (source_of (get_or c.args.sources.now c.loop-c.c (Own 0)))) (sym c.loop-c.invariant.counted) (named-at c.args.processes c.args.sources.now c.loop-c.c c.loop-c-test.true c.requires.named)

pub loop-c-preserved : goal.loop-c-preserved
loop-c-preserved c = record {
  fans = fans-next c.args.processes c.args.sources.now c.loop-c.c (fans_in c.loop-c.fans.items) (fans_in c.fan_out.new.fans.items) c.loop-c-test.true c.loop-c.invariant.fans c.in_ok-fan_out.ensures.fans;
  counted = c.in_ok-fan_out.ensures.length ∙ c.loop-c.invariant.counted;
}

pub returns : goal.returns
returns c = fans-all c.args.sources.now c.loop-c.c (fans_in c.loop-c.fans.items) c.loop-c-test.false c.loop-c.invariant.fans
