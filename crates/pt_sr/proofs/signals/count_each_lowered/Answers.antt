use Rattle.std.proofs.Common.{◌+◌, get_or, false, if◌then◌else◌, ap, ◌∙◌, sym}
use Rattle.pt_sr.proofs.SignalLaws.{count_more, counted-few}
use Rattle.pt_sr.proofs.signals.count_each_lowered.Goals as goal

pub loop-flag-preserved : goal.loop-flag-preserved
loop-flag-preserved c = (
  c.counted-count.ensures ∙ ap (λ n. if get_or c.args.flags.now c.loop-flag.flag-index false then n else n + 1) c.loop-flag.invariant.0 ∙ sym (count_more c.args.flags.now c.loop-flag.flag-index c.loop-flag-test.true),
  counted-few (get_or c.args.flags.now c.loop-flag.flag-index false) c.loop-flag.count c.counted-count.result c.loop-flag.flag-index c.counted-count.ensures c.loop-flag.invariant.1,
)
