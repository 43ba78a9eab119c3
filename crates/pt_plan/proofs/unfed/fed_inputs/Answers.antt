use Rattle.std.proofs.Common.{◌||◌, get_or, ap, sym, ◌∙◌, arith}
use Rattle.pt_core.specs.declared.source.Source.TheVariants.{Own}
use Rattle.pt_plan.specs.Unfed.{is_own}
use Rattle.pt_plan.proofs.UnfedLaws.{feeds-more}
use Rattle.pt_plan.proofs.unfed.fed_inputs.Goals as goal

pub loop-source-preserved : goal.loop-source-preserved
loop-source-preserved c = record {
  count = c.mark.ensures.count ∙ c.loop-source.invariant.count;
  each = λ port h.
      c.mark.ensures.each port (omega (arith, h, c.loop-source.invariant.count)) ∙ ap (λ b. b || is_own port (get_or c.args.sources.now c.loop-source.source-index (Own 0))) (c.loop-source.invariant.each port h) ∙
      sym (feeds-more c.args.sources.now c.loop-source.source-index (Own 0) port c.loop-source-test.true);
}
