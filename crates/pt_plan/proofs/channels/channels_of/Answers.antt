use Rattle.std.proofs.Common.{◌<◌, ◌∷◌, ◌++◌, [], List, length, get_or, ap, ◌∙◌, arith}
use Rattle.std.proofs.lemmas.List.{get_or_default}
use Rattle.pt_sched.specs.declared.edge.SchedEdge.{SchedEdge}
use Rattle.pt_core.specs.declared.source.Source.{Source}
use Rattle.pt_core.specs.declared.source.Source.TheVariants.{Own}
use Rattle.pt_plan.specs.Channels.{channel_at}
use Rattle.pt_plan.proofs.Numbering.{channels-step}
use Rattle.pt_plan.proofs.channels.channels_of.Goals as goal

pub loop-number-preserved : goal.loop-number-preserved
loop-number-preserved c =
    let sources : List Source = c.args.inside.now.sources.items in
    let number = c.loop-number.number in
    let short : number < length sources = omega (arith, c.loop-number-test.true, ap (λ (xs : List Source). length xs) c.deref-source-items.ensures.value) in
    c.in_ok-push.ensures.items ∙
    ap (λ (channel : SchedEdge). c.loop-number.channels.items ++ channel ∷ []) c.channel_at.ensures ∙
    ap (λ (xs : List Source). c.loop-number.channels.items ++ channel_at c.args.inside.now number (get_or xs number (Own 0)) ∷ []) c.deref-source-items.ensures.value ∙
    channels-step c.args.inside.now number (get_or sources number (Own 0)) c.loop-number.channels.items short (get_or_default sources number (Own 0) (get_or sources number (Own 0)) short) c.loop-number.invariant
