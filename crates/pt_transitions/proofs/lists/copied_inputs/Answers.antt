use Rattle.std.proofs.Common.{◌<◌, length, ◌∙◌, arith}
use Rattle.pt_guards.proofs.ListLaws.{next-copy}
use Rattle.pt_transitions.proofs.lists.copied_inputs.Goals as goal

pub loop-place-preserved : goal.loop-place-preserved
loop-place-preserved c =
    let short : c.loop-place.place < length c.args.inputs.now = omega arith in
    next-copy c.args.inputs.now c.loop-place.place c.loop-place.copies.items c.in_ok-copy_of.field-0 short c.loop-place.invariant (c.in_ok-copy_of.ensures ∙ c.list.ensures) _ c.in_ok-push.ensures.items
