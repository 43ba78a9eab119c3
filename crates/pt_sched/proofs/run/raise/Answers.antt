use Rattle.std.proofs.Common.{ℕ, max, get_or, refl, ap, ◌∙◌}
use Rattle.pt_sched.specs.Runs.{length_after}
use Rattle.pt_sched.proofs.Listing.{no_channel}
use Rattle.pt_sched.proofs.Lengthening.{raised-start, raised-step, raised-all}
use Rattle.pt_sched.proofs.run.raise.Goals as goal

pub loop-number-init : goal.loop-number-init
loop-number-init c = λ order child times same at greatest. raised-start c.args.channels.now order child times c.args.outs.now c.args.lengths.now at greatest

pub loop-number-preserved : goal.loop-number-preserved
loop-number-preserved c = λ order child times same at greatest.
    let number : ℕ = get_or c.args.outs.now c.loop-number.number-index 0 in
    raised-step c.args.channels.now order child times c.args.outs.now c.loop-number.number-index c.loop-number.lengths number c.max.result refl (c.requires.inside c.loop-number.number-index 0 c.loop-number-test.true) (c.max.ensures ∙ ap (max (get_or c.loop-number.lengths number 0)) (c.tokens.ensures ∙ ap (length_after (get_or c.args.channels.now number no_channel)) (λ i other. same other i))) (c.loop-number.invariant order child times same at greatest)

pub returns : goal.returns
returns c = λ order child times same at greatest. raised-all c.args.channels.now order child times c.args.outs.now c.loop-number.number-index c.loop-number.lengths c.loop-number-test.false (c.loop-number.invariant order child times same at greatest)
