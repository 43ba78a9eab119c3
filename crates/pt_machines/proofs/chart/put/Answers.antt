use Rattle.std.proofs.Common.{◌<◌, length, map, set, ap, ◌∙◌, arith}
use Rattle.std.proofs.lemmas.List.{length-map}
use Rattle.std.proofs.lemmas.Result.{on_ok_weaker}
use Rattle.pt_chart.specs.Views.{transition_view, mode_view}
use Rattle.pt_machines.specs.Views.{leaving_view}
use Rattle.pt_machines.specs.Charted.{with_leaving}
use Rattle.pt_machines.proofs.ModeLaws.{put-past, put-here, view-set, view-at}
use Rattle.pt_machines.proofs.chart.put.Goals as goal

pub returns-then-from-len : goal.returns-then-from-len
returns-then-from-len c = λ e kids xs are.
    put-past e kids xs (leaving_view c.args.leaving) (map mode_view c.args.modes.now.items) are (omega (arith, c.if-from-len.true, c.len.ensures, c.args.modes.now.ok.0, length-map c.args.modes.now.items mode_view))

pub returns : goal.returns
returns c =
    let modes = c.args.modes.now.items in
    let n = c.args.leaving.from in
    let short : n < length modes = omega (arith, c.if-from-len.false, c.len.ensures, c.args.modes.now.ok.0) in
    on_ok_weaker c.add_leaving.result
    (λ made e kids xs are.
    put-here e kids xs (leaving_view c.args.leaving) (map mode_view modes) (map mode_view (set modes n c.add_leaving.new.mode)) (mode_view c.index_mut.result.now) (mode_view c.add_leaving.new.mode) are
    (omega (arith, short, length-map modes mode_view))
    (made ∙ ap (λ u. with_leaving c.args.leaving.is_preemptive (transition_view c.args.leaving.made) u) (view-at modes n c.index_mut.result.now short c.index_mut.ensures.value))
    (view-set modes n c.add_leaving.new.mode))
    c.add_leaving.ensures
