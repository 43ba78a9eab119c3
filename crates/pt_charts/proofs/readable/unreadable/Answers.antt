use Rattle.std.proofs.lemmas.Result.{IfOk-weaker}
use Rattle.pt_frames.specs.Views.{frames_view}
use Rattle.pt_charts.proofs.ReadableLaws.{told}
use Rattle.pt_charts.proofs.readable.unreadable.Goals as goal

pub returns : goal.returns
returns c =
    IfOk-weaker c.first_unreadable.result _ _
    (λ found w. told c.args.net.now c.args.values.now (frames_view c.args.frames.now) c.deref.result.now c.deref-2.result.now found c.requires c.deref.ensures.value c.deref-2.ensures.value w)
    c.first_unreadable.ensures
