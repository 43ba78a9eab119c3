use Rattle.pt_document.specs.View.{entities_view}
use Rattle.pt_gen.proofs.Ranges.{stages_more}
use Rattle.pt_gen.proofs.stages.add_stages.Goals as goal

pub loop-i-preserved : goal.loop-i-preserved
loop-i-preserved c =
    stages_more c.loop-i.i (entities_view c.args.entities.now.items) c.loop-i.entities.items c.push.new.self.items c.in_ok-stage.field-0 c.in_ok-push.ensures.items c.in_ok-stage.ensures c.loop-i.invariant
