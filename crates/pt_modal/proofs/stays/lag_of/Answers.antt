use Rattle.std.proofs.Common.{ap, ◌∙◌}
use Rattle.pt_meaning.specs.Modal.{Stay}
use Rattle.pt_modal.proofs.StayLaws.{lag-there, lag-past}
use Rattle.pt_modal.proofs.stays.lag_of.Goals as goal

pub returns-then-refinement-stays : goal.returns-then-refinement-stays
returns-then-refinement-stays c = ap (λ (r : Stay). r.lag) c.stay.view_is ∙ lag-there c.args.stays.now c.args.refinement c.index-stays-refinement.result c.if-refinement-stays.true c.index-stays-refinement.is

pub returns-else-refinement-stays : goal.returns-else-refinement-stays
returns-else-refinement-stays c = lag-past c.args.stays.now c.args.refinement c.if-refinement-stays.false
