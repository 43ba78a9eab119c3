use Rattle.std.proofs.Common.{◌∙◌}
use Rattle.pt_modal.proofs.CoreLaws.{bare-is}
use Rattle.pt_modal.proofs.modal.Core.new.Goals as goal

pub returns : goal.returns
returns c = bare-is c.args.plan c.in_ok-modes.modes c.in_ok-wakes.wakes.items c.none.result c.in_ok-modes.ensures (c.in_ok-wakes.ensures.items ∙ c.starts.ensures) c.none.ensures
