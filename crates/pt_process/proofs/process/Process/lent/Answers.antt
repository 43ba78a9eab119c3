use Rattle.std.proofs.Common.{◌∙◌}
use Rattle.pt_process.proofs.StepLaws.{lent-is}
use Rattle.pt_process.proofs.process.Process.lent.Goals as goal

pub returns : goal.returns
returns c = c.of.ensures ∙ c.deref.ensures.value ∙ lent-is c.self.inside c.args.self.now c.self.invariant c.self.view_is c.requires
