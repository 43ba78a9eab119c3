use Rattle.pt_puts.specs.declared.need.KeptNeed.TheVariants.{Any}
use Rattle.pt_rv_parts.proofs.StepLaws.{need-is}
use Rattle.pt_rv_parts.proofs.process.Process.need_any.Goals as goal

pub any_again-requires-clause-same : goal.any_again-requires-clause-same
any_again-requires-clause-same c = need-is c.self.inside c.args.self.now Any c.self.view_is c.in-Any.is
