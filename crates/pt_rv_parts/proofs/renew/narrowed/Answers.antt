use Rattle.std.proofs.Common.{sym, ◌∙◌}
use Rattle.pt_rv_parts.proofs.StepLaws.{counts-one}
use Rattle.pt_rv_parts.proofs.renew.narrowed.Goals as goal

pub returns-then-is_one : goal.returns-then-is_one
returns-then-is_one c = counts-one c.args.need (sym c.counts_of.ensures ∙ c.is_one.ensures c.if-is_one.true)
