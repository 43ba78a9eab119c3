use Rattle.std.proofs.Common.{◌∙◌}
use Rattle.pt_puts.proofs.LineLaws.{list-set, list-other}
use Rattle.pt_rv_parts.proofs.renew.empty_line.Goals as goal

pub returns-clause-empty : goal.returns-clause-empty
returns-clause-empty c = list-set c.args.lines.now.items c.args.place c.clear.new.self c.requires ∙ c.clear.ensures

pub returns-clause-others : goal.returns-clause-others
returns-clause-others c q z = list-other c.args.lines.now.items c.args.place q c.clear.new.self z
