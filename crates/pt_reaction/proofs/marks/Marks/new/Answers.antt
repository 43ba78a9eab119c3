use Rattle.std.proofs.Common.{ap, ◌∙◌}
use Rattle.pt_reaction.specs.Marks.{marked}
use Rattle.pt_reaction.proofs.MarkLaws.{fresh, zero-stamps}
use Rattle.pt_reaction.proofs.marks.Marks.new.Goals as goal

pub invariant_of-result : goal.invariant_of-result
invariant_of-result c = zero-stamps c.args.count c.in_ok-stamps.stamps.items c.in_ok-stamps.ensures

pub returns : goal.returns
returns c = ap (λ S. marked 1 S) c.in_ok-stamps.ensures ∙ fresh c.args.count
