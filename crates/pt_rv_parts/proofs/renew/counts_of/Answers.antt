use Rattle.std.proofs.Common.{ap, sym, ◌∙◌}
use Rattle.pt_rv_parts.specs.Process.{counts_in}
use Rattle.pt_puts.specs.Need.{need_in}
use Rattle.pt_rv_parts.proofs.StepLaws.{no-counts}
use Rattle.pt_rv_parts.proofs.renew.counts_of.Goals as goal

pub returns-in-Counts : goal.returns-in-Counts
returns-in-Counts c = c.as_slice.ensures ∙ ap (λ m. counts_in (need_in m)) (sym c.in-Counts.is)

pub returns-in-One : goal.returns-in-One
returns-in-One c = ap (λ m. counts_in (need_in m)) (sym c.in-One.is)

pub returns-in-Over : goal.returns-in-Over
returns-in-Over c = sym (no-counts c.args.need.now c.in-Over.is)
