use Rattle.std.proofs.Common.{sym, ◌∙◌}
use Rattle.std.proofs.lemmas.Bool.{false≢true}
use Rattle.pt_rv_parts.proofs.GatherLaws.{most-under}
use Rattle.pt_rv_parts.proofs.renew.least_room.Goals as goal

pub returns-then-is_barrier : goal.returns-then-is_barrier
returns-then-is_barrier c = λ _. most-under c.args.counts.now c.most_of.result c.most_of.ensures

pub returns-else-is_barrier : goal.returns-else-is_barrier
returns-else-is_barrier c = λ h. absurd (false≢true (sym c.if-is_barrier.false ∙ h))
