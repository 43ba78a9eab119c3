use Rattle.std.proofs.Common.{sym, ◌∙◌}
use Rattle.pt_wakes.proofs.QueueLaws.{found, is-found}
use Rattle.pt_wakes.proofs.queue.first_of.Goals as goal

pub returns-in-Some-clause-first : goal.returns-in-Some-clause-first
returns-in-Some-clause-first c = found c.args.wakes.now c.in-Some.least (sym c.least.ensures ∙ c.in-Some.is) c.due.result c.due.ensures.some

pub returns-in-Some-clause-none : goal.returns-in-Some-clause-none
returns-in-Some-clause-none c = is-found c.args.wakes.now c.in-Some.least (sym c.least.ensures ∙ c.in-Some.is) c.due.result c.due.ensures.none
