use Rattle.std.proofs.Common.{sym, arith}
use Rattle.pt_agenda.proofs.EventLaws.{next-is, none-is-next}
use Rattle.pt_agenda.proofs.events.next_event.Goals as goal

pub returns-then-past-events : goal.returns-then-past-events
returns-then-past-events c = sym (next-is c.args.last.now c.args.events.now c.past_at-past.result c.index-events-past.result c.if-past-events.true c.past_at-past.ensures)

pub returns-else-past-events : goal.returns-else-past-events
returns-else-past-events c = sym (none-is-next c.args.last.now c.args.events.now c.past_at-past.result (omega (arith, c.if-past-events.false)) c.past_at-past.ensures)
