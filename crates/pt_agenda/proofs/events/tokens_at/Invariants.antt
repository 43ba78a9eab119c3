use Rattle.pt_agenda.proofs.InputLaws.{AreTokensBefore}
use Rattle.pt_agenda.proofs.events.tokens_at.Given as goal

abbrev pub invariant-loop-events : goal.invariant-loop-events
invariant-loop-events l = AreTokensBefore l.tag l.inputs l.events-index l.lists.items
