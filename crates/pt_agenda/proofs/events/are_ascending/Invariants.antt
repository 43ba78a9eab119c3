use Rattle.pt_agenda.proofs.EventLaws.{AscendTo}
use Rattle.pt_agenda.proofs.events.are_ascending.Given as goal

abbrev pub invariant-loop-next : goal.invariant-loop-next
invariant-loop-next l = AscendTo l.events l.next
