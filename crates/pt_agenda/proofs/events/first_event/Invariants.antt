use Rattle.std.proofs.Common.{◌≤◌, length}
use Rattle.pt_agenda.proofs.InputLaws.{IsFirstFrom}
use Rattle.pt_agenda.proofs.events.first_event.Given as goal

abbrev pub invariant-loop-left : goal.invariant-loop-left
invariant-loop-left l = (l.left ≤ length l.inputs) × IsFirstFrom l.last l.inputs l.left l.first

abbrev pub decreases-loop-left : goal.decreases-loop-left
decreases-loop-left l = l.left
