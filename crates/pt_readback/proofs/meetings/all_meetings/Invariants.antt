use Rattle.std.proofs.Common.{length}
use Rattle.std.specs.Char.{is_ascii_digit}
use Rattle.pt_trace.specs.ReportForm.{AreMeetings}
use Rattle.pt_readback.specs.Lines.{AreRunMeetings, begins_meetings, say_meetings}
use Rattle.pt_readback.specs.Listed.{SoFar}
use Rattle.pt_readback.proofs.meetings.all_meetings.Given as goal

abbrev pub invariant-loop-alloc : goal.invariant-loop-alloc
invariant-loop-alloc l = SoFar say_meetings AreRunMeetings AreMeetings begins_meetings is_ascii_digit l.fn.text l.all.items l.rest

abbrev pub decreases-loop-alloc : goal.decreases-loop-alloc
decreases-loop-alloc l = length l.rest
