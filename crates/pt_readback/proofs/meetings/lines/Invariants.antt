use Rattle.std.proofs.Common.{length}
use Rattle.std.specs.Char.{is_ascii_digit}
use Rattle.pt_readback.specs.Lines.{IsRunMeeting, IsLineForm, never, say_meeting}
use Rattle.pt_readback.specs.Listed.{SoFar}
use Rattle.pt_readback.proofs.meetings.lines.Given as goal

abbrev pub invariant-loop-alloc : goal.invariant-loop-alloc
invariant-loop-alloc l = SoFar say_meeting IsRunMeeting IsLineForm is_ascii_digit never l.fn.text l.lines.items l.rest

abbrev pub decreases-loop-alloc : goal.decreases-loop-alloc
decreases-loop-alloc l = length l.rest
