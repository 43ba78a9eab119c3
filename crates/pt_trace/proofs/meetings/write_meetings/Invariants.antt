use Rattle.std.proofs.Common.{◌≡◌, ◌++◌, ℕ, [], take, drop}
use Rattle.pt_trace.specs.MeetingText.{meeting_lines, met, count_of}
use Rattle.pt_trace.proofs.meetings.write_meetings.Given as goal

abbrev pub invariant-loop-line : goal.invariant-loop-line
invariant-loop-line l =
    (l.out.items ++ meeting_lines (take l.line-index l.line-items) (drop l.line-index l.line-items) ≡ l.initial.out.items ++ meeting_lines [] l.line-items) × ((q : ℕ) → met l.earlier q ≡ count_of q (take l.line-index l.line-items))
