use Rattle.std.proofs.Common.{◌==◌, ◌+◌, ◌++◌, ℕ, if◌then◌else◌, sym, ap, ◌∙◌, append_assoc}
use Rattle.pt_trace.proofs.MeetingLines.{meeting_lines-more, count_of-more}
use Rattle.pt_trace.proofs.meetings.write_meetings.Goals as goal

pub loop-line-preserved : goal.loop-line-preserved
loop-line-preserved c =
    let ls = c.deref-line-items.result.now in
    let i : ℕ = c.loop-line.line-index in
    let l = c.line-item.result in
    let more = meeting_lines-more ls i l c.loop-line-test.true c.line-item.is in
    let index = c.in_ok-index.ensures.index ∙ c.loop-line.invariant.1 l.firing in
    (rw (c.in_ok-write_meeting.ensures, index, append_assoc) (ap (λ t. c.loop-line.out.items ++ t) (sym more) ∙ c.loop-line.invariant.0), λ q. c.in_ok-index.ensures.counted q ∙ ap (λ n. if q == l.firing then n + 1 else n) (c.loop-line.invariant.1 q) ∙ sym (count_of-more ls i l q c.loop-line-test.true c.line-item.is))
