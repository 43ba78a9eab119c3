-- The lines of meetings, one by one.
use Rattle.std.proofs.Common.{◌≡◌, ◌==◌, ℕ, ◌+◌, ◌<◌, List, [], ◌∷◌, ◌++◌, if◌then◌else◌, length, take, drop, get_or, sym, ap, ◌∙◌, arith}
use Rattle.std.proofs.lemmas.Grind.{common_steps}
use Rattle.std.proofs.lemmas.List.{take_more, drop_more}
use Rattle.std.proofs.lemmas.List.Sums.{count_by_more_yes, count_by_more_no}
use Rattle.pt_trace.specs.declared.meetings.MeetingLine.{MeetingLine}
use Rattle.pt_trace.specs.MeetingText.{count_of, meeting_line, meeting_lines}

-- the line at a number, and those after it
pub meeting_lines-more : (ls : List MeetingLine) (i : ℕ) (l : MeetingLine) → i < length ls → l ≡ get_or ls i l → meeting_lines (take i ls) (drop i ls) ≡ meeting_line l (count_of l.firing (take i ls)) ++ meeting_lines (take (i + 1) ls) (drop (i + 1) ls)
meeting_lines-more ls i l short is =
    let d : drop i ls ≡ l ∷ drop (i + 1) ls = drop_more ls i l short ∙ ap (λ m. m ∷ drop (i + 1) ls) (sym is) in
    let t : take i ls ++ l ∷ [] ≡ take (i + 1) ls = ap (λ m. take i ls ++ m ∷ []) is ∙ sym (take_more ls i l short) in
    ap (meeting_lines (take i ls)) d ∙ ap (λ earlier. meeting_line l (count_of l.firing (take i ls)) ++ meeting_lines earlier (drop (i + 1) ls)) t

-- one line more counts for its firing
pub count_of-more : (ls : List MeetingLine) (i : ℕ) (l : MeetingLine) (q : ℕ) → i < length ls → l ≡ get_or ls i l → count_of q (take (i + 1) ls) ≡ (if q == l.firing then count_of q (take i ls) + 1 else count_of q (take i ls))
count_of-more ls i l q short is = grind (arith, common_steps, count_by_more_yes (λ (m : MeetingLine). m.firing == q) ls i l short, count_by_more_no (λ (m : MeetingLine). m.firing == q) ls i l short)
