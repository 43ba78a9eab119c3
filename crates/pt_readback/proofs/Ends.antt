-- The end of a report, by the words of its last line, and the whole of a report.
use Rattle.std.proofs.Common.{◌≡◌, ℕ, ◌<◌, ◌^◌, List, [], ◌∷◌, ◌++◌, length, Bool, true, false, Option, Some, None, All, codes, refl, sym, ap, subst, ◌∙◌, append_assoc, arith}
use Rattle.std.specs.Prelude.{flat_map, decimal, bytes_eq, IfSome}
use Rattle.std.proofs.lemmas.Bool.{cond_both}
use Rattle.std.specs.Char.{is_ascii_digit}
use Rattle.std.proofs.lemmas.Option.{none-some, same_Some}
use Rattle.std.proofs.lemmas.List.Elements.{All-nil}
use Rattle.pt_firing.specs.declared.answer.Place.{Place}
use Rattle.pt_firing.specs.declared.answer.Blocked.{Blocked}
use Rattle.pt_firing.specs.declared.fault.RunFault.{RunFault}
use Rattle.pt_firing.specs.declared.fault.RunFault.TheVariants.{DivideByZero, Overflow, Index, Size, Rate, SecondToken, Causality, Ambiguous, TimeLimit, Length}
use Rattle.pt_firing.specs.RunFault.{code_of}
use Rattle.pt_trace.specs.declared.meetings.MeetingLine.{MeetingLine}
use Rattle.pt_trace.specs.declared.run_end.RunEnd.{RunEnd}
use Rattle.pt_trace.specs.declared.run_end.RunEnd.TheVariants.{Stop, Idle, Iterations, Inputs, Deadlock, Fault, Budget, Queue}
use Rattle.pt_trace.specs.Report.{Trace, Meetings, Report}
use Rattle.pt_trace.specs.ReportForm.{IsTrace, IsMeeting, AreMeetings, IsPath, IsEnd}
use Rattle.pt_trace.specs.ReportText.{report_text}
use Rattle.pt_trace.specs.TraceText.{trace_text}
use Rattle.pt_trace.specs.MeetingText.{meetings_text}
use Rattle.pt_trace.specs.EndText.{full_line, full_lines, end_text}
use Rattle.pt_readback.specs.Report.{IsShortPlace, HasShortPlaces, FitsTagged, FitsLine, FitsEnd, IsRunReport}
use Rattle.pt_readback.specs.Listed.{front, listed}
use Rattle.pt_readback.specs.Lines.{IsRunTrace, IsRunMeeting, AreRunMeetings, IsRunRow, IsLastLine, begins_trace, begins_meetings, begins_row, say_trace, say_meetings, say_row, rows_of, last_line, plain_end, without, fault_of, fault_rest, budget_rest, queue_rest}
use Rattle.pt_readback.proofs.Listed.{both, flat_listed}

-- faults have their codes
pub fault_of-code_of : (f : RunFault) → fault_of (code_of f) ≡ Some f
fault_of-code_of DivideByZero = refl
fault_of-code_of Overflow = refl
fault_of-code_of Index = refl
fault_of-code_of Size = refl
fault_of-code_of Rate = refl
fault_of-code_of SecondToken = refl
fault_of-code_of Causality = refl
fault_of-code_of Ambiguous = refl
fault_of-code_of TimeLimit = refl
fault_of-code_of Length = refl

pub code_small : (f : RunFault) → code_of f < 2 ^ 64
code_small DivideByZero = omega arith
code_small Overflow = omega arith
code_small Index = omega arith
code_small Size = omega arith
code_small Rate = omega arith
code_small SecondToken = omega arith
code_small Causality = omega arith
code_small Ambiguous = omega arith
code_small TimeLimit = omega arith
code_small Length = omega arith

-- ends with no more words
pub plain_is : (e end : RunEnd) (text : List ℕ) → last_line e ≡ text → Some end ≡ plain_end text → end ≡ e
plain_is Stop end text e p = same_Some _ _ (p ∙ ap plain_end (sym e))
plain_is Idle end text e p = same_Some _ _ (p ∙ ap plain_end (sym e))
plain_is Iterations end text e p = same_Some _ _ (p ∙ ap plain_end (sym e))
plain_is Inputs end text e p = same_Some _ _ (p ∙ ap plain_end (sym e))
plain_is Deadlock end text e p = same_Some _ _ (p ∙ ap plain_end (sym e))
plain_is (Fault place) end text e p = absurd (none-some end (sym (p ∙ ap plain_end (sym e))))
plain_is (Budget count) end text e p = absurd (none-some end (sym (p ∙ ap plain_end (sym e))))
plain_is (Queue blocked) end text e p = absurd (none-some end (sym (p ∙ ap plain_end (sym e))))

abbrev IsPlainForm : Option RunEnd → Type 0
IsPlainForm o = IfSome o (λ e. IsEnd e × HasShortPlaces e)

pub plain_form : (e : RunEnd) (text : List ℕ) → Some e ≡ plain_end text → IsEnd e × HasShortPlaces e
plain_form e text h =
    let k : IsPlainForm (plain_end text) =
    cond_both (bytes_eq text (codes "end stop\n")) _ _ IsPlainForm (λ _. (tt, tt)) (λ _.
    cond_both (bytes_eq text (codes "end idle\n")) _ _ IsPlainForm (λ _. (tt, tt)) (λ _.
    cond_both (bytes_eq text (codes "end iterations\n")) _ _ IsPlainForm (λ _. (tt, tt)) (λ _.
    cond_both (bytes_eq text (codes "end inputs\n")) _ _ IsPlainForm (λ _. (tt, tt)) (λ _.
    cond_both (bytes_eq text (codes "end deadlock\n")) _ _ IsPlainForm (λ _. (tt, tt)) (λ _. tt))))) in
    subst IsPlainForm (sym h) k

-- a fault, a budget and a full network, by the words before them
pub record IsFault (e : RunEnd) (rest : List ℕ) : Type 0 where
  pub place : Place
  pub path : IsPath place.path
  pub firing : place.firing < 2 ^ 64
  pub is : Fault place ≡ e
  pub printed : fault_rest place ≡ rest

pub fault_is : (e : RunEnd) (text rest : List ℕ) → IsLastLine e → last_line e ≡ text → Some rest ≡ without (codes "end fault ") text → IsFault e rest
fault_is Stop text rest h e p = absurd (none-some rest (sym (p ∙ ap (without (codes "end fault ")) (sym e))))
fault_is Idle text rest h e p = absurd (none-some rest (sym (p ∙ ap (without (codes "end fault ")) (sym e))))
fault_is Iterations text rest h e p = absurd (none-some rest (sym (p ∙ ap (without (codes "end fault ")) (sym e))))
fault_is Inputs text rest h e p = absurd (none-some rest (sym (p ∙ ap (without (codes "end fault ")) (sym e))))
fault_is Deadlock text rest h e p = absurd (none-some rest (sym (p ∙ ap (without (codes "end fault ")) (sym e))))
fault_is (Fault place) text rest h e p = record { place = place; path = h.0; firing = h.1; is = refl; printed = sym (same_Some _ _ (p ∙ ap (without (codes "end fault ")) (sym e))) }
fault_is (Budget count) text rest h e p = absurd (none-some rest (sym (p ∙ ap (without (codes "end fault ")) (sym e))))
fault_is (Queue blocked) text rest h e p = absurd (none-some rest (sym (p ∙ ap (without (codes "end fault ")) (sym e))))

pub record IsBudget (e : RunEnd) (rest : List ℕ) : Type 0 where
  pub count : ℕ
  pub short : count < 2 ^ 64
  pub is : Budget count ≡ e
  pub printed : budget_rest count ≡ rest

pub budget_is : (e : RunEnd) (text rest : List ℕ) → IsLastLine e → last_line e ≡ text → Some rest ≡ without (codes "end budget ") text → IsBudget e rest
budget_is Stop text rest h e p = absurd (none-some rest (sym (p ∙ ap (without (codes "end budget ")) (sym e))))
budget_is Idle text rest h e p = absurd (none-some rest (sym (p ∙ ap (without (codes "end budget ")) (sym e))))
budget_is Iterations text rest h e p = absurd (none-some rest (sym (p ∙ ap (without (codes "end budget ")) (sym e))))
budget_is Inputs text rest h e p = absurd (none-some rest (sym (p ∙ ap (without (codes "end budget ")) (sym e))))
budget_is Deadlock text rest h e p = absurd (none-some rest (sym (p ∙ ap (without (codes "end budget ")) (sym e))))
budget_is (Fault place) text rest h e p = absurd (none-some rest (sym (p ∙ ap (without (codes "end budget ")) (sym e))))
budget_is (Budget count) text rest h e p = record { count = count; short = h; is = refl; printed = sym (same_Some _ _ (p ∙ ap (without (codes "end budget ")) (sym e))) }
budget_is (Queue blocked) text rest h e p = absurd (none-some rest (sym (p ∙ ap (without (codes "end budget ")) (sym e))))

pub record IsQueue (e : RunEnd) (rows : List (List ℕ × ℕ)) (rest : List ℕ) : Type 0 where
  pub blocked : Blocked
  pub path : IsPath blocked.path
  pub is : Queue blocked ≡ e
  pub channels : blocked.channels ≡ rows
  pub printed : queue_rest blocked ≡ rest

pub queue_is : (e : RunEnd) (rows : List (List ℕ × ℕ)) (text rest : List ℕ) → IsLastLine e → rows_of e ≡ rows → last_line e ≡ text → Some rest ≡ without (codes "end queue ") text → IsQueue e rows rest
queue_is Stop rows text rest h r e p = absurd (none-some rest (sym (p ∙ ap (without (codes "end queue ")) (sym e))))
queue_is Idle rows text rest h r e p = absurd (none-some rest (sym (p ∙ ap (without (codes "end queue ")) (sym e))))
queue_is Iterations rows text rest h r e p = absurd (none-some rest (sym (p ∙ ap (without (codes "end queue ")) (sym e))))
queue_is Inputs rows text rest h r e p = absurd (none-some rest (sym (p ∙ ap (without (codes "end queue ")) (sym e))))
queue_is Deadlock rows text rest h r e p = absurd (none-some rest (sym (p ∙ ap (without (codes "end queue ")) (sym e))))
queue_is (Fault place) rows text rest h r e p = absurd (none-some rest (sym (p ∙ ap (without (codes "end queue ")) (sym e))))
queue_is (Budget count) rows text rest h r e p = absurd (none-some rest (sym (p ∙ ap (without (codes "end queue ")) (sym e))))
queue_is (Queue blocked) rows text rest h r e p = record { blocked = blocked; path = h; is = refl; channels = r; printed = sym (same_Some _ _ (p ∙ ap (without (codes "end queue ")) (sym e))) }

-- each end has one of these forms
pub some_form : (e : RunEnd) (text : List ℕ) → last_line e ≡ text → None ≡ without (codes "end queue ") text → None ≡ plain_end text → None ≡ without (codes "end fault ") text → None ≡ without (codes "end budget ") text → ⊥
some_form Stop text e q p f b = none-some _ (p ∙ ap plain_end (sym e))
some_form Idle text e q p f b = none-some _ (p ∙ ap plain_end (sym e))
some_form Iterations text e q p f b = none-some _ (p ∙ ap plain_end (sym e))
some_form Inputs text e q p f b = none-some _ (p ∙ ap plain_end (sym e))
some_form Deadlock text e q p f b = none-some _ (p ∙ ap plain_end (sym e))
some_form (Fault place) text e q p f b = none-some _ (f ∙ ap (without (codes "end fault ")) (sym e))
some_form (Budget count) text e q p f b = none-some _ (b ∙ ap (without (codes "end budget ")) (sym e))
some_form (Queue blocked) text e q p f b = none-some _ (q ∙ ap (without (codes "end queue ")) (sym e))

-- the text of an end: its full channels, and its last line
pub end_listed : (e : RunEnd) → listed say_row [] (rows_of e) ++ last_line e ≡ end_text e
end_listed Stop = refl
end_listed Idle = refl
end_listed Iterations = refl
end_listed Inputs = refl
end_listed Deadlock = refl
end_listed (Fault place) = refl
end_listed (Budget count) = refl
end_listed (Queue blocked) = ap (λ r. r ++ (codes "end queue " ++ queue_rest blocked)) (flat_listed (λ row. full_line row.0 row.1) [] blocked.channels)

pub last_front : (e : RunEnd) → begins_row (front (last_line e)) ≡ false
last_front Stop = refl
last_front Idle = refl
last_front Iterations = refl
last_front Inputs = refl
last_front Deadlock = refl
last_front (Fault place) = refl
last_front (Budget count) = refl
last_front (Queue blocked) = refl

-- with which byte what follows the traces and the meetings begins
rows_front : (p : ℕ → Bool) → p 101 ≡ false → p 102 ≡ false → (rows : List (List ℕ × ℕ)) (rest : List ℕ) → p (front (full_lines rows ++ (codes "end queue " ++ rest))) ≡ false
rows_front p a b [] rest = a
rows_front p a b (row ∷ rows) rest = b

pub end_front : (p : ℕ → Bool) → p 101 ≡ false → p 102 ≡ false → (e : RunEnd) → p (front (end_text e)) ≡ false
end_front p a b Stop = a
end_front p a b Idle = a
end_front p a b Iterations = a
end_front p a b Inputs = a
end_front p a b Deadlock = a
end_front p a b (Fault place) = a
end_front p a b (Budget count) = a
end_front p a b (Queue blocked) = rows_front p a b blocked.channels _

pub meetings_front : (p : ℕ → Bool) → p 101 ≡ false → p 102 ≡ false → p 109 ≡ false → (ms : List Meetings) (e : RunEnd) → p (front (listed say_meetings [] ms ++ end_text e)) ≡ false
meetings_front p a b m [] e = end_front p a b e
meetings_front p a b m (meetings ∷ ms) e = m

-- the text of a report, part by part
pub report_listed : (r : Report) → listed say_trace [] r.traces ++ (listed say_meetings [] r.meetings ++ end_text r.end) ≡ report_text r
report_listed r =
    let t = flat_listed trace_text [] r.traces in
    let m = flat_listed meetings_text [] r.meetings in
    sym (append_assoc (listed say_trace [] r.traces) (listed say_meetings [] r.meetings) (end_text r.end)) ∙ (λ i. (t i ++ m i) ++ end_text r.end)

-- what holds of the parts of a report that a run may have
pub run_traces : (r : Report) → IsRunReport r → All IsRunTrace r.traces
run_traces r h =
    both IsTrace (λ (trace : Trace). All FitsTagged trace.tokens) IsRunTrace (λ trace a b. record { form = a; tokens = b }) r.traces h.formed.form.traces h.fits.traces

pub run_meetings : (r : Report) → IsRunReport r → All AreRunMeetings r.meetings
run_meetings r h =
    both AreMeetings (λ (m : Meetings). All FitsLine m.lines) AreRunMeetings (λ m a b. record {
      path = a.path;
      lines = both (λ (line : MeetingLine). IsMeeting line.what) FitsLine IsRunMeeting (λ line c d. record { form = c; fits = d }) m.lines a.lines b;
    }) r.meetings h.formed.form.meetings h.fits.meetings

pub run_rows : (e : RunEnd) → HasShortPlaces e → FitsEnd e → All IsRunRow (rows_of e)
run_rows Stop h k = All-nil IsRunRow
run_rows Idle h k = All-nil IsRunRow
run_rows Iterations h k = All-nil IsRunRow
run_rows Inputs h k = All-nil IsRunRow
run_rows Deadlock h k = All-nil IsRunRow
run_rows (Fault place) h k = All-nil IsRunRow
run_rows (Budget count) h k = All-nil IsRunRow
run_rows (Queue blocked) h k = both (λ (row : List ℕ × ℕ). IsShortPlace row.0) (λ (row : List ℕ × ℕ). row.1 < 2 ^ 64) IsRunRow (λ row a b. record { place = a; length = b }) blocked.channels h k

pub run_last : (e : RunEnd) → IsEnd e → FitsEnd e → IsLastLine e
run_last Stop h k = tt
run_last Idle h k = tt
run_last Iterations h k = tt
run_last Inputs h k = tt
run_last Deadlock h k = tt
run_last (Fault place) h k = (h, k)
run_last (Budget count) h k = k
run_last (Queue blocked) h k = h.path
