-- Where each line of a report is cut, and with which byte it begins.
use Rattle.std.proofs.Common.{◌≡◌, ◌≢◌, ℕ, suc, ◌+◌, ◌<◌, ◌^◌, List, [], ◌∷◌, ◌++◌, length, Bool, true, false, Option, Some, None, All, codes, refl, sym, ap, subst, ◌∙◌, append_assoc, append-nil, arith}
use Rattle.std.specs.Prelude.{decimal, flat_map}
use Rattle.std.specs.Char.{is_ascii_digit}
use Rattle.std.proofs.lemmas.List.{length_push}
use Rattle.pt_meaning.specs.Basics.{Tag}
use Rattle.pt_value.specs.declared.token.Token.{Token}
use Rattle.pt_value.specs.Token.{value_of}
use Rattle.pt_value.specs.Printed.{printed}
use Rattle.pt_firing.specs.declared.answer.Place.{Place}
use Rattle.pt_firing.specs.declared.answer.Blocked.{Blocked}
use Rattle.pt_firing.specs.RunFault.{code_of}
use Rattle.pt_trace.specs.declared.meetings.ChildPlace.{ChildPlace}
use Rattle.pt_trace.specs.declared.meetings.Met.{Met}
use Rattle.pt_trace.specs.declared.meetings.Met.TheVariants.{Meet, Out, Barrier}
use Rattle.pt_trace.specs.declared.meetings.MeetingLine.{MeetingLine}
use Rattle.pt_trace.specs.Report.{Trace, Meetings}
use Rattle.pt_trace.specs.ReportForm.{IsName, AreNames, IsMeeting, IsPath}
use Rattle.pt_trace.specs.TraceText.{token_line, token_lines, trace_text}
use Rattle.pt_trace.specs.MeetingText.{count_of, met_text, meeting_line, meeting_lines, meetings_text, place_text}
use Rattle.pt_trace.specs.EndText.{full_line}
use Rattle.pt_readback.specs.Report.{IsShortPlace, FitsTagged, FitsMet}
use Rattle.pt_readback.specs.Listed.{front, listed, cut, cut_two, cut_three}
use Rattle.pt_readback.specs.Lines.{IsRunTrace, IsRunMeeting, AreRunMeetings, IsRunRow, Places, begins_trace, begins_meetings, begins_row, never, say_token, say_trace, say_meeting, say_meetings, say_row, word_of, who_of, fault_rest, budget_rest, queue_rest}
use Rattle.pt_readback.proofs.Bytes.{Has, Lacks, path_byte, name_in_path, number_name, number_first, name_lacks_dot, path_lacks_blank, path_lacks_end, name_bytes, names_bytes, path_bytes, place_bytes}
use Rattle.pt_readback.proofs.Plain.{printed_plain}
use Rattle.pt_readback.proofs.CutParts.{cut_is, cut_two_is, cut_three_is}

pub number_no_dot : (n : ℕ) → Lacks 46 (decimal n)
number_no_dot n = name_lacks_dot (decimal n) (number_name n)

number_no_blank : (n : ℕ) → Lacks 32 (decimal n)
number_no_blank n = path_lacks_blank (decimal n) (name_in_path (decimal n) (number_name n))

number_no_end : (n : ℕ) → Lacks 10 (decimal n)
number_no_end n = path_lacks_end (decimal n) (name_in_path (decimal n) (number_name n))

-- tokens
pub token_starts : (earlier : List (Tag × Token)) (t : Tag × Token) (rest : List ℕ) → FitsTagged t → is_ascii_digit (front (say_token earlier t ++ rest)) ≡ true
token_starts earlier t rest h = ap (λ r. is_ascii_digit (front r)) (append_assoc (decimal (length earlier)) _ rest) ∙ number_first (length earlier) _

pub token_stops : (earlier : List (Tag × Token)) (t : Tag × Token) (rest : List ℕ) → FitsTagged t → never (front (say_token earlier t ++ rest)) ≡ false
token_stops earlier t rest h = refl

abbrev pub tagged_tail : Tag × Token → List ℕ → List ℕ
tagged_tail t after = decimal t.0.time ++ 46 ∷ (decimal t.0.step ++ 32 ∷ (printed (value_of t.1) ++ 10 ∷ after))

pub token_cut : (n : ℕ) (t : Tag × Token) (after text : List ℕ) → token_line n t.0 t.1 ++ after ≡ text → cut 32 text ≡ Some (decimal n, tagged_tail t after)
token_cut n t after text e =
    let k : decimal n ++ 32 ∷ tagged_tail t after ≡ token_line n t.0 t.1 ++ after = simp append_assoc in
    cut_is 32 (decimal n) (tagged_tail t after) text (number_no_blank n) (k ∙ e)

pub tagged_cut : (t : Tag × Token) (after : List ℕ) → FitsTagged t → cut_three 46 32 10 (tagged_tail t after) ≡ Some (decimal t.0.time, decimal t.0.step, printed (value_of t.1), after)
tagged_cut t after h = cut_three_is 46 32 10 _ _ _ after _ (number_no_dot t.0.time) (number_no_blank t.0.step) (printed_plain (value_of t.1) h.value) refl

pub tokens_listed : (earlier ts : List (Tag × Token)) → listed say_token earlier ts ≡ token_lines (length earlier) ts
tokens_listed earlier [] = refl
tokens_listed earlier (t ∷ ts) =
    let n : length (earlier ++ t ∷ []) ≡ suc (length earlier) = omega (arith, length_push earlier t) in
    ap (λ r. token_line (length earlier) t.0 t.1 ++ r) (tokens_listed (earlier ++ t ∷ []) ts ∙ ap (λ m. token_lines m ts) n)

-- a trace
pub trace_cut : (t : Trace) (after text : List ℕ) → IsRunTrace t → trace_text t ++ after ≡ text → cut_two 32 10 text ≡ Some (codes "trace", t.text, listed say_token [] t.tokens ++ after)
trace_cut t after text h e =
    let ls : List ℕ = listed say_token [] t.tokens in
    let k : codes "trace " ++ (t.text ++ 10 ∷ (ls ++ after)) ≡ ((codes "trace " ++ (t.text ++ codes "\n")) ++ ls) ++ after = simp append_assoc in
    let l = ap (λ r. ((codes "trace " ++ (t.text ++ codes "\n")) ++ r) ++ after) (tokens_listed [] t.tokens) in
    cut_two_is 32 10 (codes "trace") t.text (ls ++ after) text refl (path_lacks_end t.text (names_bytes t.text h.form)) (k ∙ l ∙ e)

-- meetings
pub meeting_starts : (earlier : List MeetingLine) (l : MeetingLine) (rest : List ℕ) → IsRunMeeting l → is_ascii_digit (front (say_meeting earlier l ++ rest)) ≡ true
meeting_starts earlier l rest h = ap (λ r. is_ascii_digit (front r)) (append_assoc (decimal l.firing) _ rest) ∙ number_first l.firing _

pub meeting_stops : (earlier : List MeetingLine) (l : MeetingLine) (rest : List ℕ) → IsRunMeeting l → never (front (say_meeting earlier l ++ rest)) ≡ false
meeting_stops earlier l rest h = refl

abbrev pub meeting_tail : ℕ → Met → List ℕ → List ℕ
meeting_tail index m after = decimal index ++ 32 ∷ (word_of m ++ 32 ∷ (who_of m ++ 10 ∷ after))

met_words : (m : Met) → met_text m ≡ word_of m ++ 32 ∷ who_of m
met_words (Meet place) = refl
met_words (Out port) = refl
met_words (Barrier child) = refl

word_no_blank : (m : Met) → Lacks 32 (word_of m)
word_no_blank (Meet place) = refl
word_no_blank (Out port) = refl
word_no_blank (Barrier child) = refl

who_no_end : (m : Met) → IsMeeting m → Lacks 10 (who_of m)
who_no_end (Meet place) h = path_lacks_end (place_text place) (place_bytes place h)
who_no_end (Out port) h = path_lacks_end port (name_in_path port (name_bytes port h))
who_no_end (Barrier child) h = path_lacks_end child (names_bytes child h)

pub meeting_cut : (index : ℕ) (l : MeetingLine) (after text : List ℕ) → meeting_line l index ++ after ≡ text → cut 32 text ≡ Some (decimal l.firing, meeting_tail index l.what after)
meeting_cut index l after text e =
    let k : decimal l.firing ++ 32 ∷ meeting_tail index l.what after ≡ (decimal l.firing ++ (codes " " ++ (decimal index ++ (codes " " ++ ((word_of l.what ++ 32 ∷ who_of l.what) ++ codes "\n"))))) ++ after = simp append_assoc in
    let m = ap (λ r. (decimal l.firing ++ (codes " " ++ (decimal index ++ (codes " " ++ (r ++ codes "\n"))))) ++ after) (sym (met_words l.what)) in
    cut_is 32 (decimal l.firing) (meeting_tail index l.what after) text (number_no_blank l.firing) (k ∙ m ∙ e)

pub met_cut : (index : ℕ) (m : Met) (after : List ℕ) → IsMeeting m → cut_three 32 32 10 (meeting_tail index m after) ≡ Some (decimal index, word_of m, who_of m, after)
met_cut index m after h = cut_three_is 32 32 10 _ _ _ after _ (number_no_blank index) (word_no_blank m) (who_no_end m h) refl

pub meetings_listed : (earlier ls : List MeetingLine) → listed say_meeting earlier ls ≡ meeting_lines earlier ls
meetings_listed earlier [] = refl
meetings_listed earlier (l ∷ ls) = ap (λ r. meeting_line l (count_of l.firing earlier) ++ r) (meetings_listed (earlier ++ l ∷ []) ls)

pub meetings_cut : (m : Meetings) (after text : List ℕ) → AreRunMeetings m → meetings_text m ++ after ≡ text → cut_two 32 10 text ≡ Some (codes "meetings", m.path, listed say_meeting [] m.lines ++ after)
meetings_cut m after text h e =
    let ls : List ℕ = listed say_meeting [] m.lines in
    let k : codes "meetings " ++ (m.path ++ 10 ∷ (ls ++ after)) ≡ ((codes "meetings " ++ (m.path ++ codes "\n")) ++ ls) ++ after = simp append_assoc in
    let l = ap (λ r. ((codes "meetings " ++ (m.path ++ codes "\n")) ++ r) ++ after) (meetings_listed [] m.lines) in
    cut_two_is 32 10 (codes "meetings") m.path (ls ++ after) text refl (path_lacks_end m.path (path_bytes m.path h.path)) (k ∙ l ∙ e)

-- full channels
pub row_cut : (row : List ℕ × ℕ) (after text : List ℕ) → IsRunRow row → full_line row.0 row.1 ++ after ≡ text → cut_three 32 32 10 text ≡ Some (codes "full", row.0, decimal row.1, after)
row_cut row after text h e =
    let k : codes "full " ++ (row.0 ++ 32 ∷ (decimal row.1 ++ 10 ∷ after)) ≡ full_line row.0 row.1 ++ after = simp append_assoc in
    let b = subst (Has path_byte) (sym h.place.is) (place_bytes h.place.place h.place.form) in
    cut_three_is 32 32 10 (codes "full") row.0 (decimal row.1) after text refl (path_lacks_blank row.0 b) (number_no_end row.1) (k ∙ e)

-- ends
pub fault_cut : (p : Place) (text : List ℕ) → IsPath p.path → fault_rest p ≡ text → cut_three 32 32 10 text ≡ Some (decimal (code_of p.kind), p.path, decimal p.firing, [])
fault_cut p text h e =
    cut_three_is 32 32 10 _ _ _ [] text (number_no_blank (code_of p.kind)) (path_lacks_blank p.path (path_bytes p.path h)) (number_no_end p.firing) e

pub budget_cut : (n : ℕ) (text : List ℕ) → budget_rest n ≡ text → cut 10 text ≡ Some (decimal n, [])
budget_cut n text e = cut_is 10 (decimal n) [] text (number_no_end n) e

pub queue_cut : (b : Blocked) (text : List ℕ) → IsPath b.path → queue_rest b ≡ text → cut_two 32 10 text ≡ Some (b.path, decimal (length b.channels), [])
queue_cut b text h e = cut_two_is 32 10 _ _ [] text (path_lacks_blank b.path (path_bytes b.path h)) (number_no_end (length b.channels)) e

-- the first bytes of what is listed
pub trace_starts : (earlier : List Trace) (t : Trace) (rest : List ℕ) → IsRunTrace t → begins_trace (front (say_trace earlier t ++ rest)) ≡ true
trace_starts earlier t rest h = refl

pub trace_stops : (earlier : List Trace) (t : Trace) (rest : List ℕ) → IsRunTrace t → is_ascii_digit (front (say_trace earlier t ++ rest)) ≡ false
trace_stops earlier t rest h = refl

pub meetings_starts : (earlier : List Meetings) (m : Meetings) (rest : List ℕ) → AreRunMeetings m → begins_meetings (front (say_meetings earlier m ++ rest)) ≡ true
meetings_starts earlier m rest h = refl

pub meetings_stops : (earlier : List Meetings) (m : Meetings) (rest : List ℕ) → AreRunMeetings m → is_ascii_digit (front (say_meetings earlier m ++ rest)) ≡ false
meetings_stops earlier m rest h = refl

pub row_starts : (earlier : List (List ℕ × ℕ)) (row : List ℕ × ℕ) (rest : List ℕ) → IsRunRow row → begins_row (front (say_row earlier row ++ rest)) ≡ true
row_starts earlier row rest h = refl

pub row_stops : (earlier : List (List ℕ × ℕ)) (row : List ℕ × ℕ) (rest : List ℕ) → IsRunRow row → never (front (say_row earlier row ++ rest)) ≡ false
row_stops earlier row rest h = refl

-- who met, by the word for the kind of meeting
pub record IsMeet (m : Met) (who : List ℕ) : Type 0 where
  pub place : ChildPlace
  pub told : Places who place
  pub is : Meet place ≡ m

pub record IsOut (m : Met) (who : List ℕ) : Type 0 where
  pub name : IsName who
  pub is : Out who ≡ m

pub record IsBarrier (m : Met) (who : List ℕ) : Type 0 where
  pub names : AreNames who
  pub is : Barrier who ≡ m

pub meet_is : (m : Met) (kind who : List ℕ) → IsMeeting m → FitsMet m → word_of m ≡ kind → who_of m ≡ who → front kind ≡ 109 → IsMeet m who
meet_is (Meet place) kind who h f w e k = record { place = place; told = record { form = h; short = f; is = e }; is = refl }
meet_is (Out port) kind who h f w e k = let no : ◌≡◌ {A = ℕ} 111 109 = ap front w ∙ k in absurd (omega arith)
meet_is (Barrier child) kind who h f w e k = let no : ◌≡◌ {A = ℕ} 98 109 = ap front w ∙ k in absurd (omega arith)

pub out_is : (m : Met) (kind who : List ℕ) → IsMeeting m → word_of m ≡ kind → who_of m ≡ who → front kind ≡ 111 → IsOut m who
out_is (Meet place) kind who h w e k = let no : ◌≡◌ {A = ℕ} 109 111 = ap front w ∙ k in absurd (omega arith)
out_is (Out port) kind who h w e k = record { name = subst IsName e h; is = ap Out (sym e) }
out_is (Barrier child) kind who h w e k = let no : ◌≡◌ {A = ℕ} 98 111 = ap front w ∙ k in absurd (omega arith)

pub barrier_is : (m : Met) (kind who : List ℕ) → IsMeeting m → word_of m ≡ kind → who_of m ≡ who → front kind ≡ 98 → IsBarrier m who
barrier_is (Meet place) kind who h w e k = let no : ◌≡◌ {A = ℕ} 109 98 = ap front w ∙ k in absurd (omega arith)
barrier_is (Out port) kind who h w e k = let no : ◌≡◌ {A = ℕ} 111 98 = ap front w ∙ k in absurd (omega arith)
barrier_is (Barrier child) kind who h w e k = record { names = subst AreNames e h; is = ap Barrier (sym e) }

pub some_kind : (m : Met) (kind : List ℕ) → word_of m ≡ kind → front kind ≢ 109 → front kind ≢ 111 → front kind ≢ 98 → ⊥
some_kind (Meet place) kind w a b d = a (sym (ap front w))
some_kind (Out port) kind w a b d = b (sym (ap front w))
some_kind (Barrier child) kind w a b d = d (sym (ap front w))
