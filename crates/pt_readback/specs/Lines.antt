-- The lines of a report, part by part.
use Rattle.std.specs.Prelude.{◌≡◌, ℕ, ◌<◌, ◌^◌, List, [], ◌∷◌, ◌++◌, ◌==◌, length, Bool, false, All, codes, decimal, Option, Some, None, if◌then◌else◌, bytes_eq}
use Rattle.pt_meaning.specs.Basics.{Tag}
use Rattle.pt_value.specs.declared.token.Token.{Token}
use Rattle.pt_firing.specs.declared.answer.Place.{Place}
use Rattle.pt_firing.specs.declared.answer.Blocked.{Blocked}
use Rattle.pt_firing.specs.declared.fault.RunFault.{RunFault}
use Rattle.pt_firing.specs.declared.fault.RunFault.TheVariants.{DivideByZero, Overflow, Index, Size, Rate, SecondToken, Causality, Ambiguous, TimeLimit, Length}
use Rattle.pt_firing.specs.RunFault.{code_of}
use Rattle.pt_trace.specs.declared.meetings.ChildPlace.{ChildPlace}
use Rattle.pt_trace.specs.declared.meetings.Met.{Met}
use Rattle.pt_trace.specs.declared.meetings.Met.TheVariants.{Meet, Out, Barrier}
use Rattle.pt_trace.specs.declared.meetings.MeetingLine.{MeetingLine}
use Rattle.pt_trace.specs.declared.run_end.RunEnd.{RunEnd}
use Rattle.pt_trace.specs.declared.run_end.RunEnd.TheVariants.{Stop, Idle, Iterations, Inputs, Deadlock, Fault, Budget, Queue}
use Rattle.pt_trace.specs.Report.{Trace, Meetings, Report}
use Rattle.pt_trace.specs.ReportForm.{IsTrace, IsMeeting, AreMeetings, IsPath, IsPlace}
use Rattle.pt_trace.specs.TraceText.{token_line, trace_text}
use Rattle.pt_trace.specs.MeetingText.{count_of, meeting_line, meetings_text, place_text}
use Rattle.pt_trace.specs.EndText.{full_line, end_text}
use Rattle.pt_readback.specs.Report.{IsShortPlace, FitsTagged, FitsMet, FitsLine}

-- after what is listed nothing has to stop
abbrev pub never : ℕ → Bool
never c = false

-- the text of each, after earlier ones of its kind
abbrev pub say_token : List (Tag × Token) → Tag × Token → List ℕ
say_token earlier t = token_line (length earlier) t.0 t.1

abbrev pub say_trace : List Trace → Trace → List ℕ
say_trace earlier trace = trace_text trace

abbrev pub say_meeting : List MeetingLine → MeetingLine → List ℕ
say_meeting earlier line = meeting_line line (count_of line.firing earlier)

abbrev pub say_meetings : List Meetings → Meetings → List ℕ
say_meetings earlier meetings = meetings_text meetings

abbrev pub say_row : List (List ℕ × ℕ) → List ℕ × ℕ → List ℕ
say_row earlier row = full_line row.0 row.1

-- the byte with which each begins
abbrev pub begins_trace : ℕ → Bool
begins_trace c = c == 116

abbrev pub begins_meetings : ℕ → Bool
begins_meetings c = c == 109

abbrev pub begins_row : ℕ → Bool
begins_row c = c == 102

-- a trace, a meeting, the meetings of a composite and a full channel of a report that a run may have
pub record IsRunTrace (trace : Trace) : Type 0 where
  pub form : IsTrace trace
  pub tokens : All FitsTagged trace.tokens

pub record IsRunMeeting (line : MeetingLine) : Type 0 where
  pub form : IsMeeting line.what
  pub fits : FitsLine line

pub record AreRunMeetings (meetings : Meetings) : Type 0 where
  pub path : IsPath meetings.path
  pub lines : All IsRunMeeting meetings.lines

pub record IsRunRow (row : List ℕ × ℕ) : Type 0 where
  pub place : IsShortPlace row.0
  pub length : row.1 < 2 ^ 64

-- who met, in one of the forms
abbrev pub IsLineForm : MeetingLine → Type 0
IsLineForm line = IsMeeting line.what

-- a full channel's place, in its form
abbrev pub IsRowForm : List ℕ × ℕ → Type 0
IsRowForm row = IsShortPlace row.0

-- the place that a text tells
pub record Places (text : List ℕ) (place : ChildPlace) : Type 0 where
  pub form : IsPlace place
  pub short : place.channel < 2 ^ 64
  pub is : place_text place ≡ text

-- the word for a kind of meeting, and who met
abbrev pub word_of : Met → List ℕ
word_of (Meet place) = codes "meet"
word_of (Out port) = codes "out"
word_of (Barrier child) = codes "barrier"

abbrev pub who_of : Met → List ℕ
who_of (Meet place) = place_text place
who_of (Out port) = port
who_of (Barrier child) = child

-- the fault with a number
abbrev pub fault_of : ℕ → Option RunFault
fault_of n = if n == 30 then Some DivideByZero else (if n == 31 then Some Overflow else (if n == 32 then Some Index else (if n == 33 then Some Size else (if n == 34 then Some Rate else
    (if n == 35 then Some SecondToken else (if n == 36 then Some Causality else (if n == 37 then Some Ambiguous else (if n == 38 then Some TimeLimit else (if n == 39 then Some Length else None)))))))))

-- what follows the words `end fault`, `end budget` and `end queue`
abbrev pub fault_rest : Place → List ℕ
fault_rest place = decimal (code_of place.kind) ++ (codes " " ++ (place.path ++ (codes " " ++ (decimal place.firing ++ codes "\n"))))

abbrev pub budget_rest : ℕ → List ℕ
budget_rest count = decimal count ++ codes "\n"

abbrev pub queue_rest : Blocked → List ℕ
queue_rest blocked = blocked.path ++ (codes " " ++ (decimal (length blocked.channels) ++ codes "\n"))

-- the full channels of an end, and its last line
abbrev pub rows_of : RunEnd → List (List ℕ × ℕ)
rows_of Stop = []
rows_of Idle = []
rows_of Iterations = []
rows_of Inputs = []
rows_of Deadlock = []
rows_of (Fault place) = []
rows_of (Budget count) = []
rows_of (Queue blocked) = blocked.channels

abbrev pub last_line : RunEnd → List ℕ
last_line Stop = codes "end stop\n"
last_line Idle = codes "end idle\n"
last_line Iterations = codes "end iterations\n"
last_line Inputs = codes "end inputs\n"
last_line Deadlock = codes "end deadlock\n"
last_line (Fault place) = codes "end fault " ++ fault_rest place
last_line (Budget count) = codes "end budget " ++ budget_rest count
last_line (Queue blocked) = codes "end queue " ++ queue_rest blocked

-- an end with no more words, by its line
abbrev pub plain_end : List ℕ → Option RunEnd
plain_end text = if bytes_eq text (codes "end stop\n") then Some Stop else (if bytes_eq text (codes "end idle\n") then Some Idle else (if bytes_eq text (codes "end iterations\n") then Some Iterations else
    (if bytes_eq text (codes "end inputs\n") then Some Inputs else (if bytes_eq text (codes "end deadlock\n") then Some Deadlock else None))))

-- what follows some bytes at the front of a text
abbrev pub without : List ℕ → List ℕ → Option (List ℕ)
without [] text = Some text
without (c ∷ cs) [] = None
without (c ∷ cs) (d ∷ ds) = if d == c then without cs ds else None

-- an end in its form, with numbers of 64 bits
abbrev pub IsLastLine : RunEnd → Type 0
IsLastLine Stop = Unit {0}
IsLastLine Idle = Unit {0}
IsLastLine Iterations = Unit {0}
IsLastLine Inputs = Unit {0}
IsLastLine Deadlock = Unit {0}
IsLastLine (Fault place) = IsPath place.path × (place.firing < 2 ^ 64)
IsLastLine (Budget count) = count < 2 ^ 64
IsLastLine (Queue blocked) = IsPath blocked.path
