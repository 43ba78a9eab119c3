-- Which reports have the form of the format: each path and each port in them is told by names. The rest is kept by the types.
use Rattle.std.specs.Prelude.{◌≡◌, ◌⊎◌, ℕ, ◌≤◌, List, [], ◌∷◌, ◌++◌, length, All, codes}
use Rattle.pt_value.specs.Name.{HasNameForm}
use Rattle.pt_firing.specs.declared.answer.Blocked.{Blocked}
use Rattle.pt_trace.specs.declared.meetings.ChildPlace.{ChildPlace}
use Rattle.pt_trace.specs.declared.meetings.Met.{Met}
use Rattle.pt_trace.specs.declared.meetings.Met.TheVariants.{Meet, Out, Barrier}
use Rattle.pt_trace.specs.declared.meetings.MeetingLine.{MeetingLine}
use Rattle.pt_trace.specs.declared.run_end.RunEnd.{RunEnd}
use Rattle.pt_trace.specs.declared.run_end.RunEnd.TheVariants.{Stop, Idle, Iterations, Inputs, Deadlock, Fault, Budget, Queue}
use Rattle.pt_trace.specs.Report.{Trace, Meetings, Report}
use Rattle.pt_trace.specs.MeetingText.{place_text}

-- a name of an entity or a port, which may be a word that expressions reserve
pub record IsName (name : List ℕ) : Type 0 where
  pub form : HasNameForm name
  pub short : length name ≤ 64

-- names, joined by dots
abbrev pub joined : List ℕ → List (List ℕ) → List ℕ
joined name [] = name
joined name (n ∷ ns) = name ++ (codes "." ++ joined n ns)

-- one or more names so joined
pub record AreNames (text : List ℕ) : Type 0 where
  pub first : List ℕ
  pub rest : List (List ℕ)
  pub named : IsName first × All IsName rest
  pub is : text ≡ joined first rest

-- the path of an entity: names, or a dot for the top
abbrev pub IsPath : List ℕ → Type 0
IsPath text = (text ≡ codes ".") ⊎ AreNames text

-- a place is of a child below the composite, and of a port
pub record IsPlace (place : ChildPlace) : Type 0 where
  pub child : AreNames place.child
  pub port : IsName place.port

-- the text of such a place
abbrev pub IsPlaceText : List ℕ → Type 0
IsPlaceText text = (place : ChildPlace) × IsPlace place × (text ≡ place_text place)

-- a meeting on the channel to a place, on that to an output, or of a Barrier
abbrev pub IsMeeting : Met → Type 0
IsMeeting (Meet place) = IsPlace place
IsMeeting (Out port) = IsName port
IsMeeting (Barrier child) = AreNames child

-- the trace of a port, which has a name
abbrev pub IsTrace : Trace → Type 0
IsTrace trace = AreNames trace.text

-- the meetings of a composite
pub record AreMeetings (meetings : Meetings) : Type 0 where
  pub path : IsPath meetings.path
  pub lines : All (λ (line : MeetingLine). IsMeeting line.what) meetings.lines

-- a full network, with the places of the channels that it waits for
pub record IsFull (blocked : Blocked) : Type 0 where
  pub path : IsPath blocked.path
  pub places : All (λ (row : List ℕ × ℕ). IsPlaceText row.0) blocked.channels

abbrev pub IsEnd : RunEnd → Type 0
IsEnd Stop = Unit {0}
IsEnd Idle = Unit {0}
IsEnd Iterations = Unit {0}
IsEnd Inputs = Unit {0}
IsEnd Deadlock = Unit {0}
IsEnd (Fault place) = IsPath place.path
IsEnd (Budget count) = Unit {0}
IsEnd (Queue blocked) = IsFull blocked

-- a report of the format
pub record HasForm (report : Report) : Type 0 where
  pub traces : All IsTrace report.traces
  pub meetings : All AreMeetings report.meetings
  pub end : IsEnd report.end
