-- The reports that a run may have.
use Rattle.std.specs.Prelude.{◌≡◌, ℕ, ◌<◌, ◌^◌, List, All}
use Rattle.pt_meaning.specs.Basics.{Tag}
use Rattle.pt_value.specs.declared.token.Token.{Token}
use Rattle.pt_value.specs.Token.{value_of}
use Rattle.pt_trace.specs.declared.meetings.ChildPlace.{ChildPlace}
use Rattle.pt_trace.specs.declared.meetings.Met.{Met}
use Rattle.pt_trace.specs.declared.meetings.Met.TheVariants.{Meet, Out, Barrier}
use Rattle.pt_trace.specs.declared.meetings.MeetingLine.{MeetingLine}
use Rattle.pt_trace.specs.declared.run_end.RunEnd.{RunEnd}
use Rattle.pt_trace.specs.declared.run_end.RunEnd.TheVariants.{Stop, Idle, Iterations, Inputs, Deadlock, Fault, Budget, Queue}
use Rattle.pt_trace.specs.Report.{Trace, Meetings, Report}
use Rattle.pt_trace.specs.MeetingText.{place_text}
use Rattle.pt_trace.specs.ReportForm.{HasForm, IsPlace}
use Rattle.pt_readback.specs.Token.{IsTokenValue}

-- the text of a place whose channel's number has 64 bits
pub record IsShortPlace (text : List ℕ) : Type 0 where
  pub place : ChildPlace
  pub form : IsPlace place
  pub short : place.channel < 2 ^ 64
  pub is : text ≡ place_text place

-- each full channel is told by such a text
abbrev pub HasShortPlaces : RunEnd → Type 0
HasShortPlaces Stop = Unit {0}
HasShortPlaces Idle = Unit {0}
HasShortPlaces Iterations = Unit {0}
HasShortPlaces Inputs = Unit {0}
HasShortPlaces Deadlock = Unit {0}
HasShortPlaces (Fault place) = Unit {0}
HasShortPlaces (Budget count) = Unit {0}
HasShortPlaces (Queue blocked) = All (λ (row : List ℕ × ℕ). IsShortPlace row.0) blocked.channels

-- a report of the format, whose full channels have numbers of 64 bits
pub record IsFormed (report : Report) : Type 0 where
  pub form : HasForm report
  pub full : HasShortPlaces report.end

-- a tag of 64 and 32 bits with a token's value
pub record FitsTagged (t : Tag × Token) : Type 0 where
  pub time : t.0.time < 2 ^ 64
  pub step : t.0.step < 2 ^ 32
  pub value : IsTokenValue (value_of t.1)

-- the number of a meeting's channel has 64 bits
abbrev pub FitsMet : Met → Type 0
FitsMet (Meet place) = place.channel < 2 ^ 64
FitsMet (Out port) = Unit {0}
FitsMet (Barrier child) = Unit {0}

-- and the number of its firing
pub record FitsLine (line : MeetingLine) : Type 0 where
  pub firing : line.firing < 2 ^ 64
  pub met : FitsMet line.what

-- the numbers of an end have 64 bits
abbrev pub FitsEnd : RunEnd → Type 0
FitsEnd Stop = Unit {0}
FitsEnd Idle = Unit {0}
FitsEnd Iterations = Unit {0}
FitsEnd Inputs = Unit {0}
FitsEnd Deadlock = Unit {0}
FitsEnd (Fault place) = place.firing < 2 ^ 64
FitsEnd (Budget count) = count < 2 ^ 64
FitsEnd (Queue blocked) = All (λ (row : List ℕ × ℕ). row.1 < 2 ^ 64) blocked.channels

-- what the types of a report's parts keep
pub record FitsTypes (report : Report) : Type 0 where
  pub traces : All (λ (trace : Trace). All FitsTagged trace.tokens) report.traces
  pub meetings : All (λ (meetings : Meetings). All FitsLine meetings.lines) report.meetings
  pub end : FitsEnd report.end

-- a report that a run may have
pub record IsRunReport (report : Report) : Type 0 where
  pub formed : IsFormed report
  pub fits : FitsTypes report
