-- What a report tells.
use Rattle.std.specs.Prelude.{ℕ, List}
use Rattle.pt_meaning.specs.Basics.{Tag}
use Rattle.pt_value.specs.declared.token.Token.{Token}
use Rattle.pt_trace.specs.declared.meetings.MeetingLine.{MeetingLine}
use Rattle.pt_trace.specs.declared.run_end.RunEnd.{RunEnd}

-- the tokens that a recorded port gave, each with the tag of its firing
pub record Trace : Type 0 where
  pub text : List ℕ
  pub tokens : List (Tag × Token)

-- the meetings of a Rendezvous composite, in the order in which they were made
pub record Meetings : Type 0 where
  pub path : List ℕ
  pub lines : List MeetingLine

pub record Report : Type 0 where
  pub traces : List Trace
  pub meetings : List Meetings
  pub end : RunEnd
