-- The text of the meetings of a composite, which tells them by lines.
use Rattle.std.specs.Prelude.{◌≡◌, ℕ, List, [], ◌++◌, Option, Some, ◌<◌, codes, length, get_or}
use Rattle.pt_meaning.specs.Log.{Meeting, Channel, Barrier}
use Rattle.pt_records.specs.Kept.{Made}
use Rattle.pt_trace.specs.declared.meetings.Met.{Met}
use Rattle.pt_trace.specs.declared.meetings.MeetingLine.{MeetingLine}
use Rattle.pt_trace.specs.MeetingText.{met_text, meeting_line, meeting_lines, meetings_text}
use Rattle.pt_trace.specs.Report.{Meetings}
use Rattle.pt_meeting_lines.specs.declared.inside.Inside.{Inside}
use Rattle.pt_meeting_lines.specs.Tells.{Tells}
use Rattle.pt_meeting_lines.specs.Lines.{IsLine, AreLines, AreLinesOf}
use Rattle.pt_meeting_text.specs.declared.known.Known.{Known}

-- how a line that tells the meeting ends, behind its two numbers
abbrev pub IsEnd : Inside → Meeting → List ℕ → Type 0
IsEnd inside m end = (what : Met) × Tells inside.net.now inside.number inside.composite.now what m × (end ≡ met_text what ++ codes "\n")

-- what is known of a meeting, if it is, is how its lines end
abbrev pub IsKnown : Inside → Meeting → Option (List ℕ) → Type 0
IsKnown inside m known = (end : List ℕ) → known ≡ Some end → IsEnd inside m end

-- what is known of each channel and of each child, a Barrier
pub record AreKnown (inside : Inside) (known : Known) : Type 0 where
  pub channels : length known.channels.items ≡ length inside.channels.now
  pub children : length known.children.items ≡ length inside.children.now
  pub on_channel : (c : ℕ) (d : Option (List ℕ)) → c < length known.channels.items → IsKnown inside (Channel c) (get_or known.channels.items c d)
  pub of_child : (b : ℕ) (d : Option (List ℕ)) → b < length known.children.items → IsKnown inside (Barrier b) (get_or known.children.items b d)

-- an end of a line that tells the meeting follows
abbrev pub IsWrittenEnd : Inside → Meeting → (old new : List ℕ) → Type 0
IsWrittenEnd inside m old new = (end : List ℕ) × IsEnd inside m end × (new ≡ old ++ end)

-- the line of one meeting, with this index
abbrev pub IsWrittenLine : Inside → ℕ × Meeting → (index : ℕ) → (old new : List ℕ) → Type 0
IsWrittenLine inside m index old new = (line : MeetingLine) × IsLine inside.net.now inside.number inside.composite.now line m × (new ≡ old ++ meeting_line line index)

-- the lines of these meetings
abbrev pub AreWritten : Inside → Made → (old new : List ℕ) → Type 0
AreWritten inside made old new = (lines : List MeetingLine) × AreLines inside.net.now inside.number inside.composite.now lines made × (new ≡ old ++ meeting_lines [] lines)

-- the same under the path of the composite
abbrev pub AreWrittenOf : Inside → Made → (old new : List ℕ) → Type 0
AreWrittenOf inside made old new = (told : Meetings) × AreLinesOf inside.net.now inside.number inside.composite.now told made × (new ≡ old ++ meetings_text told)
