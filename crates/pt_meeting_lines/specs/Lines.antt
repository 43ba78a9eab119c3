-- The lines that tell the meetings of one composite.
use Rattle.std.specs.Prelude.{◌≡◌, ℕ, List, [], ◌∷◌, Bool, true, false, nat_eq}
use Rattle.std.specs.List.{AllZip}
use Rattle.pt_meaning.specs.Log.{Meeting}
use Rattle.pt_records.specs.Kept.{Made}
use Rattle.pt_firing.specs.declared.ask.Meeting as asked
use Rattle.pt_firing.specs.Meeting.{meeting_of}
use Rattle.pt_net.specs.declared.net.Net.{Net}
use Rattle.pt_net.specs.declared.net.NetEntity.{NetEntity}
use Rattle.pt_trace.specs.declared.meetings.Met.{Met}
use Rattle.pt_trace.specs.declared.meetings.MeetingLine.{MeetingLine}
use Rattle.pt_trace.specs.Report.{Meetings}
use Rattle.pt_meeting_lines.specs.Tells.{Tells}

-- a meeting with the number of its firing, as it is recorded, among the definitions
abbrev pub meant : ℕ × asked.Meeting → ℕ × Meeting
meant m = (m.0, meeting_of m.1)

-- who met by the lines of one firing, in order
abbrev pub met_if : Bool → Met → List Met → List Met
met_if true what more = what ∷ more
met_if false what more = more

abbrev pub met_in : ℕ → List MeetingLine → List Met
met_in n [] = []
met_in n (l ∷ ls) = met_if (nat_eq l.firing n) l.what (met_in n ls)

-- the line tells a meeting that was made in the firing of this number
abbrev pub IsLine : Net → (k : ℕ) → NetEntity → MeetingLine → ℕ × Meeting → Type 0
IsLine net k round line m = (line.firing ≡ m.0) × Tells net k round line.what m.1

-- one line for each meeting, in the order in which they were made
abbrev pub AreLines : Net → (k : ℕ) → NetEntity → List MeetingLine → Made → Type 0
AreLines net k round lines made = AllZip (IsLine net k round) lines made

-- the same under the path of the composite
abbrev pub AreLinesOf : Net → (k : ℕ) → NetEntity → Meetings → Made → Type 0
AreLinesOf net k round told made = (told.path ≡ round.path) × AreLines net k round told.lines made
