-- Which meetings the lines of a report tell: of which composite, in which firing, and who met.
use Rattle.std.specs.Prelude.{◌≡◌, ℕ, List, [], ◌∷◌, ◌++◌, All, Bool, true, false, bytes_eq, Option, Some, None}
use Rattle.std.specs.List.{AllZip}
use Rattle.pt_meaning.specs.Basics.{Path}
use Rattle.pt_meaning.specs.Meetings.{Meets}
use Rattle.pt_net.specs.declared.net.Net.{Net}
use Rattle.pt_trace.specs.declared.meetings.Met.{Met}
use Rattle.pt_trace.specs.Report.{Meetings}
use Rattle.pt_node.specs.View.{Outline, text_at}
use Rattle.pt_meeting_lines.specs.Lines.{met_in}
pub use Rattle.pt_meeting_lines.specs.Tells.{TellsAt}

-- who met in a firing by the lines of the composite of this path, in order
abbrev pub lines_if : Bool → List Met → List Met → List Met
lines_if true lines more = lines ++ more
lines_if false lines more = more

abbrev pub lines_of : ℕ → (path : Option (List ℕ)) → List Meetings → List Met
lines_of n None told = []
lines_of n (Some path) [] = []
lines_of n (Some path) (t ∷ ts) = lines_if (bytes_eq t.path path) (met_in n t.lines) (lines_of n (Some path) ts)

-- The lines tell these meetings, and no others: at each path of the tree in each firing those of the lines there, in order, each by its composite in the net. No lines are of another path.
pub record TellMeetings (net : Net) (names : Outline) (told : List Meetings) (m : Meets) : Type 0 where
  pub there : All (λ (t : Meetings). (p : Path) × (text_at names p ≡ Some t.path)) told
  pub each : (p : Path) (n : ℕ) → AllZip (TellsAt net (text_at names p)) (lines_of n (text_at names p) told) (m p n)
