-- The text of the meetings of a composite: its path, and then a line for each meeting with its firing, its index within the firing, and who met.
use Rattle.std.specs.Prelude.{ℕ, List, [], ◌∷◌, ◌++◌, ◌==◌, count_by, nat_eq, unwrap_or, codes, decimal}
use Rattle.std.specs.HashMap.{HashMap, get}
use Rattle.std.specs.declared.hash.FoldHasher.{FoldHasher}
use Rattle.std.specs.declared.hash.BuildHasherDefault.{BuildHasherDefault}
use Rattle.pt_trace.specs.declared.meetings.ChildPlace.{ChildPlace}
use Rattle.pt_trace.specs.declared.meetings.Met.{Met}
use Rattle.pt_trace.specs.declared.meetings.Met.TheVariants.{Meet, Out, Barrier}
use Rattle.pt_trace.specs.declared.meetings.MeetingLine.{MeetingLine}
use Rattle.pt_trace.specs.Report.{Meetings}

-- how many of some lines are of a firing
abbrev pub count_of : ℕ → List MeetingLine → ℕ
count_of firing lines = count_by (λ l. l.firing == firing) lines

-- the count that a table has for a firing
abbrev pub met : HashMap ℕ ℕ (BuildHasherDefault FoldHasher) → ℕ → ℕ
met counts firing = unwrap_or (get nat_eq counts firing) 0

-- a place of a child: the path of the child below the composite, the port, and the number of the channel at the port
abbrev pub place_text : ChildPlace → List ℕ
place_text place = place.child ++ (codes "." ++ (place.port ++ (codes "." ++ decimal place.channel)))

-- who met
abbrev pub met_text : Met → List ℕ
met_text (Meet place) = codes "meet " ++ place_text place
met_text (Out port) = codes "out " ++ port
met_text (Barrier child) = codes "barrier " ++ child

abbrev pub meeting_line : MeetingLine → ℕ → List ℕ
meeting_line line index = decimal line.firing ++ (codes " " ++ (decimal index ++ (codes " " ++ (met_text line.what ++ codes "\n"))))

-- the lines that follow some earlier ones, each with the number of earlier lines of its firing
abbrev pub meeting_lines : List MeetingLine → List MeetingLine → List ℕ
meeting_lines earlier [] = []
meeting_lines earlier (l ∷ ls) = meeting_line l (count_of l.firing earlier) ++ meeting_lines (earlier ++ l ∷ []) ls

abbrev pub meetings_text : Meetings → List ℕ
meetings_text meetings = (codes "meetings " ++ (meetings.path ++ codes "\n")) ++ meeting_lines [] meetings.lines
