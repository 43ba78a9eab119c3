-- What the lists of meetings of a tree tell together.
use Rattle.std.specs.Prelude.{ℕ, List}
use Rattle.std.specs.List.{AllZip}
use Rattle.pt_net.specs.declared.net.Net.{Net}
use Rattle.pt_trace.specs.Report.{Meetings}
use Rattle.pt_records.specs.Made.{meets_of}
use Rattle.pt_node.specs.Shown.{Shown}
use Rattle.pt_node.specs.View.{outline_of, kept_of}
use Rattle.pt_trees.specs.Trees.{Starts}
use Rattle.pt_trees.specs.Built.{IsBuilt}
use Rattle.pt_trees.specs.Meetings.{TellMeetings}
use Rattle.pt_meetings.specs.Sites.{IsToldAs, sites_in}
use Rattle.pt_meetings.specs.Standing.{StandsFor, HasOwnTexts}

-- one list for each composite that records meetings, in the order of the document, with one line for each of its meetings
abbrev pub AreListed : Net → Shown → List Meetings → Type 0
AreListed net s told = AllZip (IsToldAs net) told (sites_in net.entities.items 0 s)

-- where each node stands for its entity, and no two have one path, they tell the recorded meetings, and no others
abbrev pub ListsTellMeetings : Type 0
ListsTellMeetings = (net : Net) (s : Shown) (told : List Meetings) → StandsFor net.entities.items 0 (outline_of s) → HasOwnTexts (outline_of s) → AreListed net s told → TellMeetings net (outline_of s) told (meets_of (kept_of s))

-- the nodes that are built from a net stand for its entities
abbrev pub BuiltNodesStand : Type 0
BuiltNodesStand = (net : Net) (starts : Starts) (k : ℕ) (s : Shown) → IsBuilt net starts k s → StandsFor net.entities.items k (outline_of s)
