-- The text of the meetings of a tree: the text of a list for each composite that records any.
use Rattle.std.specs.Prelude.{◌≡◌, ℕ, List, ◌++◌, flat_map}
use Rattle.pt_records.specs.Made.{meets_of}
use Rattle.pt_net.specs.declared.net.Net.{Net}
use Rattle.pt_trace.specs.Report.{Meetings}
use Rattle.pt_trace.specs.MeetingText.{meetings_text}
use Rattle.pt_node.specs.Shown.{Shown}
use Rattle.pt_node.specs.View.{outline_of, kept_of}
use Rattle.pt_trees.specs.Meetings.{TellMeetings}
use Rattle.pt_meetings.specs.Laws.{AreListed}

-- the text of lists for the composites follows
abbrev pub AreWrittenLists : Net → Shown → (old new : List ℕ) → Type 0
AreWrittenLists net s old new = (told : List Meetings) × AreListed net s told × (new ≡ old ++ flat_map meetings_text told)

-- such lists, which together tell what the nodes have recorded, and nothing else
abbrev pub AreWrittenIn : Net → Shown → (old new : List ℕ) → Type 0
AreWrittenIn net s old new = (told : List Meetings) × AreListed net s told × TellMeetings net (outline_of s) told (meets_of (kept_of s)) × (new ≡ old ++ flat_map meetings_text told)
