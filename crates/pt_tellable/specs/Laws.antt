-- What a report of meetings asks of the tree of a document's net holds after a run.
use Rattle.std.specs.Prelude.{ℕ, List, All}
use Rattle.pt_meaning.specs.Log.{Path}
use Rattle.pt_records.specs.Made.{meets_of}
use Rattle.pt_meeting_laws.specs.There.{extent_at, AreOf}
use Rattle.pt_net.specs.declared.net.Net.{Net}
use Rattle.pt_trace.specs.Report.{Meetings}
use Rattle.pt_trace.specs.ReportForm.{AreMeetings}
use Rattle.pt_node.specs.Shown.{Shown}
use Rattle.pt_node.specs.View.{node_of, kept_of, outline_of}
use Rattle.pt_trees.specs.Trees.{Starts}
use Rattle.pt_trees.specs.Built.{IsBuilt}
use Rattle.pt_cover.specs.Leaves.{AreStartedByClass}
use Rattle.pt_order.specs.Laws.{IsNetOfDocument, IsInOrder}
use Rattle.pt_meetings.specs.Sites.{CanBeTold, sites_in}
use Rattle.pt_meetings.specs.Standing.{HasOwnTexts}
use Rattle.pt_meetings.specs.Laws.{AreListed}

-- no two nodes of a tree that is built from the net of a document have one path
abbrev pub TextsAreOwn : Type 0
TextsAreOwn = (net : Net) (starts : Starts) (s : Shown) → IsNetOfDocument net → AreStartedByClass net starts → IsBuilt net starts 0 s → HasOwnTexts (outline_of s)

-- There is a line for each recorded meeting, where each is on a channel or of a child of the Rendezvous composite at its path in the tree as it was built.
abbrev pub MeetingsCanBeTold : Type 0
MeetingsCanBeTold = (net : Net) (starts : Starts) (s after : Shown) → IsNetOfDocument net → IsInOrder net → IsBuilt net starts 0 s →
    ((p : Path) (n : ℕ) → AreOf (extent_at (node_of s) p) (meets_of (kept_of after) p n)) → All (CanBeTold net) (sites_in net.entities.items 0 after)

-- And the lists of them have the form of a report.
abbrev pub ListsHaveForm : Type 0
ListsHaveForm = (net : Net) (starts : Starts) (s after : Shown) (told : List Meetings) → IsNetOfDocument net → IsInOrder net → IsBuilt net starts 0 s →
    ((p : Path) (n : ℕ) → AreOf (extent_at (node_of s) p) (meets_of (kept_of after) p n)) → AreListed net after told → All AreMeetings told
