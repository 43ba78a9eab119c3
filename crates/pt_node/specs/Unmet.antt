-- Nodes without a record of meetings within.
use Rattle.std.specs.Prelude.{◌≡◌, None}
use Rattle.pt_meaning.specs.Meetings.{Meets}
use Rattle.pt_records.specs.Made.{AreMade}
use Rattle.pt_node.specs.Shown.{Shown, AllShown, Branch, none, more}
use Rattle.pt_node.specs.View.{kept_of}

-- neither the node nor any within it records meetings
abbrev mutual
  pub RecordsNone : Shown → Type 0
  RecordsNone (Branch f ks) = (f.meetings ≡ None) × AllRecordNone ks

  pub AllRecordNone : AllShown → Type 0
  AllRecordNone none = Unit {0}
  AllRecordNone (more s ss) = RecordsNone s × AllRecordNone ss

-- Where it is so, what is claimed under the meetings that were recorded is claimed under every list of them.
abbrev pub NothingMeets : Type 0
NothingMeets = (m : Meets) (s : Shown) → RecordsNone s → AreMade m (kept_of s)
