-- A node as it was built: it may fire, nothing has fired yet, and nothing is recorded, neither outputs nor meetings.
use Rattle.std.specs.Prelude.{◌≡◌, List, [], ◌∷◌, true, Option, Some, None}
use Rattle.pt_meaning.specs.Start.{IsAtStart}
use Rattle.pt_laws.specs.Heights.{IsFitting}
use Rattle.pt_laws.specs.StartedRuns.{ArePlans}
use Rattle.pt_records.specs.Kept.{Made}
use Rattle.pt_library.specs.LibraryActor.{rows}
use Rattle.pt_past.specs.Recorded.{RecordedPort}
use Rattle.pt_node.specs.Shown.{Shown, AllShown, Branch, none, more}
use Rattle.pt_node.specs.View.{node_of}
use Rattle.pt_node.specs.Live.{is_live, IsFit}

-- nothing is recorded of these outputs, nor noted
abbrev pub AreEmpty : List RecordedPort → Type 0
AreEmpty [] = Unit {0}
AreEmpty (r ∷ rs) = (r.trace ≡ []) × (r.noted ≡ []) × AreEmpty rs

-- no meeting is recorded
abbrev pub IsBlank : Option Made → Type 0
IsBlank None = Unit {0}
IsBlank (Some made) = made ≡ []

-- nothing is recorded of a node, nor of any within it
abbrev mutual
  pub IsUnrecorded : Shown → Type 0
  IsUnrecorded (Branch f ks) = AreEmpty f.records × IsBlank f.meetings × AllUnrecorded ks

  pub AllUnrecorded : AllShown → Type 0
  AllUnrecorded none = Unit {0}
  AllUnrecorded (more s ss) = IsUnrecorded s × AllUnrecorded ss

-- a node that may fire, at its start, whose plans fit
pub record IsFresh (s : Shown) : Type 0 where
  pub live : is_live s ≡ true
  pub fit : IsFit s
  pub start : IsAtStart rows (node_of s)
  pub fitting : IsFitting (node_of s)
  pub plans : ArePlans (node_of s)
  pub unrecorded : IsUnrecorded s

abbrev pub AllFresh : List Shown → Type 0
AllFresh [] = Unit {0}
AllFresh (s ∷ ss) = IsFresh s × AllFresh ss
