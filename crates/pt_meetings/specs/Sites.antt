-- The composites of a tree that record meetings, each with the number of its entity in the net and what it has recorded.
use Rattle.std.specs.Prelude.{◌≡◌, ℕ, suc, List, [], ◌∷◌, ◌++◌, All, Option, Some, None, slice_get, flat_map}
use Rattle.std.specs.List.{AllZip}
use Rattle.pt_meaning.specs.Basics.{Path}
use Rattle.pt_records.specs.Kept.{Made}
use Rattle.pt_net.specs.declared.net.Net.{Net}
use Rattle.pt_net.specs.declared.net.NetEntity.{NetEntity}
use Rattle.pt_net.specs.Inside.{children_of}
use Rattle.pt_trace.specs.declared.meetings.Met.{Met}
use Rattle.pt_trace.specs.Report.{Meetings}
use Rattle.pt_trace.specs.MeetingText.{meetings_text}
use Rattle.pt_node.specs.Shown.{Shown, AllShown, Branch, none, more}
use Rattle.pt_meeting_lines.specs.Tells.{Tells}
use Rattle.pt_meeting_lines.specs.Lines.{AreLinesOf}

-- such a composite: its path in the tree, its entity and its record
pub record Site : Type 0 where
  pub path : Path
  pub number : ℕ
  pub made : Made

-- a node itself, if it records meetings
abbrev pub own_site : ℕ → Option Made → List Site
own_site k None = []
own_site k (Some made) = record { path = []; number = k; made = made } ∷ []

-- those of child i, seen from its composite
abbrev pub seen_below : ℕ → List Site → List Site
seen_below i [] = []
seen_below i (x ∷ xs) = record { path = i ∷ x.path; number = x.number; made = x.made } ∷ seen_below i xs

-- All of the tree of entity k, each before those within it: in the order of the document, where the children of a node are those of its entity.
abbrev mutual
  pub sites_in : List NetEntity → ℕ → Shown → List Site
  sites_in es k (Branch f ks) = own_site k f.meetings ++ sites_below es 0 (children_of es k) ks

  pub sites_below : List NetEntity → ℕ → List ℕ → AllShown → List Site
  sites_below es i cs none = []
  sites_below es i [] (more s ss) = []
  sites_below es i (c ∷ cs) (more s ss) = seen_below i (sites_in es c s) ++ sites_below es (suc i) cs ss

-- there is a line for each meeting of it
abbrev pub CanBeTold : Net → Site → Type 0
CanBeTold net x = (round : NetEntity) → slice_get net.entities.items x.number ≡ Some round → All (λ m. (what : Met) × Tells net x.number round what m.1) x.made

-- its meetings, as a report lists them
abbrev pub IsToldAs : Net → Meetings → Site → Type 0
IsToldAs net told x = (round : NetEntity) × (slice_get net.entities.items x.number ≡ Some round) × AreLinesOf net x.number round told x.made

-- the text of a list for each of these follows
abbrev pub AreWrittenFor : Net → List Site → (old new : List ℕ) → Type 0
AreWrittenFor net xs old new = (told : List Meetings) × AllZip (IsToldAs net) told xs × (new ≡ old ++ flat_map meetings_text told)
