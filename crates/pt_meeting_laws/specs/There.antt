-- Which meetings a Rendezvous composite can have: on its channels, and of its children.
use Rattle.std.specs.Prelude.{ℕ, zero, suc, ◌<◌, List, [], ◌∷◌, length, Option, Some, None}
use Rattle.pt_meaning.specs.Log.{Path, Meeting, Channel, Barrier, meetings_in}
use Rattle.pt_meaning.specs.Meetings.{Meets}
use Rattle.pt_meaning.specs.Tree.{Rows, Core, Sdf, Pn, Sr, De, Rv, Modal, Node, Nodes, Actor, Composite, none, more, list_of}
use Rattle.pt_meaning.specs.Job.{Schedule, meaning}
use Rattle.pt_meaning.specs.Start.{IsAtStart}
use Rattle.pt_meaning.specs.Lawful.{LawfulRows}
use Rattle.pt_laws.specs.Heights.{IsFitting}
use Rattle.pt_laws.specs.StartedRuns.{ArePlans}

-- how many channels are within such a composite, and how many children
pub record Extent : Type 0 where
  pub channels : ℕ
  pub children : ℕ

abbrev pub extent_of : {T : Type 0} → Core T → (children : ℕ) → Option Extent
extent_of (Sdf p X) n = None
extent_of (Pn p X) n = None
extent_of (Sr p) n = None
extent_of (De p) n = None
extent_of (Rv p X) n = Some (record { channels = length p.net.sources; children = n })
extent_of (Modal chart m) n = None

-- that of the composite at a path, none where there is no such composite
abbrev mutual
  pub extent_at : {T A : Type 0} → Node T A → Path → Option Extent
  extent_at (Actor h a b) p = None
  extent_at (Composite h c d kids) [] = extent_of c (length (list_of kids))
  extent_at (Composite h c d kids) (i ∷ p) = extent_below kids i p

  pub extent_below : {T A : Type 0} → Nodes T A → ℕ → Path → Option Extent
  extent_below none i p = None
  extent_below (more n ns) zero p = extent_at n p
  extent_below (more n ns) (suc i) p = extent_below ns i p

-- the meeting is on one of the channels, or of one of the children
abbrev pub IsOf : Option Extent → Meeting → Type 0
IsOf None m = ⊥
IsOf (Some e) (Channel c) = c < e.channels
IsOf (Some e) (Barrier b) = b < e.children

-- and so is each of these
abbrev pub AreOf : Option Extent → List Meeting → Type 0
AreOf e [] = Unit {0}
AreOf e (m ∷ ms) = IsOf e m × AreOf e ms

-- Whatever meetings are given, those that the meaning tells of a path at any fuel are of the Rendezvous composite there.
abbrev pub MeetingsAreThere : Type 0 → Type 0 → Type 0
MeetingsAreThere T A = (rows : Rows T A) → LawfulRows rows → (m : Meets) (plan : Schedule T A) (top : Node T A) → IsFitting top → ArePlans top → IsAtStart rows top → (k : ℕ) (p : Path) (n : ℕ) → AreOf (extent_at top p) (meetings_in n (meaning k rows m plan top p))
