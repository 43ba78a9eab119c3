-- A PN composite of a tree in the middle of a firing: what its processes have done so far, what is kept of them, and what a chain of events and calls makes of the composite's own firing.
use Rattle.std.specs.Prelude.{◌≡◌, ℕ, ◌<◌, List, [], ◌∷◌, length, set, get_or, Some, None}
use Rattle.pt_meaning.specs.Tag.{Tag}
use Rattle.pt_meaning.specs.Streams.{Streams, get}
use Rattle.pt_meaning.specs.Log.{Log, Path}
use Rattle.pt_meaning.specs.Machine.{Fault, Outcome}
use Rattle.pt_meaning.specs.Meetings.{Meets, below_child}
use Rattle.pt_meaning.specs.Children.{numbered, child_facts}
use Rattle.pt_meaning.specs.Tree.{Rows, Pn, Past, Node, Nodes, Composite, list_of, nodes_of, fired_at, height, heights}
use Rattle.pt_meaning.specs.NodeFacts.{facts_of, need_of}
use Rattle.pt_meaning.specs.Step.{step_at, Step}
use Rattle.pt_meaning.specs.Lawful.{LawfulRows}
use Rattle.pt_meaning.specs.Asked.{HaveMade, IsJammed}
use Rattle.pt_laws.specs.CompositeRuns.{steps_below}
use Rattle.pt_records.specs.Kept.{Kept, Entry, kept_at, kept_by, AllGrewBy}
use Rattle.pt_records.specs.Fired.{FromSome, FiresTo, SticksAt, LeavesOff}
use Rattle.pt_records.specs.Shut.{IsShut}
use Rattle.pt_records.specs.SoFar.{AllLow}
use Rattle.pt_pn_laws.specs.State.{PnState, MayGet, MayPut, MayFire, MayGrow, IsFull, IsOver, net_of, got_of, held_of, begun, after_get, after_put, after_grow, after_told, own_of, closed, blocked_of, waits}
use Rattle.pt_pn_laws.specs.Lawful.{HasPlaces, IsFor}
use Rattle.pt_pn_laws.specs.Chain.{Underway}

-- The firing began from the core `before` and the children kids. The core is in the state s, the children are now in the states now, and what was kept of them as olds is news.
-- They have made these numbers of firings, and each has a log of its own, by which what is kept of it went on.
pub record PnSoFar {T A : Type 0} (rows : Rows T A) (m : Meets) (before : PnState T) (kids : Nodes T A) (inputs : Streams T) (olds : List (Kept T)) (s : PnState T) (now : List (Node T A)) (news : List (Kept T)) : Type 0 where
  pub made : List ℕ
  pub logs : List (Log T)
  pub run : FromSome (λ k. Underway (child_facts (facts_of rows)) (steps_below rows k (heights kids) m) before (numbered 0 (list_of kids)) inputs s made (numbered 0 now) logs)
  pub low : AllLow (heights kids) now
  pub kept : AllGrewBy logs olds news

-- the composite, by a state of its core
abbrev pub composite_of : {T A : Type 0} → Past → PnState T → Nodes T A → Node T A
composite_of h s kids = Composite h (Pn s.network.plan s.network.first) (Pn s.network.plan (held_of s)) kids

-- what its firing comes to at a fuel
abbrev pub outcome_of : {T A : Type 0} → Rows T A → Meets → Past → PnState T → Nodes T A → Tag → Streams T → ℕ → Outcome T (Node T A)
outcome_of rows m h before kids tag inputs fuel = step_at rows fuel (height (composite_of h before kids)) m tag (composite_of h before kids) inputs

-- what a firing of child i comes to that was asked for, without its record
abbrev pub child_outcome : {T A : Type 0} → Rows T A → Meets → PnState T → ℕ → Node T A → ℕ → Outcome T (Node T A)
child_outcome rows m s i child fuel = step_at rows fuel (height child) (below_child i m) s.tag child (got_of s i)

-- a stuck place of child i, as one of the composite
abbrev pub below_fault : ℕ → Fault → Fault
below_fault i f = record { path = i ∷ f.path; firing = f.firing; code = f.code }

-- What a chain of events and calls makes of the firing of a composite whose processes are nodes: it begins; it goes on by gets, puts and growths, and by the recorded firing of a child that was asked for; it is done, is stuck where that child is, may be left off between two firings of children or within one; and where it is full, its network is in a jam.
pub record FiringsArePn (T A : Type 0) : Type 0 where
  pub begins : (rows : Rows T A) (m : Meets) (tag : Tag) (before : PnState T) (kids : Nodes T A) (inputs : Streams T) (olds : List (Kept T)) → IsFor (facts_of rows) before (list_of kids) → length (list_of kids) ≡ length olds → PnSoFar rows m before kids inputs olds (begun tag inputs before) (list_of kids) olds
  pub gets : (rows : Rows T A) (m : Meets) (before : PnState T) (kids : Nodes T A) (inputs : Streams T) (olds : List (Kept T)) (s : PnState T) (now : List (Node T A)) (news : List (Kept T)) → PnSoFar rows m before kids inputs olds s now news →
      (i : ℕ) → MayGet s i → PnSoFar rows m before kids inputs olds (after_get i s) now news × (waits (after_get i s) < waits s)
  pub puts : (rows : Rows T A) (m : Meets) (before : PnState T) (kids : Nodes T A) (inputs : Streams T) (olds : List (Kept T)) (s : PnState T) (now : List (Node T A)) (news : List (Kept T)) → PnSoFar rows m before kids inputs olds s now news →
      (i : ℕ) → MayPut s i → PnSoFar rows m before kids inputs olds (after_put i s) now news × (waits (after_put i s) < waits s)
  pub grows : (rows : Rows T A) (m : Meets) (before : PnState T) (kids : Nodes T A) (inputs : Streams T) (olds : List (Kept T)) (s : PnState T) (now : List (Node T A)) (news : List (Kept T)) → PnSoFar rows m before kids inputs olds s now news →
      MayGrow s → PnSoFar rows m before kids inputs olds (after_grow s) now news × (waits (after_grow s) < waits s)
  pub goes_on : (rows : Rows T A) (m : Meets) (before : PnState T) (kids : Nodes T A) (inputs : Streams T) (olds : List (Kept T)) (s : PnState T) (now : List (Node T A)) (news : List (Kept T)) → PnSoFar rows m before kids inputs olds s now news →
      (i : ℕ) → MayFire s i → (child next : Node T A) (out : Streams T) (k : Kept T) → get now i ≡ Some child → FiresTo (λ fuel. Step fuel rows (below_child i m) child s.tag (got_of s i)) next out (kept_at news i) k → HasPlaces (get_or (net_of s).places i 0) (need_of rows next) →
      PnSoFar rows m before kids inputs olds (after_told i out (need_of rows next) s) (set now i next) (set news i k)
  pub ends : (rows : Rows T A) (m : Meets) (before : PnState T) (kids : Nodes T A) (inputs : Streams T) (olds : List (Kept T)) (s : PnState T) (now : List (Node T A)) (news : List (Kept T)) → PnSoFar rows m before kids inputs olds s now news →
      IsOver s → (h : Past) (e : Entry T) → FiresTo (outcome_of rows m h before kids s.tag inputs) (composite_of (fired_at s.tag h) (closed s) (nodes_of now)) (own_of s) (kept_by e olds) (kept_by e news)
  pub rests : (rows : Rows T A) (m : Meets) (before : PnState T) (kids : Nodes T A) (inputs : Streams T) (olds : List (Kept T)) (s : PnState T) (now : List (Node T A)) (news : List (Kept T)) → PnSoFar rows m before kids inputs olds s now news →
      IsOver s → IsFor (facts_of rows) (closed s) now
  pub sticks : (rows : Rows T A) → LawfulRows rows → (m : Meets) (before : PnState T) (kids : Nodes T A) (inputs : Streams T) (olds : List (Kept T)) (s : PnState T) (now : List (Node T A)) (news : List (Kept T)) → PnSoFar rows m before kids inputs olds s now news →
      (i : ℕ) → MayFire s i → (child : Node T A) (k : Kept T) (f : Fault) → get now i ≡ Some child → SticksAt (child_outcome rows m s i child) (IsShut rows (below_child i m) child s.tag (got_of s i) (Some f)) f (kept_at news i) k → (h : Past) (e : Entry T) →
      SticksAt (outcome_of rows m h before kids s.tag inputs) (IsShut rows m (composite_of h before kids) s.tag inputs (Some (below_fault i f))) (below_fault i f) (kept_by e olds) (kept_by e (set news i k))
  pub off : (rows : Rows T A) → LawfulRows rows → (m : Meets) (before : PnState T) (kids : Nodes T A) (inputs : Streams T) (olds : List (Kept T)) (s : PnState T) (now : List (Node T A)) (news : List (Kept T)) → PnSoFar rows m before kids inputs olds s now news →
      (h : Past) (e : Entry T) → LeavesOff (outcome_of rows m h before kids s.tag inputs) (IsShut rows m (composite_of h before kids) s.tag inputs None) (kept_by e olds) (kept_by e news)
  pub off_within : (rows : Rows T A) → LawfulRows rows → (m : Meets) (before : PnState T) (kids : Nodes T A) (inputs : Streams T) (olds : List (Kept T)) (s : PnState T) (now : List (Node T A)) (news : List (Kept T)) → PnSoFar rows m before kids inputs olds s now news →
      (i : ℕ) → MayFire s i → (child : Node T A) (k : Kept T) → get now i ≡ Some child → LeavesOff (child_outcome rows m s i child) (IsShut rows (below_child i m) child s.tag (got_of s i) None) (kept_at news i) k → (h : Past) (e : Entry T) →
      LeavesOff (outcome_of rows m h before kids s.tag inputs) (IsShut rows m (composite_of h before kids) s.tag inputs None) (kept_by e olds) (kept_by e (set news i k))
  -- for whatever maximum capacities are known by path, of which this network's is its own, and whatever numbers of finished firings, of which these are
  pub jams : (rows : Rows T A) (m : Meets) (before : PnState T) (kids : Nodes T A) (inputs : Streams T) (olds : List (Kept T)) (s : PnState T) (now : List (Node T A)) (news : List (Kept T)) → PnSoFar rows m before kids inputs olds s now news →
      IsFull s → (h : Past) (maximum count : Path → ℕ) → maximum [] ≡ s.network.maximum → h.made ≡ count [] → HaveMade count (numbered 0 now) → FromSome (λ k. IsJammed rows k [] m maximum count (composite_of h before kids) s.tag inputs (blocked_of s))
