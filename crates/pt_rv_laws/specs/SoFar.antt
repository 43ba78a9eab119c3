-- A Rendezvous composite of a tree in the middle of a firing: what its processes have done so far, what is kept of them and of the meetings made, and what a chain of calls makes of the composite's own firing.
use Rattle.std.specs.Prelude.{◌≡◌, ℕ, ◌<◌, List, [], ◌∷◌, length, set, Some, None}
use Rattle.pt_meaning.specs.Tag.{Tag}
use Rattle.pt_meaning.specs.Streams.{Streams, get}
use Rattle.pt_meaning.specs.Log.{Log, Meeting}
use Rattle.pt_meaning.specs.Machine.{Fault, Outcome}
use Rattle.pt_meaning.specs.Meetings.{Meets, below_child}
use Rattle.pt_meaning.specs.Rendezvous.{first_places}
use Rattle.pt_meaning.specs.Children.{numbered, child_facts}
use Rattle.pt_meaning.specs.Tree.{Rows, Rv, Past, Node, Nodes, Composite, list_of, nodes_of, fired_at, height, heights}
use Rattle.pt_meaning.specs.NodeFacts.{facts_of, need_of}
use Rattle.pt_meaning.specs.Step.{step_at, Step}
use Rattle.pt_meaning.specs.Lawful.{LawfulRows}
use Rattle.pt_meaning.specs.Asked.{IsAsked}
use Rattle.pt_laws.specs.CompositeRuns.{steps_below}
use Rattle.pt_laws.specs.SoundRuns.{count_at}
use Rattle.pt_records.specs.Kept.{Kept, Entry, kept_at, kept_by, AllGrewBy}
use Rattle.pt_records.specs.Fired.{FromSome, FiresTo, SticksAt, LeavesOff}
use Rattle.pt_records.specs.Shut.{IsShut}
use Rattle.pt_records.specs.SoFar.{AllLow}
use Rattle.pt_core.specs.Met.{AreMet, entry_with}
use Rattle.pt_rv_laws.specs.State.{RvState, net_of, got_of, IsLegal, MayFire, IsOver, begun, after_meet, after_told, closed, waits}
use Rattle.pt_rv_laws.specs.Lawful.{HasPlaces, IsFor}
use Rattle.pt_rv_laws.specs.Chain.{Underway}

-- The firing began from the core `before` and the children kids. The core is in the state s, the children are now in the states now, and what was kept of them as olds is news.
-- They have made so many firings, and each has a log of its own, by which what is kept of it went on.
pub record RvSoFar {T A : Type 0} (rows : Rows T A) (m : Meets) (before : RvState T) (kids : Nodes T A) (inputs : Streams T) (olds : List (Kept T)) (s : RvState T) (now : List (Node T A)) (news : List (Kept T)) : Type 0 where
  pub made : ℕ
  pub logs : List (Log T)
  pub run : FromSome (λ k. Underway (child_facts (facts_of rows)) (steps_below rows k (heights kids) m) before (numbered 0 (list_of kids)) inputs s made (numbered 0 now) logs)
  pub low : AllLow (heights kids) now
  pub kept : AllGrewBy logs olds news

-- the composite, by a state of its core
abbrev pub composite_of : {T A : Type 0} → Past → RvState T → Nodes T A → Node T A
composite_of h s kids = Composite h (Rv s.processes.plan (first_places s.processes.plan)) (Rv s.processes.plan s.places) kids

-- what its firing comes to at a fuel
abbrev pub outcome_of : {T A : Type 0} → Rows T A → Meets → Past → RvState T → Nodes T A → Tag → Streams T → ℕ → Outcome T (Node T A)
outcome_of rows m h before kids tag inputs fuel = step_at rows fuel (height (composite_of h before kids)) m tag (composite_of h before kids) inputs

-- what a firing of child i comes to that was asked for, without its record
abbrev pub child_outcome : {T A : Type 0} → Rows T A → Meets → RvState T → ℕ → Node T A → ℕ → Outcome T (Node T A)
child_outcome rows m s i child fuel = step_at rows fuel (height child) (below_child i m) s.tag child (got_of s i)

-- a stuck place of child i, as one of the composite
abbrev pub below_fault : ℕ → Fault → Fault
below_fault i f = record { path = i ∷ f.path; firing = f.firing; code = f.code }

-- What a chain of calls makes of the firing of a composite whose processes are nodes: it begins; it goes on by a legal meeting, and by the recorded firing of a child that was asked for; it is done, is stuck where that child is, and may be left off between two firings of children or within one. What is kept of the composite itself goes on by the meetings made.
pub record FiringsAreRv (T A : Type 0) : Type 0 where
  pub begins : (rows : Rows T A) (m : Meets) (tag : Tag) (before : RvState T) (kids : Nodes T A) (inputs : Streams T) (olds : List (Kept T)) → IsFor (facts_of rows) before (list_of kids) → length (list_of kids) ≡ length olds → RvSoFar rows m before kids inputs olds (begun tag inputs before) (list_of kids) olds
  pub meets : (rows : Rows T A) (m : Meets) (before : RvState T) (kids : Nodes T A) (inputs : Streams T) (olds : List (Kept T)) (s : RvState T) (now : List (Node T A)) (news : List (Kept T)) → RvSoFar rows m before kids inputs olds s now news →
      (meeting : Meeting) → IsLegal s meeting → RvSoFar rows m before kids inputs olds (after_meet meeting s) now news × (waits (after_meet meeting s) < waits s)
  pub goes_on : (rows : Rows T A) (m : Meets) (before : RvState T) (kids : Nodes T A) (inputs : Streams T) (olds : List (Kept T)) (s : RvState T) (now : List (Node T A)) (news : List (Kept T)) → RvSoFar rows m before kids inputs olds s now news →
      (i : ℕ) → MayFire s i → (child next : Node T A) (out : Streams T) (k : Kept T) → get now i ≡ Some child → FiresTo (λ fuel. Step fuel rows (below_child i m) child s.tag (got_of s i)) next out (kept_at news i) k → HasPlaces (count_at (net_of s).places i) (need_of rows next) →
      RvSoFar rows m before kids inputs olds (after_told i out (need_of rows next) s) (set now i next) (set news i k)
  -- the definitions ask for it too
  pub asks : (rows : Rows T A) (m : Meets) (before : RvState T) (kids : Nodes T A) (inputs : Streams T) (olds : List (Kept T)) (s : RvState T) (now : List (Node T A)) (news : List (Kept T)) → RvSoFar rows m before kids inputs olds s now news →
      (i : ℕ) → MayFire s i → (child : Node T A) → get now i ≡ Some child → (h : Past) → m [] h.made ≡ s.met →
      FromSome (λ k. IsAsked (child_facts (facts_of rows)) (steps_below rows k (heights kids) m) (m [] h.made) h.made (Rv before.processes.plan before.places) (numbered 0 (list_of kids)) s.tag inputs i (record { number = i; node = child }) s.tag (got_of s i))
  pub ends : (rows : Rows T A) (m : Meets) (before : RvState T) (kids : Nodes T A) (inputs : Streams T) (olds : List (Kept T)) (s : RvState T) (now : List (Node T A)) (news : List (Kept T)) → RvSoFar rows m before kids inputs olds s now news →
      IsOver s → (h : Past) (e : Entry T) → AreMet m h s.met e → FiresTo (outcome_of rows m h before kids s.tag inputs) (composite_of (fired_at s.tag h) (closed s) (nodes_of now)) s.outputs (kept_by e olds) (kept_by (entry_with h.made s.met e) news)
  pub rests : (rows : Rows T A) (m : Meets) (before : RvState T) (kids : Nodes T A) (inputs : Streams T) (olds : List (Kept T)) (s : RvState T) (now : List (Node T A)) (news : List (Kept T)) → RvSoFar rows m before kids inputs olds s now news →
      IsOver s → IsFor (facts_of rows) (closed s) now
  pub sticks : (rows : Rows T A) → LawfulRows rows → (m : Meets) (before : RvState T) (kids : Nodes T A) (inputs : Streams T) (olds : List (Kept T)) (s : RvState T) (now : List (Node T A)) (news : List (Kept T)) → RvSoFar rows m before kids inputs olds s now news →
      (i : ℕ) → MayFire s i → (child : Node T A) (k : Kept T) (f : Fault) → get now i ≡ Some child → SticksAt (child_outcome rows m s i child) (IsShut rows (below_child i m) child s.tag (got_of s i) (Some f)) f (kept_at news i) k → (h : Past) (e : Entry T) → AreMet m h s.met e →
      SticksAt (outcome_of rows m h before kids s.tag inputs) (IsShut rows m (composite_of h before kids) s.tag inputs (Some (below_fault i f))) (below_fault i f) (kept_by e olds) (kept_by (entry_with h.made s.met e) (set news i k))
  pub off : (rows : Rows T A) → LawfulRows rows → (m : Meets) (before : RvState T) (kids : Nodes T A) (inputs : Streams T) (olds : List (Kept T)) (s : RvState T) (now : List (Node T A)) (news : List (Kept T)) → RvSoFar rows m before kids inputs olds s now news →
      (h : Past) (e : Entry T) → AreMet m h s.met e → LeavesOff (outcome_of rows m h before kids s.tag inputs) (IsShut rows m (composite_of h before kids) s.tag inputs None) (kept_by e olds) (kept_by (entry_with h.made s.met e) news)
  pub off_within : (rows : Rows T A) → LawfulRows rows → (m : Meets) (before : RvState T) (kids : Nodes T A) (inputs : Streams T) (olds : List (Kept T)) (s : RvState T) (now : List (Node T A)) (news : List (Kept T)) → RvSoFar rows m before kids inputs olds s now news →
      (i : ℕ) → MayFire s i → (child : Node T A) (k : Kept T) → get now i ≡ Some child → LeavesOff (child_outcome rows m s i child) (IsShut rows (below_child i m) child s.tag (got_of s i) None) (kept_at news i) k → (h : Past) (e : Entry T) → AreMet m h s.met e →
      LeavesOff (outcome_of rows m h before kids s.tag inputs) (IsShut rows m (composite_of h before kids) s.tag inputs None) (kept_by e olds) (kept_by (entry_with h.made s.met e) (set news i k))
