-- An SR composite of a tree in the middle of a firing, as an engine has it that fires the children by what the core asks for: what they have done so far, and what is kept of them.
use Rattle.std.specs.Prelude.{◌≡◌, ℕ, ◌<◌, List, [], ◌∷◌, false, true, length, get_or, set, Some, None}
use Rattle.pt_meaning.specs.Tag.{Tag}
use Rattle.pt_meaning.specs.Streams.{Streams, get}
use Rattle.pt_meaning.specs.Log.{Log}
use Rattle.pt_meaning.specs.Machine.{second_token_code, causality_code, Fault, Outcome}
use Rattle.pt_meaning.specs.Sr.{all_single}
use Rattle.pt_meaning.specs.Meetings.{Meets, below_child}
use Rattle.pt_meaning.specs.Children.{Child, numbered, child_facts}
use Rattle.pt_meaning.specs.Tree.{Rows, Core, Sr, Past, Node, Nodes, Composite, list_of, nodes_of, made_of, fired_at, height, heights}
use Rattle.pt_meaning.specs.NodeFacts.{facts_of, early_of}
use Rattle.pt_meaning.specs.Step.{step_at, Step}
use Rattle.pt_meaning.specs.Lawful.{LawfulRows}
use Rattle.pt_laws.specs.CompositeRuns.{steps_below}
use Rattle.pt_records.specs.Kept.{Kept, Entry, kept_at, kept_by, AllGrewBy}
use Rattle.pt_records.specs.Fired.{FromSome, FiresTo, SticksAt, LeavesOff}
use Rattle.pt_records.specs.Shut.{IsShut}
use Rattle.pt_records.specs.SoFar.{AllLow}
use Rattle.pt_sr.specs.State.{SrState, MayFire, MayAnswer, inputs_of, lent_of, own_of, begun, asked, listening, after_told, after_heard}
use Rattle.pt_sr.specs.Chain.{IsFor, AllFired, NothingComes, Underway}

-- The firing began from the core `before` and the children kids. The core is in the state s, the children are now in the states now, and what was kept of them as olds is news.
-- Each child has a log of its own, by which what is kept of it went on. A child past the last is any.
pub record SrSoFar {T A : Type 0} (rows : Rows T A) (m : Meets) (before : SrState T) (kids : Nodes T A) (inputs : Streams T) (olds : List (Kept T)) (s : SrState T) (now : List (Node T A)) (news : List (Kept T)) : Type 0 where
  pub logs : List (Log T)
  pub any : Child (Node T A)
  pub run : FromSome (λ k. Underway (child_facts (facts_of rows)) (steps_below rows k (heights kids) m) before (numbered 0 (list_of kids)) inputs any s (numbered 0 now) logs)
  pub low : AllLow (heights kids) now
  pub kept : AllGrewBy logs olds news

-- the composite, whose state is its plan alone, and what a firing of it comes to at a fuel
abbrev pub sr_node : {T A : Type 0} → Past → (start : Core T) → SrState T → Nodes T A → Node T A
sr_node h start s kids = Composite h start (Sr s.tick.plan) kids

abbrev pub sr_outcome : {T A : Type 0} → Rows T A → Meets → Past → Core T → SrState T → Nodes T A → Tag → Streams T → ℕ → Outcome T (Node T A)
sr_outcome rows m h start before kids tag inputs fuel = step_at rows fuel (height (sr_node h start before kids)) m tag (sr_node h start before kids) inputs

-- before any firing
abbrev pub SrBegins : Type 0 → Type 0 → Type 0
SrBegins T A = (rows : Rows T A) → LawfulRows rows → (m : Meets) (tag : Tag) (before : SrState T) (kids : Nodes T A) (inputs : Streams T) (olds : List (Kept T)) → IsFor (facts_of rows) before (list_of kids) → length (list_of kids) ≡ length olds →
    SrSoFar rows m before kids inputs olds (begun tag inputs before) (list_of kids) olds

-- A child that was asked to fire has fired with at most one token on each port, and its firing is recorded.
abbrev pub SrGoesOn : Type 0 → Type 0 → Type 0
SrGoesOn T A = (rows : Rows T A) (m : Meets) (before : SrState T) (kids : Nodes T A) (inputs : Streams T) (olds : List (Kept T)) (s : SrState T) (now : List (Node T A)) (news : List (Kept T)) → SrSoFar rows m before kids inputs olds s now news →
    (i : ℕ) (child next : Node T A) (out : Streams T) (k : Kept T) → get now i ≡ Some child → MayFire s.tick i → FiresTo (λ fuel. Step fuel rows (below_child i m) child s.tag (lent_of s i)) next out (kept_at news i) k → all_single out ≡ true →
    SrSoFar rows m before kids inputs olds (after_told i out (asked i s)) (set now i next) (set news i k)

-- A child that was asked for an early answer has given it.
abbrev pub SrHears : Type 0 → Type 0 → Type 0
SrHears T A = (rows : Rows T A) (m : Meets) (before : SrState T) (kids : Nodes T A) (inputs : Streams T) (olds : List (Kept T)) (s : SrState T) (now : List (Node T A)) (news : List (Kept T)) → SrSoFar rows m before kids inputs olds s now news →
    (i : ℕ) (child : Node T A) → get now i ≡ Some child → MayAnswer s.tick i → SrSoFar rows m before kids inputs olds (after_heard i (early_of rows s.tag child (inputs_of s.tick i)) (listening i s)) now news

-- Where each child has fired the composite's firing is done.
abbrev pub SrIsDone : Type 0 → Type 0 → Type 0
SrIsDone T A = (rows : Rows T A) (m : Meets) (h : Past) (start : Core T) (before : SrState T) (kids : Nodes T A) (inputs : Streams T) (e : Entry T) (olds : List (Kept T)) (s : SrState T) (now : List (Node T A)) (news : List (Kept T)) → SrSoFar rows m before kids inputs olds s now news → AllFired s.tick →
    FiresTo (sr_outcome rows m h start before kids s.tag inputs) (sr_node (fired_at s.tag h) start before (nodes_of now)) (own_of s) (kept_by e olds) (kept_by e news)

-- Where nothing more can be learnt of any child, and one hasn't fired, the composite is stuck by its causality.
abbrev pub SrLacks : Type 0 → Type 0 → Type 0
SrLacks T A = (rows : Rows T A) → LawfulRows rows → (m : Meets) (h : Past) (start : Core T) (before : SrState T) (kids : Nodes T A) (inputs : Streams T) (e : Entry T) (olds : List (Kept T)) (s : SrState T) (now : List (Node T A)) (news : List (Kept T)) → SrSoFar rows m before kids inputs olds s now news →
    NothingComes s.tick → (w : ℕ) → w < length s.tick.plan.net.places → get_or s.tick.fired w false ≡ false →
    let f : Fault = record { path = []; firing = h.made; code = causality_code } in
    SticksAt (sr_outcome rows m h start before kids s.tag inputs) (IsShut rows m (sr_node h start before kids) s.tag inputs (Some f)) f (kept_by e olds) (kept_by e news)

-- Where a child that was asked to fire is stuck, so is the composite, at the place of the child.
abbrev pub SrIsStuck : Type 0 → Type 0 → Type 0
SrIsStuck T A = (rows : Rows T A) → LawfulRows rows → (m : Meets) (h : Past) (start : Core T) (before : SrState T) (kids : Nodes T A) (inputs : Streams T) (e : Entry T) (olds : List (Kept T)) (s : SrState T) (now : List (Node T A)) (news : List (Kept T)) → SrSoFar rows m before kids inputs olds s now news →
    (i : ℕ) (child : Node T A) (k : Kept T) (f : Fault) → get now i ≡ Some child → MayFire s.tick i →
    SticksAt (λ fuel. step_at rows fuel (height child) (below_child i m) s.tag child (lent_of s i)) (IsShut rows (below_child i m) child s.tag (lent_of s i) (Some f)) f (kept_at news i) k →
    let g : Fault = record { path = i ∷ f.path; firing = f.firing; code = f.code } in
    SticksAt (sr_outcome rows m h start before kids s.tag inputs) (IsShut rows m (sr_node h start before kids) s.tag inputs (Some g)) g (kept_by e olds) (kept_by e (set news i k))

-- Where it gives two tokens on one port, the composite is stuck at the child, and the child's firing has no record.
abbrev pub SrGivesTwo : Type 0 → Type 0 → Type 0
SrGivesTwo T A = (rows : Rows T A) → LawfulRows rows → (m : Meets) (h : Past) (start : Core T) (before : SrState T) (kids : Nodes T A) (inputs : Streams T) (e : Entry T) (olds : List (Kept T)) (s : SrState T) (now : List (Node T A)) (news : List (Kept T)) → SrSoFar rows m before kids inputs olds s now news →
    (i : ℕ) (child next : Node T A) (out : Streams T) (k : Kept T) → get now i ≡ Some child → MayFire s.tick i →
    FiresTo (λ fuel. step_at rows fuel (height child) (below_child i m) s.tag child (lent_of s i)) next out (kept_at news i) k → all_single out ≡ false →
    let g : Fault = record { path = i ∷ []; firing = made_of child; code = second_token_code } in
    SticksAt (sr_outcome rows m h start before kids s.tag inputs) (IsShut rows m (sr_node h start before kids) s.tag inputs (Some g)) g (kept_by e olds) (kept_by e (set news i k))

-- The composite may be left off between two firings of children, or within one.
abbrev pub SrIsLeftOff : Type 0 → Type 0 → Type 0
SrIsLeftOff T A = (rows : Rows T A) → LawfulRows rows → (m : Meets) (h : Past) (start : Core T) (before : SrState T) (kids : Nodes T A) (inputs : Streams T) (e : Entry T) (olds : List (Kept T)) (s : SrState T) (now : List (Node T A)) (news : List (Kept T)) → SrSoFar rows m before kids inputs olds s now news →
    LeavesOff (sr_outcome rows m h start before kids s.tag inputs) (IsShut rows m (sr_node h start before kids) s.tag inputs None) (kept_by e olds) (kept_by e news)

abbrev pub SrIsLeftOffWithin : Type 0 → Type 0 → Type 0
SrIsLeftOffWithin T A = (rows : Rows T A) → LawfulRows rows → (m : Meets) (h : Past) (start : Core T) (before : SrState T) (kids : Nodes T A) (inputs : Streams T) (e : Entry T) (olds : List (Kept T)) (s : SrState T) (now : List (Node T A)) (news : List (Kept T)) → SrSoFar rows m before kids inputs olds s now news →
    (i : ℕ) (child : Node T A) (k : Kept T) → get now i ≡ Some child → MayFire s.tick i →
    LeavesOff (λ fuel. step_at rows fuel (height child) (below_child i m) s.tag child (lent_of s i)) (IsShut rows (below_child i m) child s.tag (lent_of s i) None) (kept_at news i) k →
    LeavesOff (sr_outcome rows m h start before kids s.tag inputs) (IsShut rows m (sr_node h start before kids) s.tag inputs None) (kept_by e olds) (kept_by e (set news i k))
