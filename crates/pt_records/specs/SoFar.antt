-- A dataflow composite in the middle of a firing, as an engine has it that fires the children one by one, in whatever order: what the children have done so far, and what is kept of them.
use Rattle.std.specs.Prelude.{◌≡◌, ℕ, ◌+◌, ◌<◌, ◌≤◌, List, [], ◌∷◌, ◌++◌, false, true, length, Option, Some, None, take, set, get_or}
use Rattle.pt_meaning.specs.Tag.{Tag}
use Rattle.pt_meaning.specs.Streams.{Streams, get}
use Rattle.pt_meaning.specs.Log.{Log}
use Rattle.pt_meaning.specs.Machine.{rate_code, Fault}
use Rattle.pt_meaning.specs.Rounds.{Net, Limit, has_rates}
use Rattle.pt_meaning.specs.Dataflow.{SdfPlan, iterations, times, leaves, firsts, behind}
use Rattle.pt_meaning.specs.Meetings.{Meets, below_child}
use Rattle.pt_meaning.specs.Children.{numbered, child_facts}
use Rattle.pt_meaning.specs.Tree.{Rows, Core, Sdf, Past, Node, Nodes, Composite, list_of, nodes_of, made_of, fired_at, height, heights}
use Rattle.pt_meaning.specs.NodeFacts.{facts_of}
use Rattle.pt_meaning.specs.Step.{step_at, Step}
use Rattle.pt_meaning.specs.Lawful.{LawfulRows}
use Rattle.pt_meaning.specs.Running.{Asks, Fits, plus, puts, total, zeros}
use Rattle.pt_laws.specs.LogsOfRuns.{RunningWith, rates_at}
use Rattle.pt_laws.specs.CompositeRuns.{steps_below, sdf_start, sdf_bounds, outlets_of}
use Rattle.pt_records.specs.Kept.{Kept, Entry, kept_at, kept_by, AllGrewBy}
use Rattle.pt_records.specs.Fired.{FromSome, FiresTo, SticksAt, LeavesOff}
use Rattle.pt_records.specs.Shut.{IsShut}

-- each of at most d levels
abbrev pub AllLow : {T A : Type 0} → ℕ → List (Node T A) → Type 0
AllLow d [] = Unit {0}
AllLow d (n ∷ ns) = (height n ≤ d) × AllLow d ns

-- The children that began as kids, on channels that held start, have made ms firings, in whatever order. Now they are in the states now, the channels hold held, and what was kept of them as olds is news.
-- Each child has a log of its own, by which what is kept of it went on.
pub record SoFar {T A : Type 0} (rows : Rows T A) (m : Meets) (d : ℕ) (tag : Tag) (net : Net) (limits : List Limit) (kids : List (Node T A)) (start : Streams T) (olds : List (Kept T)) (ms : List ℕ) (now : List (Node T A)) (held : Streams T) (news : List (Kept T)) : Type 0 where
  pub logs : List (Log T)
  pub run : FromSome (λ k. RunningWith (child_facts (facts_of rows)) (steps_below rows k d m) tag net limits (numbered 0 kids) start ms (numbered 0 now) held logs)
  pub low : AllLow d now
  pub kept : AllGrewBy logs olds news

-- it gives its rates, where it has any
abbrev pub GivesRates : {T : Type 0} → Option (List ℕ) → Streams T → Type 0
GivesRates None out = Unit {0}
GivesRates (Some ns) out = has_rates ns out ≡ true

-- child i has what it needs, and takes got of it
pub record IsAsked {T A : Type 0} (rows : Rows T A) (net : Net) (limits : List Limit) (ms : List ℕ) (now : List (Node T A)) (held : Streams T) (i : ℕ) (child : Node T A) (got left : Streams T) : Type 0 where
  pub state : get now i ≡ Some child
  pub asks : Asks (facts_of rows) i net.places limits ms now held got left

-- before any firing
abbrev pub SoFarBegins : Type 0 → Type 0 → Type 0
SoFarBegins T A = (rows : Rows T A) (m : Meets) (tag : Tag) (net : Net) (limits : List Limit) (kids : Nodes T A) (start : Streams T) (olds : List (Kept T)) → length limits ≡ length net.places → length (list_of kids) ≡ length net.places → Fits net.places start → length (list_of kids) ≡ length olds →
    SoFar rows m (heights kids) tag net limits (list_of kids) start olds (zeros net.places) (list_of kids) start olds

-- A child that was asked has fired, and its firing is recorded.
abbrev pub SoFarGoesOn : Type 0 → Type 0 → Type 0
SoFarGoesOn T A = (rows : Rows T A) (m : Meets) (d : ℕ) (tag : Tag) (net : Net) (limits : List Limit) (kids : List (Node T A)) (start : Streams T) (olds : List (Kept T)) (ms : List ℕ) (now : List (Node T A)) (held : Streams T) (news : List (Kept T)) →
    SoFar rows m d tag net limits kids start olds ms now held news →
    (i : ℕ) (child next : Node T A) (got left out : Streams T) (k : Kept T) → IsAsked rows net limits ms now held i child got left → i < length news →
    FiresTo (λ fuel. Step fuel rows (below_child i m) child tag got) next out (kept_at news i) k → GivesRates (rates_at limits i) out →
    SoFar rows m d tag net limits kids start olds (set ms i (get_or ms i 0 + 1)) (set now i next) (plus left (puts i out net.sources)) (set news i k)

-- an SDF composite on its inputs, with what its children have done so far
abbrev pub SdfSoFar : {T A : Type 0} → Rows T A → Meets → Tag → SdfPlan → Streams T → Nodes T A → Streams T → List (Kept T) → List ℕ → List (Node T A) → Streams T → List (Kept T) → Type 0
SdfSoFar rows m tag p X kids inputs olds ms now held news = SoFar rows m (heights kids) tag p.net (sdf_bounds p X inputs) (list_of kids) (sdf_start p X inputs) olds ms now held news

-- what its channels hold once its firing is done, by what they held at the end of it
abbrev pub sdf_left : {T : Type 0} → SdfPlan → Streams T → Streams T → Streams T → Streams T
sdf_left p X inputs held = take (total p.net.places) held ++ behind (times (iterations p (sdf_start p X inputs)) (leaves p)) (outlets_of p.net held)

-- Where each child has fired as often as its bound says, the composite's firing is done.
abbrev pub SdfIsDone : Type 0 → Type 0 → Type 0
SdfIsDone T A = (rows : Rows T A) (m : Meets) (tag : Tag) (h : Past) (c : Core T) (p : SdfPlan) (X : Streams T) (kids : Nodes T A) (inputs : Streams T) (e : Entry T) (olds : List (Kept T)) (ms : List ℕ) (now : List (Node T A)) (held : Streams T) (news : List (Kept T)) →
    SdfSoFar rows m tag p X kids inputs olds ms now held news → ms ≡ times (iterations p (sdf_start p X inputs)) p.repetitions →
    FiresTo (λ fuel. step_at rows fuel (height (Composite h c (Sdf p X) kids)) m tag (Composite h c (Sdf p X) kids) inputs) (Composite (fired_at tag h) c (Sdf p (sdf_left p X inputs held)) (nodes_of now)) (firsts (times (iterations p (sdf_start p X inputs)) p.gives) (outlets_of p.net held)) (kept_by e olds) (kept_by e news)

-- Where a child that was asked is stuck, so is the composite, at the place of the child. What is logged by then is shut, where the child's part of it is.
abbrev pub SdfIsStuck : Type 0 → Type 0 → Type 0
SdfIsStuck T A = (rows : Rows T A) → LawfulRows rows → (m : Meets) (tag : Tag) (h : Past) (c : Core T) (p : SdfPlan) (X : Streams T) (kids : Nodes T A) (inputs : Streams T) (e : Entry T) (olds : List (Kept T)) (ms : List ℕ) (now : List (Node T A)) (held : Streams T) (news : List (Kept T)) →
    SdfSoFar rows m tag p X kids inputs olds ms now held news →
    (i : ℕ) (child : Node T A) (got left : Streams T) (k : Kept T) (f : Fault) → IsAsked rows p.net (sdf_bounds p X inputs) ms now held i child got left → i < length news →
    SticksAt (λ fuel. step_at rows fuel (height child) (below_child i m) tag child got) (IsShut rows (below_child i m) child tag got (Some f)) f (kept_at news i) k →
    SticksAt (λ fuel. step_at rows fuel (height (Composite h c (Sdf p X) kids)) m tag (Composite h c (Sdf p X) kids) inputs) (IsShut rows m (Composite h c (Sdf p X) kids) tag inputs (Some (record { path = i ∷ f.path; firing = f.firing; code = f.code }))) (record { path = i ∷ f.path; firing = f.firing; code = f.code }) (kept_by e olds) (kept_by e (set news i k))

-- Where a child that was asked gives another number of tokens than its rate, the composite is stuck at the child, and the child's firing has no record.
abbrev pub SdfIsUnrated : Type 0 → Type 0 → Type 0
SdfIsUnrated T A = (rows : Rows T A) → LawfulRows rows → (m : Meets) (tag : Tag) (h : Past) (c : Core T) (p : SdfPlan) (X : Streams T) (kids : Nodes T A) (inputs : Streams T) (e : Entry T) (olds : List (Kept T)) (ms : List ℕ) (now : List (Node T A)) (held : Streams T) (news : List (Kept T)) →
    SdfSoFar rows m tag p X kids inputs olds ms now held news →
    (i : ℕ) (child next : Node T A) (got left out : Streams T) (k : Kept T) (ns : List ℕ) → IsAsked rows p.net (sdf_bounds p X inputs) ms now held i child got left → i < length news →
    FiresTo (λ fuel. step_at rows fuel (height child) (below_child i m) tag child got) next out (kept_at news i) k → rates_at (sdf_bounds p X inputs) i ≡ Some ns → has_rates ns out ≡ false →
    SticksAt (λ fuel. step_at rows fuel (height (Composite h c (Sdf p X) kids)) m tag (Composite h c (Sdf p X) kids) inputs) (IsShut rows m (Composite h c (Sdf p X) kids) tag inputs (Some (record { path = i ∷ []; firing = made_of child; code = rate_code }))) (record { path = i ∷ []; firing = made_of child; code = rate_code }) (kept_by e olds) (kept_by e (set news i k))

-- The composite may be left off between two firings of children, or within one.
abbrev pub SdfIsLeftOff : Type 0 → Type 0 → Type 0
SdfIsLeftOff T A = (rows : Rows T A) → LawfulRows rows → (m : Meets) (tag : Tag) (h : Past) (c : Core T) (p : SdfPlan) (X : Streams T) (kids : Nodes T A) (inputs : Streams T) (e : Entry T) (olds : List (Kept T)) (ms : List ℕ) (now : List (Node T A)) (held : Streams T) (news : List (Kept T)) →
    SdfSoFar rows m tag p X kids inputs olds ms now held news →
    LeavesOff (λ fuel. step_at rows fuel (height (Composite h c (Sdf p X) kids)) m tag (Composite h c (Sdf p X) kids) inputs) (IsShut rows m (Composite h c (Sdf p X) kids) tag inputs None) (kept_by e olds) (kept_by e news)

abbrev pub SdfIsLeftOffWithin : Type 0 → Type 0 → Type 0
SdfIsLeftOffWithin T A = (rows : Rows T A) → LawfulRows rows → (m : Meets) (tag : Tag) (h : Past) (c : Core T) (p : SdfPlan) (X : Streams T) (kids : Nodes T A) (inputs : Streams T) (e : Entry T) (olds : List (Kept T)) (ms : List ℕ) (now : List (Node T A)) (held : Streams T) (news : List (Kept T)) →
    SdfSoFar rows m tag p X kids inputs olds ms now held news →
    (i : ℕ) (child : Node T A) (got left : Streams T) (k : Kept T) → IsAsked rows p.net (sdf_bounds p X inputs) ms now held i child got left → i < length news →
    LeavesOff (λ fuel. step_at rows fuel (height child) (below_child i m) tag child got) (IsShut rows (below_child i m) child tag got None) (kept_at news i) k →
    LeavesOff (λ fuel. step_at rows fuel (height (Composite h c (Sdf p X) kids)) m tag (Composite h c (Sdf p X) kids) inputs) (IsShut rows m (Composite h c (Sdf p X) kids) tag inputs None) (kept_by e olds) (kept_by e (set news i k))
