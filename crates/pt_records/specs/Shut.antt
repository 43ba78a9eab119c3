-- What an engine has logged of a firing that it left off in the middle: a closed part of all that the meaning logs.
use Rattle.std.specs.Prelude.{◌≡◌, ℕ, [], Bool, Option, Some, None}
use Rattle.pt_meaning.specs.Tag.{Tag}
use Rattle.pt_meaning.specs.Streams.{Streams}
use Rattle.pt_meaning.specs.Log.{Log, Path, LogBelow, firings_in, silent, log_then}
use Rattle.pt_meaning.specs.Machine.{Fault}
use Rattle.pt_meaning.specs.Meetings.{Meets}
use Rattle.pt_meaning.specs.Tree.{Rows, Node, height, made_of}
use Rattle.pt_meaning.specs.Step.{step_at, Step}
use Rattle.pt_meaning.specs.Job.{Schedule, Course, Goes, Fire, after, begin, meaning}
use Rattle.pt_meaning.specs.Closed.{Begun, UnderWay, ComesTo, IsClosedRun}
use Rattle.pt_meaning.specs.Headline.{IsUpTo}
use Rattle.pt_meaning.specs.Lawful.{LawfulRows}
use Rattle.pt_meaning.specs.Start.{IsAtStart}
use Rattle.pt_laws.specs.Heights.{IsFitting}
use Rattle.pt_laws.specs.LogsOfRuns.{log_in}
use Rattle.pt_laws.specs.SoundRuns.{idle, ClosedIn, KeptIn}
use Rattle.pt_laws.specs.StartedRuns.{ArePlans}
use Rattle.pt_laws.specs.WholeRuns.{ComesLater}
use Rattle.pt_records.specs.Fired.{FromSome}

-- A run that began with the node n₀ has come to this node, and has logged l, with no firing under way.
pub record HasCome {T A : Type 0} (rows : Rows T A) (resettable : Bool) (n₀ node : Node T A) (l : Log T) : Type 0 where
  pub fitting : IsFitting node
  pub closed : ClosedIn rows resettable n₀ l idle
  pub kept : KeptIn rows resettable n₀ node l

-- Of the node's next firing, at the tag on the inputs, this log is there so far: no record of the node itself is in it, behind l it is closed with this firing under way, each firing under way is one that it comes to,
-- and all that a firing of the node logs behind it comes later, whatever its fuel and its inputs. Where a place is given, the firing told there is under way, and the next of its path.
pub record IsShutAt {T A : Type 0} (rows : Rows T A) (m : Meets) (resettable : Bool) (n₀ node : Node T A) (tag : Tag) (inputs : Streams T) (place : Option Fault) (l log : Log T) : Type 0 where
  pub quiet : firings_in (log []) ≡ 0
  pub way : UnderWay T
  pub under : way [] ≡ Some (record { tag = tag; inputs = inputs })
  pub closed : ClosedIn rows resettable n₀ (log_then l log) way
  pub comes : (p : Path) (b : Begun T) → way p ≡ Some b → ComesTo rows p m (λ q. firings_in (log_then l log q)) node tag inputs b
  pub placed : (f : Fault) → place ≡ Some f → (firings_in (log_then l log f.path) ≡ f.firing) × (b : Begun T) × (way f.path ≡ Some b)
  pub later : (k : ℕ) (tag' : Tag) (inputs' : Streams T) (more : Log T) → log_in (step_at rows k (height node) m tag' node inputs') ≡ log_then log more → ComesLater (log_then l log) more

-- The node's firing at the tag on the inputs was left off with this log, or is stuck at this place: wherever a run had come to the node, the log is shut.
abbrev pub IsShut : {T A : Type 0} → Rows T A → Meets → Node T A → Tag → Streams T → (place : Option Fault) → Log T → Type 0
IsShut {T} {A} rows m node tag inputs place log = (resettable : Bool) (n₀ : Node T A) (l : Log T) → HasCome rows resettable n₀ node l → IsShutAt rows m resettable n₀ node tag inputs place l log

-- A firing that has begun and logged nothing is shut, and so is all that a step logs at any fuel; and where it is left off it is so too as stuck at the node itself.
pub record StepsAreShut (T A : Type 0) : Type 0 where
  pub nothing : (rows : Rows T A) → LawfulRows rows → (m : Meets) (node : Node T A) (tag : Tag) (inputs : Streams T) → IsShut rows m node tag inputs None silent
  pub stepped : (rows : Rows T A) → LawfulRows rows → (m : Meets) (node : Node T A) (k : ℕ) (tag : Tag) (inputs : Streams T) → IsShut rows m node tag inputs None (log_in (step_at rows k (height node) m tag node inputs))
  pub own_place : (rows : Rows T A) (m : Meets) (node : Node T A) (tag : Tag) (inputs : Streams T) (log : Log T) (f : Fault) → f.path ≡ [] → f.firing ≡ made_of node → IsShut rows m node tag inputs None log → IsShut rows m node tag inputs (Some f) log

-- A run of the top from its start, whose first n firings are done from some fuel on.
pub record IsReached {T A : Type 0} (rows : Rows T A) (m : Meets) (plan : Schedule T A) (top : Node T A) (n : ℕ) (c : Course T A) : Type 0 where
  pub fitting : IsFitting top
  pub planned : ArePlans top
  pub start : IsAtStart rows top
  pub goes : FromSome (λ k. after k rows m plan n (begin top) ≡ Goes c)

-- What is logged where the run is left off is closed as a part of the meaning's log, at each fuel of which it is a beginning, and beside the same firings under way.
pub record RunsAreShut (T A : Type 0) : Type 0 where
  -- between two firings of the top
  pub between : (rows : Rows T A) → LawfulRows rows → (m : Meets) (plan : Schedule T A) (top : Node T A) (n : ℕ) (c : Course T A) → IsReached rows m plan top n c →
      (way : UnderWay T) × ((k : ℕ) → LogBelow c.log (meaning k rows m plan top) → IsClosedRun rows m plan top (meaning k rows m plan top) c.log way)
  -- within the next firing, of which the log is there that is shut and a beginning of that of the step; where it is stuck at a place, the log goes up to that
  pub within : (rows : Rows T A) → LawfulRows rows → (m : Meets) (plan : Schedule T A) (top : Node T A) (n : ℕ) (c : Course T A) → IsReached rows m plan top n c →
      (tag : Tag) (inputs : Streams T) → plan c.fired c.last c.top ≡ Fire tag inputs → (place : Option Fault) (log : Log T) → IsShut rows m c.top tag inputs place log → FromSome (λ k. LogBelow log (log_in (Step k rows m c.top tag inputs))) →
      (way : UnderWay T) × ((k : ℕ) → LogBelow (log_then c.log log) (meaning k rows m plan top) → IsClosedRun rows m plan top (meaning k rows m plan top) (log_then c.log log) way) × ((f : Fault) → place ≡ Some f → IsUpTo (log_then c.log log) way f)
