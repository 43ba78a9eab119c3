-- The statements of the laws: of steps at fuel, of rounds and valuations, of runs in any order, of places, and of the meaning.
use Rattle.std.specs.Prelude.{◌≡◌, ℕ, suc, ◌≤◌, ◌<◌, ◌+◌, ◌++◌, List, [], ◌∷◌, Bool, true, length}
use Rattle.pt_meaning.specs.Tag.{Tag}
use Rattle.pt_meaning.specs.Streams.{Streams, at, Below}
use Rattle.pt_meaning.specs.Log.{Log, LogBelow, Meeting}
use Rattle.pt_meaning.specs.Machine.{Done, Stuck, Fault, Stepping, Facts, Partial}
use Rattle.pt_meaning.specs.Flow.{Flow}
use Rattle.pt_meaning.specs.Net.{Net}
use Rattle.pt_meaning.specs.Rounds.{Limit, refill, flows, round}
use Rattle.pt_meaning.specs.Kahn.{Leaving, kahn, lengths, firsts, behind}
use Rattle.pt_meaning.specs.Pn.{pn_limits}
use Rattle.pt_meaning.specs.Valuation.{Activity, Earliness, react_all, valuation, is_least}
use Rattle.pt_meaning.specs.Process.{puts_of}
use Rattle.pt_meaning.specs.Meetings.{Meets, Scene, is_legal, meet, Apart}
use Rattle.pt_meaning.specs.Rendezvous.{settled}
use Rattle.pt_meaning.specs.Tree.{Rows, Node}
use Rattle.pt_meaning.specs.Step.{Step, step_at}
use Rattle.pt_meaning.specs.Job.{Schedule, Standing, Goes, Ended, Halted, after, begin, log_of}
use Rattle.pt_meaning.specs.Lawful.{LawfulRows}
use Rattle.pt_meaning.specs.Laws.{Extends, IsIn, AllIn, KnownBelow, KeepsEarly}
use Rattle.pt_meaning.specs.Running.{Running, Fits, MadeAll, Fires, NoneCanFire, SticksAt, total, plus, puts, zeros, added_by}
use Rattle.pt_meaning.specs.Places.{Halfway, Consistent, IsGet, IsPut, IsFire, ArePuts, AllStop}
use Rattle.pt_meaning.specs.Dataflow as dataflow

-- at a greater fuel what is done stays, the log grows and stuck places become more
abbrev pub MoreFuel : Type 0 → Type 0 → Type 0
MoreFuel T A = (rows : Rows T A) → LawfulRows rows → (m : Meets) (k k' : ℕ) → k ≤ k' → (node : Node T A) (tag : Tag) (inputs : Streams T) → Extends (Step k rows m node tag inputs) (Step k' rows m node tag inputs)

-- a step with a stuck place is done at no fuel
abbrev pub StuckIsStuck : Type 0 → Type 0 → Type 0
StuckIsStuck T A = (rows : Rows T A) → LawfulRows rows → (m : Meets) (k k' : ℕ) (node next : Node T A) (tag : Tag) (inputs out : Streams T) (f : Fault) (fs : List Fault) (l n : Log T) →
    Step k rows m node tag inputs ≡ Stuck fs l → IsIn f fs → Step k' rows m node tag inputs ≡ Done next out n → ⊥

-- W holds what the channels begin with, and what any number of firings on W gives.
abbrev pub IsSolution : {T S : Type 0} → Facts T S → Stepping T S → Tag → Net → List Limit → List S → Streams T → Streams T → Type 0
IsSolution facts step tag net limits kids X W = (n : ℕ) → Below (refill (flows facts step tag net.places limits n kids W) net.sources X) W

-- each round is below every solution, and a settled round is one: it is the least
abbrev pub RoundsAreLeast : Type 0 → Type 0 → Type 0
RoundsAreLeast T S = (facts : Facts T S) (step : Stepping T S) (tag : Tag) (net : Net) (limits : List Limit) (kids : List S) (X W : Streams T) → IsSolution facts step tag net limits kids X W → (k : ℕ) → Below (round facts step tag net limits kids X k) W

-- a settled round is a solution
abbrev pub SettledIsSolution : Type 0 → Type 0 → Type 0
SettledIsSolution T S = (facts : Facts T S) (step : Stepping T S) (tag : Tag) (net : Net) (limits : List Limit) (kids : List S) (X : Streams T) (k : ℕ) → dataflow.settled facts step tag net limits kids X k ≡ true →
    IsSolution facts step tag net limits kids X (round facts step tag net limits kids X k)

-- each valuation is below every one that keeps what its reactions give, and one that knows no less than the next is such a one
abbrev pub ValuationsAreLeast : Type 0 → Type 0 → Type 0
ValuationsAreLeast T S = (early : Earliness T S) (active : Activity T S) (turn : Stepping T S) (tag : Tag) → KeepsEarly early active turn → (net : Net) (kids : List S) (inputs : Streams T) (W : List (Partial T)) →
    KnownBelow (react_all early active turn tag net kids inputs W) W → (k : ℕ) → KnownBelow (valuation early active turn tag net kids inputs k) W

-- a valuation that knows no less than the next is what its reactions give
abbrev pub LeastIsFixed : Type 0 → Type 0 → Type 0
LeastIsFixed T S = (early : Earliness T S) (active : Activity T S) (turn : Stepping T S) (tag : Tag) → KeepsEarly early active turn → (net : Net) (kids : List S) (inputs : Streams T) (k : ℕ) → is_least early active turn tag net kids inputs k ≡ true →
    valuation early active turn tag net kids inputs k ≡ react_all early active turn tag net kids inputs (valuation early active turn tag net kids inputs k)

-- Any run of firings of the children of a dataflow composite, in any order: it begins with no firing, goes on by the firing of one child, and where no child can fire it is the settled round.
abbrev pub RunBegins : Type 0 → Type 0 → Type 0
RunBegins T S = (facts : Facts T S) (step : Stepping T S) (tag : Tag) (net : Net) (limits : List Limit) (kids : List S) (start : Streams T) → length limits ≡ length net.places → length kids ≡ length net.places → Fits net.places start →
    Running facts step tag net limits kids start (zeros net.places) kids start

-- a run goes on by the firing of any child that can fire
abbrev pub RunGoesOn : Type 0 → Type 0 → Type 0
RunGoesOn T S = (facts : Facts T S) (step : Stepping T S) (tag : Tag) (net : Net) (limits : List Limit) (kids : List S) (start : Streams T) (ms : List ℕ) (now : List S) (held : Streams T) → Running facts step tag net limits kids start ms now held →
    (i : ℕ) (ms' : List ℕ) (now' : List S) (held' out : Streams T) → Fires facts step tag i net.places limits ms now held ms' now' held' out → Running facts step tag net limits kids start ms' now' (plus held' (puts i out net.sources))

-- a run in which no child can fire is the settled round
abbrev pub RunEnds : Type 0 → Type 0 → Type 0
RunEnds T S = (facts : Facts T S) (step : Stepping T S) (tag : Tag) (net : Net) (limits : List Limit) (kids : List S) (start : Streams T) (ms : List ℕ) (now : List S) (held : Streams T) → Running facts step tag net limits kids start ms now held →
    NoneCanFire facts net.places limits ms now held → (enough : List (Flow T S) → Bool) (leaving : Leaving) → ((fs : List (Flow T S)) → MadeAll ms fs → enough fs ≡ true) → (k : ℕ) → total ms < k →
    (left own : Streams T) × (l : Log T) × (held ≡ left ++ own) × (length left ≡ total net.places) ×
    (kahn facts step tag net limits enough leaving kids start k ≡ Done (record { held = left ++ behind (leaving.gone (lengths own)) own; kids = now }) (firsts (leaving.given (lengths own)) own) l)

-- a child that is stuck in a run makes the composite stuck at that place
abbrev pub RunSticks : Type 0 → Type 0 → Type 0
RunSticks T S = (facts : Facts T S) (step : Stepping T S) (tag : Tag) (net : Net) (limits : List Limit) (kids : List S) (start : Streams T) (ms : List ℕ) (now : List S) (held : Streams T) → Running facts step tag net limits kids start ms now held →
    (i : ℕ) (f : Fault) → SticksAt facts step tag i net.places limits ms now held f → (enough : List (Flow T S) → Bool) (leaving : Leaving) →
    (gs : List Fault) × (l : Log T) × (kahn facts step tag net limits enough leaving kids start (suc (total ms)) ≡ Stuck gs l) × IsIn (record { path = i ∷ f.path; firing = f.firing; code = f.code }) gs

-- a legal meeting stays legal until one of its parties takes part in another: through any other meeting, and through any firings
abbrev pub LegalStays : Type 0 → Type 0 → Type 0
LegalStays T S = (facts : Facts T S) (step : Stepping T S) (tag : Tag) (net : Net) (k n : ℕ) (sc : Scene T S) (m other : Meeting) → is_legal facts net sc m ≡ true → Apart net m other → is_legal facts net (settled facts step tag net k n (meet net n other sc)) m ≡ true

-- What joins the phases of a PN firing: from any place in the middle the rest of the solution is, on each channel, the solution without what its receiver has used before.
-- What the channels have had in all is the run's own list; what its receiver has used of it comes first, and then what is there.
abbrev pub PhasesJoin : Type 0 → Type 0 → Type 0
PhasesJoin T S = (facts : Facts T S) (step : Stepping T S) (tag : Tag) (net : Net) (kids : List S) (start : Streams T) (ms : List ℕ) (now : List S) (held : Streams T) (r : Running facts step tag net (pn_limits net.places) kids start ms now held) →
    ((c : ℕ) → (used : List T) × (at r.all c ≡ used ++ at held c)) ×
    ((k : ℕ) →
    (round facts step tag net (pn_limits net.places) now held k ≡ plus held (added_by facts step tag net (pn_limits net.places) now held k)) ×
    Below (plus r.all (added_by facts step tag net (pn_limits net.places) now held k)) (round facts step tag net (pn_limits net.places) kids start (total ms + k)) ×
    Below (round facts step tag net (pn_limits net.places) kids start k) (plus r.all (added_by facts step tag net (pn_limits net.places) now held k)))

-- where a round from there is settled, each later round from the start is what the channels have had, and what is new
abbrev pub RestIsSolution : Type 0 → Type 0 → Type 0
RestIsSolution T S = (facts : Facts T S) (step : Stepping T S) (tag : Tag) (net : Net) (kids : List S) (start : Streams T) (ms : List ℕ) (now : List S) (held : Streams T) (r : Running facts step tag net (pn_limits net.places) kids start ms now held) →
    (k : ℕ) → dataflow.settled facts step tag net (pn_limits net.places) now held k ≡ true → (j : ℕ) → total ms + suc k ≤ j →
    round facts step tag net (pn_limits net.places) kids start j ≡ plus r.all (added_by facts step tag net (pn_limits net.places) now held (suc k))

-- Gets, puts and firings of the processes keep their places consistent.
abbrev pub GetKeeps : Type 0 → Type 0 → Type 0
GetKeeps T S = (facts : Facts T S) (step : Stepping T S) (tag : Tag) (net : Net) (kids : List S) (start : Streams T) (ms : List ℕ) (now : List S) (c : ℕ) (h h' : Halfway T) →
    Consistent facts step tag net kids start ms now h → IsGet c h h' → Consistent facts step tag net kids start ms now h'

-- a put keeps the places consistent
abbrev pub PutKeeps : Type 0 → Type 0 → Type 0
PutKeeps T S = (facts : Facts T S) (step : Stepping T S) (tag : Tag) (net : Net) (kids : List S) (start : Streams T) (ms : List ℕ) (now : List S) (i : ℕ) (h h' : Halfway T) →
    Consistent facts step tag net kids start ms now h → IsPut net i h h' → Consistent facts step tag net kids start ms now h'

-- a firing keeps the places consistent
abbrev pub FireKeeps : Type 0 → Type 0 → Type 0
FireKeeps T S = (facts : Facts T S) (step : Stepping T S) (tag : Tag) (net : Net) (kids : List S) (start : Streams T) (ms : List ℕ) (now : List S) (i : ℕ) (h : Halfway T) (ms' : List ℕ) (now' : List S) (h' : Halfway T) →
    (k : Consistent facts step tag net kids start ms now h) → IsFire facts step tag net i ms now k.held h ms' now' h' → Consistent facts step tag net kids start ms' now' h'

-- the puts of a firing, in order of ports, tokens and channels, give each channel what its port gave
abbrev pub PutsAre : Type 0 → Type 0
PutsAre T = (net : Net) (i : ℕ) (out : Streams T) → ArePuts net i out (puts_of net.sources i 0 out)

-- where all processes stop, and none has a put to make, no child can fire
abbrev pub StoppedIsDone : Type 0 → Type 0 → Type 0
StoppedIsDone T S = (facts : Facts T S) (step : Stepping T S) (tag : Tag) (net : Net) (kids : List S) (start : Streams T) (ms : List ℕ) (now : List S) (h : Halfway T) (k : Consistent facts step tag net kids start ms now h) →
    ((i : ℕ) → at h.puts i ≡ []) → (capacity : ℕ → ℕ) → AllStop facts capacity h 0 0 net.places now → NoneCanFire facts net.places (pn_limits net.places) ms now k.held

-- a node's firing with more levels allowed: what is done below a node of its own height is done below any higher one
abbrev pub MoreLevels : Type 0 → Type 0 → Type 0
MoreLevels T A = (rows : Rows T A) → LawfulRows rows → (m : Meets) (k k' d d' : ℕ) → k ≤ k' → d ≤ d' → (node : Node T A) (tag : Tag) (inputs : Streams T) → Extends (step_at rows k d m tag node inputs) (step_at rows k' d' m tag node inputs)

-- how a run of the top at a greater fuel, with more firings, stands to one before: in the middle and where it is stuck the log only grows, stuck places become more, and an end stays
abbrev pub StandsOn : {T A : Type 0} → Standing T A → Standing T A → Type 0
StandsOn (Goes c) s = LogBelow c.log (log_of s)
StandsOn (Ended e c) s = s ≡ Ended e c
StandsOn (Halted fs l) (Halted gs n) = AllIn fs gs × LogBelow l n
StandsOn (Halted [] l) (Goes c) = LogBelow l c.log
StandsOn (Halted [] l) (Ended e c) = LogBelow l c.log
StandsOn (Halted (f ∷ fs) l) (Goes c) = ⊥
StandsOn (Halted (f ∷ fs) l) (Ended e c) = ⊥

-- at a greater fuel, with more firings, a run stands on the former
abbrev pub MeaningGrows : Type 0 → Type 0 → Type 0
MeaningGrows T A = (rows : Rows T A) → LawfulRows rows → (m : Meets) (plan : Schedule T A) (top : Node T A) (k k' : ℕ) → k ≤ k' → StandsOn (after k rows m plan k (begin top)) (after k' rows m plan k' (begin top))
