-- How many firings a round makes, and a settled round as a run.
use Rattle.std.specs.Prelude.{◌≡◌, ℕ, suc, ◌≤◌, List, [], ◌∷◌, ◌++◌, true, length, take}
use Rattle.pt_meaning.specs.Basics.{Tag, Streams, Log, Below, log_below, within_firing}
use Rattle.pt_meaning.specs.Machine.{Done, Stepping, Facts}
use Rattle.pt_meaning.specs.Flow.{Flow}
use Rattle.pt_meaning.specs.Rounds.{Net, Limit, flows, round}
use Rattle.pt_meaning.specs.Dataflow.{SdfPlan, PnPlan, iterations, pn_limits, settled, states_of, left_by, logs_of, skip_places, lengths, firsts, behind, Leaving, times, leaving, all_leave}
use Rattle.pt_meaning.specs.Meetings.{Meets}
use Rattle.pt_meaning.specs.Children.{Child, numbered, nodes, child_facts}
use Rattle.pt_meaning.specs.Node.{Rows, Core, Sdf, Pn, Past, Node, Nodes, Composite, list_of, nodes_of, fired_at, facts_of, step_at}
use Rattle.pt_meaning.specs.Running.{Fits, NoneCanFire, total}
use Rattle.pt_laws.specs.LogsOfRuns.{RunningWith}
use Rattle.pt_laws.specs.Heights.{HasEntries}
use Rattle.pt_laws.specs.CompositeRuns.{SdfRun, PnRun, sdf_start, outlets_of}

-- how often each child fired
abbrev pub fired_of : {T S : Type 0} → List (Flow T S) → List ℕ
fired_of [] = []
fired_of (f ∷ fs) = f.fired ∷ fired_of fs

-- the stream functions of the children at round k, on what the channels hold there
abbrev pub flows_at : {T S : Type 0} → Facts T S → Stepping T S → Tag → Net → List Limit → List S → Streams T → ℕ → List (Flow T S)
flows_at facts step tag net limits kids start k = flows facts step tag net.places limits k kids (round facts step tag net limits kids start k)

-- what the children have left at round k, and then what the channels behind their places have
abbrev pub held_at : {T S : Type 0} → Facts T S → Stepping T S → Tag → Net → List Limit → List S → Streams T → ℕ → Streams T
held_at facts step tag net limits kids start k = left_by (flows_at facts step tag net limits kids start k) ++ skip_places net.places (round facts step tag net limits kids start k)

-- each round lies below the round whose number is the number of firings made in it
abbrev pub RoundsCount : Type 0 → Type 0 → Type 0
RoundsCount T S = (facts : Facts T S) (step : Stepping T S) (tag : Tag) (net : Net) (limits : List Limit) (kids : List S) (start : Streams T) (k : ℕ) →
    Below (round facts step tag net limits kids start k) (round facts step tag net limits kids start (total (fired_of (flows_at facts step tag net limits kids start k))))

-- a settled round is a run, at the end of which no child can fire
abbrev pub SettledIsRun : Type 0 → Type 0 → Type 0
SettledIsRun T S = (facts : Facts T S) (step : Stepping T S) (tag : Tag) (net : Net) (limits : List Limit) (kids : List S) (start : Streams T) → length limits ≡ length net.places → length kids ≡ length net.places → Fits net.places start →
    (k : ℕ) → settled facts step tag net limits kids start k ≡ true →
    RunningWith facts step tag net limits kids start (fired_of (flows_at facts step tag net limits kids start k)) (states_of (flows_at facts step tag net limits kids start k)) (held_at facts step tag net limits kids start k) (logs_of (flows_at facts step tag net limits kids start k)) ×
    NoneCanFire facts net.places limits (fired_of (flows_at facts step tag net limits kids start k)) (states_of (flows_at facts step tag net limits kids start k)) (held_at facts step tag net limits kids start k)

-- What a run comes to for a composite whose firing is done: its next state, outputs and log, and children that kept their numbers.
pub record FiringOfRun {T A : Type 0} (tag : Tag) (h : Past) (c : Core T) (core : Streams T → Core T) (net : Net) (leaving : Leaving) (now : List (Child (Node T A))) (held : Streams T) (ls : List (Log T)) (s : Node T A) (out : Streams T) (l : Log T) : Type 0 where
  pub state : s ≡ Composite (fired_at tag h) c (core (take (total net.places) held ++ behind (leaving.gone (lengths (outlets_of net held))) (outlets_of net held))) (nodes_of (nodes now))
  pub outputs : out ≡ firsts (leaving.given (lengths (outlets_of net held))) (outlets_of net held)
  pub log : l ≡ within_firing h.made (log_below ls)
  pub numbers : numbered 0 (nodes now) ≡ now

-- a PN firing that is done is a run at the end of which no child can fire
abbrev pub PnFiringIsRun : Type 0 → Type 0 → Type 0
PnFiringIsRun T A = (rows : Rows T A) (k d : ℕ) (m : Meets) (tag : Tag) (h : Past) (c : Core T) (p : PnPlan) (X : Streams T) (kids : Nodes T A) (inputs : Streams T) (s : Node T A) (out : Streams T) (l : Log T) → length (list_of kids) ≡ length p.net.places → total p.net.places ≤ length X →
    step_at rows k (suc d) m tag (Composite h c (Pn p X) kids) inputs ≡ Done s out l →
    (ms : List ℕ) × (now : List (Child (Node T A))) × (held : Streams T) × (ls : List (Log T)) × PnRun rows k d m tag p X kids inputs ms now held ls × NoneCanFire (child_facts (facts_of rows)) p.net.places (pn_limits p.net.places) ms now held ×
    FiringOfRun tag h c (Pn p) p.net all_leave now held ls s out l

-- an SDF firing that is done is a run in which each child has fired as often as its bound says
abbrev pub SdfFiringIsRun : Type 0 → Type 0 → Type 0
SdfFiringIsRun T A = (rows : Rows T A) (k d : ℕ) (m : Meets) (tag : Tag) (h : Past) (c : Core T) (p : SdfPlan) (X : Streams T) (kids : Nodes T A) (inputs : Streams T) (s : Node T A) (out : Streams T) (l : Log T) → HasEntries (length (list_of kids)) (Sdf p X) → total p.net.places ≤ length X →
    step_at rows k (suc d) m tag (Composite h c (Sdf p X) kids) inputs ≡ Done s out l →
    (now : List (Child (Node T A))) × (held : Streams T) × (ls : List (Log T)) × SdfRun rows k d m tag p X kids inputs (times (iterations p (sdf_start p X inputs)) p.repetitions) now held ls ×
    FiringOfRun tag h c (Sdf p) p.net (leaving (iterations p (sdf_start p X inputs)) p) now held ls s out l
