-- What a run of the children of an SDF or PN composite comes to for the composite itself, at any depth of what is below it.
use Rattle.std.specs.Prelude.{◌≡◌, ℕ, suc, ◌≤◌, ◌<◌, List, ◌∷◌, ◌++◌, take, drop, get_or}
use Rattle.pt_meaning.specs.Basics.{Tag, Streams, Log, LogBelow, log_below, within_firing}
use Rattle.pt_meaning.specs.Machine.{Fault, Outcome, Done, Stuck, Stepping, Facts}
use Rattle.pt_meaning.specs.Rounds.{Net, Limit}
use Rattle.pt_meaning.specs.Dataflow.{SdfPlan, PnPlan, arrived, iterations, sdf_limits, pn_limits, times, leaves, firsts, behind}
use Rattle.pt_meaning.specs.Process.{emptied}
use Rattle.pt_meaning.specs.Meetings.{Meets, below_child}
use Rattle.pt_meaning.specs.Children.{Child, numbered, nodes, child_facts, with_number, child_step}
use Rattle.pt_meaning.specs.Node.{Rows, Core, Sdf, Pn, Past, Node, Nodes, Actor, Composite, list_of, nodes_of, fired_at, facts_of, actor_outcome, step_at}
use Rattle.pt_meaning.specs.Running.{Asks, NoneCanFire, total}
use Rattle.pt_laws.specs.LogsOfRuns.{RunningWith, SticksWith, logs_then, log_in}
use Rattle.pt_meaning.specs.Laws.{IsIn, Grows}
use Rattle.pt_meaning.specs.Lawful.{LawfulRows}

-- the steps of the children of a composite, each of at most d levels, at fuel k under the composite's meetings
abbrev pub steps_below : {T A : Type 0} → Rows T A → ℕ → ℕ → Meets → Stepping T (Child (Node T A))
steps_below rows k d m = child_step (λ i. step_at rows k d (below_child i m))

-- at a library actor it is the actor's own reaction, at each fuel and each depth but 0
abbrev pub ActorsReact : Type 0 → Type 0 → Type 0
ActorsReact T A = (rows : Rows T A) (k d : ℕ) (m : Meets) (tag : Tag) (i : ℕ) (h : Past) (a b : A) (X : Streams T) →
    steps_below rows k (suc d) m tag (record { number = i; node = Actor h a b }) X ≡ with_number i (actor_outcome tag h a (rows.react tag b X))

-- the steps of the children may do more at a greater fuel, and with more levels
abbrev pub StepsGrow : Type 0 → Type 0 → Type 0
StepsGrow T A = (rows : Rows T A) → LawfulRows rows → (m : Meets) (k k' d d' : ℕ) → k ≤ k' → d ≤ d' → Grows (steps_below rows k d m) (steps_below rows k' d' m)

-- a run stays a run where the steps of the children may do more, as at a greater fuel or with more levels
abbrev pub RunGrows : Type 0 → Type 0 → Type 0
RunGrows T S = (facts : Facts T S) (step more : Stepping T S) → Grows step more → (tag : Tag) (net : Net) (limits : List Limit) (kids : List S) (start : Streams T) (ms : List ℕ) (now : List S) (held : Streams T) (ls : List (Log T)) →
    RunningWith facts step tag net limits kids start ms now held ls → RunningWith facts more tag net limits kids start ms now held ls

-- the run of the children of an SDF composite on its inputs
abbrev pub sdf_start : {T : Type 0} → SdfPlan → Streams T → Streams T → Streams T
sdf_start p X inputs = arrived p.net.sources inputs X

abbrev pub sdf_bounds : {T : Type 0} → SdfPlan → Streams T → Streams T → List Limit
sdf_bounds p X inputs = sdf_limits (iterations p (sdf_start p X inputs)) p.repetitions p.rates

abbrev pub SdfRun : {T A : Type 0} → Rows T A → ℕ → ℕ → Meets → Tag → SdfPlan → Streams T → Nodes T A → Streams T → List ℕ → List (Child (Node T A)) → Streams T → List (Log T) → Type 0
SdfRun rows k d m tag p X kids inputs ms now held ls =
    RunningWith (child_facts (facts_of rows)) (steps_below rows k d m) tag p.net (sdf_bounds p X inputs) (numbered 0 (list_of kids)) (sdf_start p X inputs) ms now held ls

abbrev pub PnRun : {T A : Type 0} → Rows T A → ℕ → ℕ → Meets → Tag → PnPlan → Streams T → Nodes T A → Streams T → List ℕ → List (Child (Node T A)) → Streams T → List (Log T) → Type 0
PnRun rows k d m tag p X kids inputs ms now held ls =
    RunningWith (child_facts (facts_of rows)) (steps_below rows k d m) tag p.net (pn_limits p.net.places) (numbered 0 (list_of kids)) (arrived p.net.sources inputs X) ms now held ls

-- what the channels behind the children's places hold: those to the own outputs, and those that end nowhere
abbrev pub outlets_of : {T : Type 0} → Net → Streams T → Streams T
outlets_of net held = drop (total net.places) held

-- Where each child of an SDF composite has fired as often as its bound says, the composite's firing is done.
-- Each own output gives as many tokens as the iterations give, and as many leave an own input that feeds nothing as the iterations take from it. The rest is kept with what the children left, and the log is the children's, within this firing.
abbrev pub SdfEnds : Type 0 → Type 0 → Type 0
SdfEnds T A = (rows : Rows T A) (k d : ℕ) (m : Meets) (tag : Tag) (h : Past) (c : Core T) (p : SdfPlan) (X : Streams T) (kids : Nodes T A) (inputs : Streams T) (ms : List ℕ) (now : List (Child (Node T A))) (held : Streams T) (ls : List (Log T)) →
    SdfRun rows k d m tag p X kids inputs ms now held ls → ms ≡ times (iterations p (sdf_start p X inputs)) p.repetitions → total ms < k →
    step_at rows k (suc d) m tag (Composite h c (Sdf p X) kids) inputs ≡
    Done (Composite (fired_at tag h) c (Sdf p (take (total p.net.places) held ++ behind (times (iterations p (sdf_start p X inputs)) (leaves p)) (outlets_of p.net held))) (nodes_of (nodes now)))
    (firsts (times (iterations p (sdf_start p X inputs)) p.gives) (outlets_of p.net held)) (within_firing h.made (log_below ls))

-- where no child of a PN composite can fire its firing is done, and each own output gives all it has
abbrev pub PnEnds : Type 0 → Type 0 → Type 0
PnEnds T A = (rows : Rows T A) (k d : ℕ) (m : Meets) (tag : Tag) (h : Past) (c : Core T) (p : PnPlan) (X : Streams T) (kids : Nodes T A) (inputs : Streams T) (ms : List ℕ) (now : List (Child (Node T A))) (held : Streams T) (ls : List (Log T)) →
    PnRun rows k d m tag p X kids inputs ms now held ls → NoneCanFire (child_facts (facts_of rows)) p.net.places (pn_limits p.net.places) ms now held → total ms < k →
    step_at rows k (suc d) m tag (Composite h c (Pn p X) kids) inputs ≡
    Done (Composite (fired_at tag h) c (Pn p (take (total p.net.places) held ++ emptied (outlets_of p.net held))) (nodes_of (nodes now))) (outlets_of p.net held) (within_firing h.made (log_below ls))

-- where child i is stuck the firing is stuck at its place, and has logged at least what the children have
abbrev pub IsStuckBelow : {T A : Type 0} → Outcome T (Node T A) → ℕ → Fault → Log T → Type 0
IsStuckBelow {T} {A} r i f l = (gs : List Fault) × (n : Log T) × (r ≡ Stuck gs n) × IsIn (record { path = i ∷ f.path; firing = f.firing; code = f.code }) gs × LogBelow l n

abbrev pub SdfSticks : Type 0 → Type 0 → Type 0
SdfSticks T A = (rows : Rows T A) (k d : ℕ) (m : Meets) (tag : Tag) (h : Past) (c : Core T) (p : SdfPlan) (X : Streams T) (kids : Nodes T A) (inputs : Streams T) (ms : List ℕ) (now : List (Child (Node T A))) (held : Streams T) (ls : List (Log T)) →
    SdfRun rows k d m tag p X kids inputs ms now held ls → (i : ℕ) (inside : Log T) (f : Fault) → SticksWith (child_facts (facts_of rows)) (steps_below rows k d m) tag i p.net.places (sdf_bounds p X inputs) ms now held inside f → total ms < k →
    IsStuckBelow (step_at rows k (suc d) m tag (Composite h c (Sdf p X) kids) inputs) i f (within_firing h.made (log_below (logs_then i inside ls)))

abbrev pub PnSticks : Type 0 → Type 0 → Type 0
PnSticks T A = (rows : Rows T A) (k d : ℕ) (m : Meets) (tag : Tag) (h : Past) (c : Core T) (p : PnPlan) (X : Streams T) (kids : Nodes T A) (inputs : Streams T) (ms : List ℕ) (now : List (Child (Node T A))) (held : Streams T) (ls : List (Log T)) →
    PnRun rows k d m tag p X kids inputs ms now held ls → (i : ℕ) (inside : Log T) (f : Fault) → SticksWith (child_facts (facts_of rows)) (steps_below rows k d m) tag i p.net.places (pn_limits p.net.places) ms now held inside f → total ms < k →
    IsStuckBelow (step_at rows k (suc d) m tag (Composite h c (Pn p X) kids) inputs) i f (within_firing h.made (log_below (logs_then i inside ls)))

-- where the children leave off in the middle, with child i asked, what they have logged is the beginning of the firing's log
abbrev pub SdfIsPrefix : Type 0 → Type 0 → Type 0
SdfIsPrefix T A = (rows : Rows T A) (k d : ℕ) (m : Meets) (tag : Tag) (h : Past) (c : Core T) (p : SdfPlan) (X : Streams T) (kids : Nodes T A) (inputs : Streams T) (ms : List ℕ) (now : List (Child (Node T A))) (held : Streams T) (ls : List (Log T)) →
    SdfRun rows k d m tag p X kids inputs ms now held ls → (i : ℕ) (got held' : Streams T) (child : Child (Node T A)) → Asks (child_facts (facts_of rows)) i p.net.places (sdf_bounds p X inputs) ms now held got held' →
    (inside : Log T) → LogBelow inside (log_in (steps_below rows k d m tag (get_or now i child) got)) → total ms < k →
    LogBelow (within_firing h.made (log_below (logs_then i inside ls))) (log_in (step_at rows k (suc d) m tag (Composite h c (Sdf p X) kids) inputs))

abbrev pub PnIsPrefix : Type 0 → Type 0 → Type 0
PnIsPrefix T A = (rows : Rows T A) (k d : ℕ) (m : Meets) (tag : Tag) (h : Past) (c : Core T) (p : PnPlan) (X : Streams T) (kids : Nodes T A) (inputs : Streams T) (ms : List ℕ) (now : List (Child (Node T A))) (held : Streams T) (ls : List (Log T)) →
    PnRun rows k d m tag p X kids inputs ms now held ls → (i : ℕ) (got held' : Streams T) (child : Child (Node T A)) → Asks (child_facts (facts_of rows)) i p.net.places (pn_limits p.net.places) ms now held got held' →
    (inside : Log T) → LogBelow inside (log_in (steps_below rows k d m tag (get_or now i child) got)) → total ms < k →
    LogBelow (within_firing h.made (log_below (logs_then i inside ls))) (log_in (step_at rows k (suc d) m tag (Composite h c (Pn p X) kids) inputs))
