-- The logs in a run of firings: what each child of a dataflow composite has logged in the middle of a firing.
use Rattle.std.specs.Prelude.{◌≡◌, ℕ, zero, suc, ◌+◌, ◌≤◌, ◌<◌, List, [], ◌∷◌, ◌++◌, Bool, true, length, Option, None, take, drop, set, get_or}
use Rattle.pt_meaning.specs.Basics.{Tag, Streams, at, Path, Firing, Log, LogBelow, silent, log_then, own, log_below, within_firing, trace, with_tag, firings_in}
use Rattle.pt_meaning.specs.Machine.{Fault, Outcome, Done, Stuck, Stepping, Facts, Takes, front, recorded}
use Rattle.pt_meaning.specs.Flow.{Flow}
use Rattle.pt_meaning.specs.Rounds.{Net, Limit, within, rated}
use Rattle.pt_meaning.specs.Dataflow.{Leaving, kahn, logs_of, lengths, firsts, behind}
use Rattle.pt_meaning.specs.Running.{Running, runs, Fits, MadeAll, Fires, Asks, NoneCanFire, total, plus, puts, zeros}
use Rattle.pt_meaning.specs.Children.{Child, with_number, child_step}
use Rattle.pt_meaning.specs.Laws.{IsIn}

-- no log yet, for each child
abbrev pub silents : {T S : Type 0} → List S → List (Log T)
silents [] = []
silents (s ∷ ss) = silent ∷ silents ss

-- the log of child i goes on by l
abbrev pub logs_then : {T : Type 0} → ℕ → Log T → List (Log T) → List (Log T)
logs_then i l [] = []
logs_then zero l (m ∷ ms) = log_then m l ∷ ms
logs_then (suc i) l (m ∷ ms) = m ∷ logs_then i l ms

-- the log of child i, silent where there is no such child
abbrev pub log_at : {T : Type 0} → List (Log T) → ℕ → Log T
log_at [] i = silent
log_at (l ∷ ls) zero = l
log_at (l ∷ ls) (suc i) = log_at ls i

-- the log of a firing, however it ends
abbrev pub log_in : {T S : Type 0} → Outcome T S → Log T
log_in (Done s out l) = l
log_in (Stuck fs l) = l

-- what a limit says of the rates of child i
abbrev pub rates_at : List Limit → ℕ → Option (List ℕ)
rates_at [] i = None
rates_at (c ∷ cs) zero = c.rates
rates_at (c ∷ cs) (suc i) = rates_at cs i

-- A run with what its children have logged, child by child: each has its own log, with its own firings, and its paths begin at the child.
pub record RunningWith {T S : Type 0} (facts : Facts T S) (step : Stepping T S) (tag : Tag) (net : Net) (limits : List Limit) (kids : List S) (start : Streams T) (ms : List ℕ) (now : List S) (held : Streams T) (ls : List (Log T)) : Type 0 where
  pub running : Running facts step tag net limits kids start ms now held
  pub logs : ls ≡ logs_of (runs facts step tag net.places limits ms kids running.all)

-- one firing f of a child in the state s, within which it logged the log inside: what it takes, what its step answers, its number and its tag
pub record FiringWith {T S : Type 0} (facts : Facts T S) (step : Stepping T S) (tag : Tag) (n : ℕ) (c : Limit) (m : ℕ) (s : S) (held : Streams T) (s' : S) (left : Streams T) (inside : Log T) (f : Firing T) : Type 0 where
  pub allowed : suc m ≤ within c.firings (suc m)
  pub there : front (facts.need s) (take n held) ≡ Takes f.inputs left
  pub done : rated facts c.rates step tag s f.inputs ≡ Done s' f.outputs inside
  pub number : f.number ≡ facts.made s
  pub at_tag : f.tag ≡ tag

-- Child i makes the firing f, within which it logs the log inside: the numbers of firings, the states and the channels before and after, without what it puts.
abbrev pub FiresWith : {T S : Type 0} → Facts T S → Stepping T S → Tag → ℕ → List ℕ → List Limit → List ℕ → List S → Streams T → List ℕ → List S → Streams T → (inside : Log T) → Firing T → Type 0
FiresWith {T} {S} facts step tag zero (n ∷ ns) (c ∷ cs) (m ∷ ms) (s ∷ ss) held ms' ss' held' inside f =
    (s' : S) × (left : Streams T) × FiringWith facts step tag n c m s held s' left inside f × (ms' ≡ suc m ∷ ms) × (ss' ≡ s' ∷ ss) × (held' ≡ left ++ drop n held)
FiresWith {T} {S} facts step tag (suc i) (n ∷ ns) (c ∷ cs) (m ∷ ms) (s ∷ ss) held ms' ss' held' inside f =
    (ms₁ : List ℕ) × (ss₁ : List S) × (held₁ : Streams T) × FiresWith facts step tag i ns cs ms ss (drop n held) ms₁ ss₁ held₁ inside f × (ms' ≡ m ∷ ms₁) × (ss' ≡ s ∷ ss₁) × (held' ≡ take n held ++ held₁)
FiresWith facts step tag i [] cs ms ss held ms' ss' held' inside f = ⊥
FiresWith facts step tag i (n ∷ ns) [] ms ss held ms' ss' held' inside f = ⊥
FiresWith facts step tag i (n ∷ ns) (c ∷ cs) [] ss held ms' ss' held' inside f = ⊥
FiresWith facts step tag i (n ∷ ns) (c ∷ cs) (m ∷ ms) [] held ms' ss' held' inside f = ⊥

-- Child i is stuck where it is asked to fire, and has logged the log inside within the firing.
abbrev pub SticksWith : {T S : Type 0} → Facts T S → Stepping T S → Tag → ℕ → List ℕ → List Limit → List ℕ → List S → Streams T → (inside : Log T) → Fault → Type 0
SticksWith {T} {S} facts step tag zero (n ∷ ns) (c ∷ cs) (m ∷ ms) (s ∷ ss) held inside f =
    (got left : Streams T) × (fs : List Fault) × (suc m ≤ within c.firings (suc m)) × (front (facts.need s) (take n held) ≡ Takes got left) × (rated facts c.rates step tag s got ≡ Stuck fs inside) × IsIn f fs
SticksWith {T} {S} facts step tag (suc i) (n ∷ ns) (c ∷ cs) (m ∷ ms) (s ∷ ss) held inside f = SticksWith facts step tag i ns cs ms ss (drop n held) inside f
SticksWith facts step tag i [] cs ms ss held inside f = ⊥
SticksWith facts step tag i (n ∷ ns) [] ms ss held inside f = ⊥
SticksWith facts step tag i (n ∷ ns) (c ∷ cs) [] ss held inside f = ⊥
SticksWith facts step tag i (n ∷ ns) (c ∷ cs) (m ∷ ms) [] held inside f = ⊥

-- An engine that fires the children one by one keeps `RunningWith` with the list ls of what each child has logged.
-- It begins with `RunBeginsWith`. Where a child was asked (`Asks`) and its step is done, `AskedFires` gives `FiresWith`, and `RunGoesOnWith` the run with that child's log gone on by what was logged within, and then by the child's own record.
-- Where no child can fire, `RunEndsWith` says the log of the whole firing. Where a child is stuck, `RunSticksWith` says how much of the stuck firing's log is known.
-- Where the engine leaves off in the middle, `RunIsPrefix` and `AskedIsPrefix` say that what it has is the beginning of the firing's log, with all that the child asked last has logged.
abbrev pub RunBeginsWith : Type 0 → Type 0 → Type 0
RunBeginsWith T S = (facts : Facts T S) (step : Stepping T S) (tag : Tag) (net : Net) (limits : List Limit) (kids : List S) (start : Streams T) → length limits ≡ length net.places → length kids ≡ length net.places → Fits net.places start →
    RunningWith facts step tag net limits kids start (zeros net.places) kids start (silents kids)

-- a child that takes what it needs, and whose step is done, fires, with its record
abbrev pub AskedFires : Type 0 → Type 0 → Type 0
AskedFires T S = (facts : Facts T S) (step : Stepping T S) (tag : Tag) (i : ℕ) (ns : List ℕ) (cs : List Limit) (ms : List ℕ) (ss : List S) (held got held' : Streams T) (s' : S) (out : Streams T) (inside : Log T) (d : S) →
    Asks facts i ns cs ms ss held got held' → rated facts (rates_at cs i) step tag (get_or ss i d) got ≡ Done s' out inside →
    FiresWith facts step tag i ns cs ms ss held (set ms i (get_or ms i 0 + 1)) (set ss i s') held' inside (record { number = facts.made (get_or ss i d); tag = tag; inputs = got; outputs = out })

-- each firing has its record and its inner log
abbrev pub FiringsHaveRecords : Type 0 → Type 0 → Type 0
FiringsHaveRecords T S = (facts : Facts T S) (step : Stepping T S) (tag : Tag) (i : ℕ) (ns : List ℕ) (cs : List Limit) (ms : List ℕ) (ss : List S) (held : Streams T) (ms' : List ℕ) (ss' : List S) (held' out : Streams T) →
    Fires facts step tag i ns cs ms ss held ms' ss' held' out → (inside : Log T) × (f : Firing T) × (f.outputs ≡ out) × FiresWith facts step tag i ns cs ms ss held ms' ss' held' inside f

abbrev pub RunGoesOnWith : Type 0 → Type 0 → Type 0
RunGoesOnWith T S = (facts : Facts T S) (step : Stepping T S) (tag : Tag) (net : Net) (limits : List Limit) (kids : List S) (start : Streams T) (ms : List ℕ) (now : List S) (held : Streams T) (ls : List (Log T)) → RunningWith facts step tag net limits kids start ms now held ls →
    (i : ℕ) (ms' : List ℕ) (now' : List S) (held' : Streams T) (inside : Log T) (f : Firing T) → FiresWith facts step tag i net.places limits ms now held ms' now' held' inside f →
    RunningWith facts step tag net limits kids start ms' now' (plus held' (puts i f.outputs net.sources)) (logs_then i (log_then inside (own f)) ls)

abbrev pub RunEndsWith : Type 0 → Type 0 → Type 0
RunEndsWith T S = (facts : Facts T S) (step : Stepping T S) (tag : Tag) (net : Net) (limits : List Limit) (kids : List S) (start : Streams T) (ms : List ℕ) (now : List S) (held : Streams T) (ls : List (Log T)) → RunningWith facts step tag net limits kids start ms now held ls →
    NoneCanFire facts net.places limits ms now held → (enough : List (Flow T S) → Bool) (leaving : Leaving) → ((fs : List (Flow T S)) → MadeAll ms fs → enough fs ≡ true) → (k : ℕ) → total ms < k →
    (left own : Streams T) × (held ≡ left ++ own) × (length left ≡ total net.places) ×
    (kahn facts step tag net limits enough leaving kids start k ≡ Done (record { held = left ++ behind (leaving.gone (lengths own)) own; kids = now }) (firsts (leaving.given (lengths own)) own) (log_below ls))

-- the log of a stuck firing has at least what all children have logged, with what the stuck one has logged within the firing that is stuck
abbrev pub RunSticksWith : Type 0 → Type 0 → Type 0
RunSticksWith T S = (facts : Facts T S) (step : Stepping T S) (tag : Tag) (net : Net) (limits : List Limit) (kids : List S) (start : Streams T) (ms : List ℕ) (now : List S) (held : Streams T) (ls : List (Log T)) → RunningWith facts step tag net limits kids start ms now held ls →
    (i : ℕ) (inside : Log T) (f : Fault) → SticksWith facts step tag i net.places limits ms now held inside f → (enough : List (Flow T S) → Bool) (leaving : Leaving) → (k : ℕ) → total ms < k →
    (gs : List Fault) × (l : Log T) × (kahn facts step tag net limits enough leaving kids start k ≡ Stuck gs l) × IsIn (record { path = i ∷ f.path; firing = f.firing; code = f.code }) gs × LogBelow (log_below (logs_then i inside ls)) l

-- what the children have logged in the middle is the beginning of the log of the whole firing, however that ends
abbrev pub RunIsPrefix : Type 0 → Type 0 → Type 0
RunIsPrefix T S = (facts : Facts T S) (step : Stepping T S) (tag : Tag) (net : Net) (limits : List Limit) (kids : List S) (start : Streams T) (ms : List ℕ) (now : List S) (held : Streams T) (ls : List (Log T)) → RunningWith facts step tag net limits kids start ms now held ls →
    (enough : List (Flow T S) → Bool) (leaving : Leaving) → (k : ℕ) → total ms ≤ k → LogBelow (log_below ls) (log_in (kahn facts step tag net limits enough leaving kids start k))

-- and so it is with what a child logs within the firing that it was asked for
abbrev pub AskedIsPrefix : Type 0 → Type 0 → Type 0
AskedIsPrefix T S = (facts : Facts T S) (step : Stepping T S) (tag : Tag) (net : Net) (limits : List Limit) (kids : List S) (start : Streams T) (ms : List ℕ) (now : List S) (held : Streams T) (ls : List (Log T)) → RunningWith facts step tag net limits kids start ms now held ls →
    (i : ℕ) (got held' : Streams T) (d : S) → Asks facts i net.places limits ms now held got held' → (inside : Log T) → LogBelow inside (log_in (rated facts (rates_at limits i) step tag (get_or now i d) got)) →
    (enough : List (Flow T S) → Bool) (leaving : Leaving) → (k : ℕ) → total ms < k → LogBelow (log_below (logs_then i inside ls)) (log_in (kahn facts step tag net limits enough leaving kids start k))

-- what a child's firing has logged stays its log where its rates are checked, and where its number is put to it
pub record LogsStay (T S : Type 0) : Type 0 where
  pub through_rates : (facts : Facts T S) (rates : Option (List ℕ)) (step : Stepping T S) (tag : Tag) (s : S) (X : Streams T) → log_in (rated facts rates step tag s X) ≡ log_in (step tag s X)
  pub through_numbers : (i : ℕ) (r : Outcome T S) → log_in (with_number i r) ≡ log_in r
  pub through_steps : (steps : ℕ → Stepping T S) (tag : Tag) (c : Child S) (X : Streams T) → log_in (child_step steps tag c X) ≡ log_in (steps c.number tag c.node X)

-- how a trace is read off a log that is put together
pub record TracesAdd (T S : Type 0) : Type 0 where
  pub below : (ls : List (Log T)) (i : ℕ) (p : Path) (port : ℕ) → trace (log_below ls) (i ∷ p) port ≡ trace (log_at ls i) p port
  pub after : (l m : Log T) (p : Path) (port : ℕ) → trace (log_then l m) p port ≡ trace l p port ++ trace m p port
  pub by_own : (f : Firing T) (port : ℕ) → trace (own f) [] port ≡ with_tag f.tag (at f.outputs port)
  pub apart : (f : Firing T) (i : ℕ) (p : Path) (port : ℕ) → trace (own f) (i ∷ p) port ≡ []
  pub marked : (n : ℕ) (l : Log T) (p : Path) (port : ℕ) → trace (within_firing n l) p port ≡ trace l p port
  pub by_record : (n : ℕ) (tag : Tag) (X : Streams T) (s : S) (out : Streams T) (l : Log T) (p : Path) (port : ℕ) → trace (log_in (recorded n tag X (Done s out l))) p port ≡ trace l p port ++ trace (own (record { number = n; tag = tag; inputs = X; outputs = out })) p port
  pub unrecorded : (n : ℕ) (tag : Tag) (X : Streams T) (fs : List Fault) (l : Log T) (p : Path) (port : ℕ) → trace (log_in (recorded {S = S} n tag X (Stuck fs l))) p port ≡ trace l p port

-- and the number of finished firings
pub record CountsAdd (T : Type 0) : Type 0 where
  pub below : (ls : List (Log T)) (i : ℕ) (p : Path) → firings_in (log_below ls (i ∷ p)) ≡ firings_in (log_at ls i p)
  pub after : (l m : Log T) (p : Path) → firings_in (log_then l m p) ≡ firings_in (l p) + firings_in (m p)
  pub by_own : (f : Firing T) → firings_in (own f []) ≡ 1
  pub apart : (f : Firing T) (i : ℕ) (p : Path) → firings_in (own f (i ∷ p)) ≡ 0
  pub marked : (n : ℕ) (l : Log T) (p : Path) → firings_in (within_firing n l p) ≡ firings_in (l p)
