-- A chain of calls of a core, and the firing of the composite that it makes. Processes are any.
use Rattle.std.specs.Prelude.{◌≡◌, ℕ, suc, ◌<◌, ◌≤◌, List, [], ◌∷◌, ◌++◌, Bool, true, length, get_or, set, map, Some}
use Rattle.pt_meaning.specs.Tag.{Tag}
use Rattle.pt_meaning.specs.Streams.{Streams, get}
use Rattle.pt_meaning.specs.Log.{Log, LogBelow, Event, Met, Meeting, log_then, log_below, own}
use Rattle.pt_meaning.specs.Machine.{Fault, Outcome, Done, Stuck, Stepping, Facts}
use Rattle.pt_meaning.specs.Net.{Net, Inside}
use Rattle.pt_meaning.specs.Process.{Party, Put, Well, next_event, emptied}
use Rattle.pt_meaning.specs.Process as process
use Rattle.pt_meaning.specs.Meetings.{Scene, is_legal, meet}
use Rattle.pt_meaning.specs.Rendezvous.{Places, with_meetings, outlets, opening, rv}
use Rattle.pt_meaning.specs.AnyOrder.{fires_in}
use Rattle.pt_meaning.specs.Asked.{AsksInScene}
use Rattle.pt_meaning.specs.Laws.{IsIn}
use Rattle.pt_laws.specs.LogsOfRuns.{silents, logs_then, log_in}
use Rattle.pt_laws.specs.SoundRuns.{count_at}
use Rattle.pt_rv_laws.specs.State.{Processes, RvState, need_facts, net_of, got_of, scene_in, IsLegal, MayFire, AllRest, IsOver, started, begun, after_meet, after_told, closed, waits}
use Rattle.pt_rv_laws.specs.Lawful.{IsLawful, IsSized, HasPlaces, AllCount, IsFor}

-- From a scene a composite comes to another by so many firings of its processes, which are done, and by these meetings, each of them legal when it is made, in any order of firings and meetings.
pub data Course {T S : Type 0} (facts : Facts T S) (step : Stepping T S) (tag : Tag) (net : Net) (n : ℕ) (start : Scene T S) : (count : ℕ) → List Meeting → Scene T S → Type 0 where
  Begins : Course facts step tag net n start 0 [] start
  Fires : (count : ℕ) (ms : List Meeting) (sc : Scene T S) (i : ℕ) (p : Party T S) (s : S) (out : Streams T) (l : Log T) → Course facts step tag net n start count ms sc → get sc.parties i ≡ Some p → next_event facts p ≡ process.Fires → step tag p.state p.got ≡ Done s out l → Course facts step tag net n start (suc count) ms (fires_in facts step tag net n i sc)
  Meets : (count : ℕ) (ms : List Meeting) (sc : Scene T S) (m : Meeting) → Course facts step tag net n start count ms sc → is_legal facts net sc m ≡ true → Course facts step tag net n start count (ms ++ (m ∷ [])) (meet net n m sc)

-- the processes at these places, in these states and with what they have logged
abbrev pub standing : {T S : Type 0} → List Bool → List (Streams T) → List (List (Put T)) → List S → List (Log T) → List (Party T S)
standing (b ∷ bs) (g ∷ gs) (us ∷ puts) (s ∷ ss) (l ∷ ls) = record { barrier = b; state = s; got = g; puts = us; mood = Well; log = l } ∷ standing bs gs puts ss ls
standing [] gs puts ss ls = []
standing (b ∷ bs) [] puts ss ls = []
standing (b ∷ bs) (g ∷ gs) [] ss ls = []
standing (b ∷ bs) (g ∷ gs) (us ∷ puts) [] ls = []
standing (b ∷ bs) (g ∷ gs) (us ∷ puts) (s ∷ ss) [] = []

-- these meetings as they were made in firing n of a composite
abbrev pub met_events : {T : Type 0} → ℕ → List Meeting → List (Event T)
met_events n ms = map (λ m. Met [] n m) ms

-- the scene of the composite's firing of number n, by a state of its core and its processes, in these states and with what they have logged
abbrev pub scene_of : {T S : Type 0} → ℕ → RvState T → List S → List (Log T) → Scene T S
scene_of n s now ls = record { parties = standing s.processes.plan.barriers s.places.got s.places.puts now ls; inputs = s.places.inputs; outputs = s.outputs; met = met_events n s.met }

-- the scene from which a firing of the composite begins
abbrev pub opened : {T S : Type 0} → RvState T → List S → Streams T → Scene T S
opened before kids inputs = opening before.processes.plan before.places kids inputs

-- A firing of the composite is under way, which began from the state `before` with these processes: the core is in the state s, the processes have made so many firings, are now in the states now, and have logged ls. Whatever number the firing has, its scene is that of the core.
pub record Underway {T S : Type 0} (facts : Facts T S) (step : Stepping T S) (before : RvState T) (kids : List S) (inputs : Streams T) (s : RvState T) (count : ℕ) (now : List S) (ls : List (Log T)) : Type 0 where
  pub lawful : IsLawful s.processes
  pub processes : s.processes ≡ before.processes
  pub sized : IsSized s
  pub needs : s.needs ≡ map (λ c. facts.need c) now
  pub counts : AllCount s
  pub outputs : emptied s.outputs ≡ outlets (net_of s).places (net_of s).sources
  pub children : length kids ≡ length (net_of s).places
  pub logged : length ls ≡ length (net_of s).places
  pub first_sized : IsSized before
  pub course : (n : ℕ) → Course facts step s.tag (net_of s) n (opened before kids inputs) count s.met (scene_of n s now ls)

-- the composite's firing of number n, at fuel k, under these meetings
abbrev pub firing_from : {T S : Type 0} → Facts T S → Stepping T S → RvState T → List S → Tag → Streams T → (n k : ℕ) → List Meeting → Outcome T (Inside (Places T) S)
firing_from facts step before kids tag inputs n k ms = rv facts step before.processes.plan k n ms tag before.places kids inputs

-- what is logged of it: the meetings, and what the processes have logged
abbrev pub logged_of : {T : Type 0} → ℕ → RvState T → List (Log T) → Log T
logged_of n s ls = with_meetings (met_events n s.met) (log_below ls)

-- it is stuck at a place of child i, and has logged at least this
abbrev pub IsStuckAt : {T S : Type 0} → Outcome T (Inside (Places T) S) → ℕ → Fault → Log T → Type 0
IsStuckAt {T} r i f l = (gs : List Fault) × (m : Log T) × (r ≡ Stuck gs m) × IsIn (record { path = i ∷ f.path; firing = f.firing; code = f.code }) gs × LogBelow l m

-- What a chain of calls makes of a firing: a core at its start fits its processes; `begin` begins the firing; a meeting goes on with it, and leaves less to wait for; where `ask` asks for a process and its step is done, `told` goes on with it, whose need is for a count at each of its places or for any token.
-- Where it is over, and only there, the firing is done under the meetings that were made, with the places of the core and the outputs that `finish` gives, and the core fits the processes again; where the process that was asked for is stuck, so is the firing, at its place. In the middle the processes have logged a beginning of the firing's log, however the meetings go on.
pub record CallsAreRv (T S : Type 0) : Type 0 where
  pub starts : (facts : Facts T S) (p : Processes) (kids : List S) → IsLawful p → p.starts ≡ map (λ c. facts.need c) kids → AllCount {T = T} (started p) → IsFor facts (started p) kids
  pub begins : (facts : Facts T S) (step : Stepping T S) (before : RvState T) (kids : List S) (tag : Tag) (inputs : Streams T) → IsFor facts before kids → Underway facts step before kids inputs (begun tag inputs before) 0 kids (silents kids)
  -- the meetings that are legal for the core are those of the definitions
  pub legal : (facts : Facts T S) (step : Stepping T S) (before : RvState T) (kids : List S) (inputs : Streams T) (s : RvState T) (count : ℕ) (now : List S) (ls : List (Log T)) → Underway facts step before kids inputs s count now ls →
      (n : ℕ) (m : Meeting) → is_legal facts (net_of s) (scene_of n s now ls) m ≡ is_legal need_facts (net_of s) (scene_in s) m
  pub meets : (facts : Facts T S) (step : Stepping T S) (before : RvState T) (kids : List S) (inputs : Streams T) (s : RvState T) (count : ℕ) (now : List S) (ls : List (Log T)) → Underway facts step before kids inputs s count now ls →
      (m : Meeting) → IsLegal s m → Underway facts step before kids inputs (after_meet m s) count now ls × (waits (after_meet m s) < waits s)
  pub goes_on : (facts : Facts T S) (step : Stepping T S) (before : RvState T) (kids : List S) (inputs : Streams T) (s : RvState T) (count : ℕ) (now : List S) (ls : List (Log T)) → Underway facts step before kids inputs s count now ls →
      (i : ℕ) → MayFire s i → (d c : S) (out : Streams T) (l : Log T) → step s.tag (get_or now i d) (got_of s i) ≡ Done c out l → HasPlaces (count_at (net_of s).places i) (facts.need c) →
      Underway facts step before kids inputs (after_told i out (facts.need c) s) (suc count) (set now i c) (logs_then i (log_then l (own (record { number = facts.made (get_or now i d); tag = s.tag; inputs = got_of s i; outputs = out }))) ls)
  -- the definitions ask for it too
  pub asks : (facts : Facts T S) (step : Stepping T S) (before : RvState T) (kids : List S) (inputs : Streams T) (s : RvState T) (count : ℕ) (now : List S) (ls : List (Log T)) → Underway facts step before kids inputs s count now ls →
      (i : ℕ) → MayFire s i → (d : S) (n : ℕ) (more : List Meeting) → AsksInScene facts step s.tag (net_of s) n (s.met ++ more) (opened before kids inputs) i (get_or now i d) (got_of s i)
  pub ends : (facts : Facts T S) (step : Stepping T S) (before : RvState T) (kids : List S) (inputs : Streams T) (s : RvState T) (count : ℕ) (now : List S) (ls : List (Log T)) → Underway facts step before kids inputs s count now ls →
      IsOver s → (n k : ℕ) → count ≤ k → firing_from facts step before kids s.tag inputs n k s.met ≡ Done (record { held = s.places; kids = now }) s.outputs (logged_of n s ls)
  -- and only there: where no process can fire and the definition's firing under these meetings is done, the core is over
  pub done : (facts : Facts T S) (step : Stepping T S) (before : RvState T) (kids : List S) (inputs : Streams T) (s : RvState T) (count : ℕ) (now : List S) (ls : List (Log T)) → Underway facts step before kids inputs s count now ls →
      AllRest s → (n k : ℕ) → count ≤ k → (x : Inside (Places T) S) (out : Streams T) (l : Log T) → firing_from facts step before kids s.tag inputs n k s.met ≡ Done x out l → IsOver s
  pub rests : (facts : Facts T S) (step : Stepping T S) (before : RvState T) (kids : List S) (inputs : Streams T) (s : RvState T) (count : ℕ) (now : List S) (ls : List (Log T)) → Underway facts step before kids inputs s count now ls → IsOver s → IsFor facts (closed s) now
  pub sticks : (facts : Facts T S) (step : Stepping T S) (before : RvState T) (kids : List S) (inputs : Streams T) (s : RvState T) (count : ℕ) (now : List S) (ls : List (Log T)) → Underway facts step before kids inputs s count now ls →
      (i : ℕ) → MayFire s i → (d : S) (fs : List Fault) (l : Log T) → step s.tag (get_or now i d) (got_of s i) ≡ Stuck fs l → (f : Fault) → IsIn f fs → (n k : ℕ) → count < k →
      IsStuckAt (firing_from facts step before kids s.tag inputs n k s.met) i f (logged_of n s (logs_then i l ls))
  pub off : (facts : Facts T S) (step : Stepping T S) (before : RvState T) (kids : List S) (inputs : Streams T) (s : RvState T) (count : ℕ) (now : List S) (ls : List (Log T)) → Underway facts step before kids inputs s count now ls →
      (n k : ℕ) (more : List Meeting) → count ≤ k → LogBelow (logged_of n s ls) (log_in (firing_from facts step before kids s.tag inputs n k (s.met ++ more)))
  -- and so they have with a beginning of what the process that was asked for logs in its step
  pub off_within : (facts : Facts T S) (step : Stepping T S) (before : RvState T) (kids : List S) (inputs : Streams T) (s : RvState T) (count : ℕ) (now : List S) (ls : List (Log T)) → Underway facts step before kids inputs s count now ls →
      (i : ℕ) → MayFire s i → (d : S) (m : Log T) → LogBelow m (log_in (step s.tag (get_or now i d) (got_of s i))) → (n k : ℕ) (more : List Meeting) → count < k → LogBelow (logged_of n s (logs_then i m ls)) (log_in (firing_from facts step before kids s.tag inputs n k (s.met ++ more)))
