-- A chain of events and calls of a core, and the firing of the composite that it makes. Processes are any.
use Rattle.std.specs.Prelude.{◌≡◌, ◌⊎◌, ℕ, ◌+◌, ◌<◌, ◌≤◌, List, [], ◌∷◌, length, get_or, set, map, Some}
use Rattle.pt_meaning.specs.Tag.{Tag}
use Rattle.pt_meaning.specs.Streams.{Streams, at, get}
use Rattle.pt_meaning.specs.Log.{Log, LogBelow, log_then, log_below, own}
use Rattle.pt_meaning.specs.Machine.{Fault, Outcome, Done, Stuck, Stepping, Facts}
use Rattle.pt_meaning.specs.Net.{Net, Inside, Output}
use Rattle.pt_meaning.specs.Kahn.{logs_of}
use Rattle.pt_meaning.specs.Pn.{pn_limits, pn}
use Rattle.pt_meaning.specs.Process.{Put}
use Rattle.pt_meaning.specs.Running.{total, runs, zeros}
use Rattle.pt_meaning.specs.Places.{Consistent}
use Rattle.pt_meaning.specs.Jam as jam
use Rattle.pt_meaning.specs.Jam.{HoldsAtMost, IsPutting}
use Rattle.pt_meaning.specs.Laws.{IsIn}
use Rattle.pt_laws.specs.LogsOfRuns.{silents, logs_then, log_in}
use Rattle.pt_pn_laws.specs.State.{Network, PnState, MayGet, MayPut, MayFire, MayGrow, IsFull, IsOver, net_of, got_of, capacity_of, greatest_of, start_of, held_of, started, begun, after_get, after_put, after_grow, after_told, own_of, closed, blocked_of, waits}
use Rattle.pt_pn_laws.specs.Lawful.{IsLawful, IsSized, AreCapped, AllGather, HasPlaces, AllCount, IsFor}

-- these puts are all on channels that begin at process i
abbrev pub AllFeed : {T : Type 0} → Net → ℕ → List (Put T) → Type 0
AllFeed net i [] = Unit {0}
AllFeed net i (u ∷ us) = ((port : ℕ) × (get net.sources u.channel ≡ Some (Output i port))) × AllFeed net i us

-- A firing of the composite is under way, which began from the state `before` with these processes: the core is in the state s, the processes have made ms firings, are now in the states now, and have logged ls.
-- The places are consistent; the puts that a process has still to make are the last ones of its last firing; and no channel between two processes is longer than its capacity.
pub record Underway {T S : Type 0} (facts : Facts T S) (step : Stepping T S) (before : PnState T) (kids : List S) (inputs : Streams T) (s : PnState T) (ms : List ℕ) (now : List S) (ls : List (Log T)) : Type 0 where
  pub lawful : IsLawful s.network
  pub network : s.network ≡ before.network
  pub sized : IsSized s
  pub needs : s.needs ≡ map (λ c. facts.need c) now
  pub counts : AllCount s
  pub children : length kids ≡ length (net_of s).places
  pub consistent : Consistent facts step s.tag (net_of s) kids (start_of before inputs) ms now s.halfway
  pub logs : ls ≡ logs_of (runs facts step s.tag (net_of s).places (pn_limits (net_of s).places) ms kids consistent.running.all)
  pub gathers : AllGather s
  pub feeds : (i : ℕ) → AllFeed (net_of s) i (at s.halfway.puts i)
  pub putting : (i : ℕ) → (at s.halfway.puts i ≡ []) ⊎ IsPutting facts step s.tag (net_of s) kids consistent.running.all ms s.halfway i
  pub short : HoldsAtMost (net_of s) (capacity_of s) s.halfway
  pub capped : AreCapped s

-- the composite's firing, at fuel k
abbrev pub firing_from : {T S : Type 0} → Facts T S → Stepping T S → PnState T → List S → Tag → Streams T → ℕ → Outcome T (Inside (Streams T) S)
firing_from facts step before kids tag inputs k = pn facts step before.network.plan k tag (record { held = held_of before; kids = kids }) inputs

-- it is stuck at a place of child i, and has logged at least this
abbrev pub IsStuckAt : {T S : Type 0} → Outcome T (Inside (Streams T) S) → ℕ → Fault → Log T → Type 0
IsStuckAt {T} r i f l = (gs : List Fault) × (m : Log T) × (r ≡ Stuck gs m) × IsIn (record { path = i ∷ f.path; firing = f.firing; code = f.code }) gs × LogBelow l m

-- What a chain of events and calls makes of a firing: a core at its start fits its processes; `begin` begins the firing; gets, puts and growths go on with it, and leave less to wait for; where `ask` asks for a process and its step is done, `told` goes on with it, whose need is for a count at each of its places.
-- Where it is over the firing is done, with the state and the outputs that `finish` gives, and the core fits the processes again; where the process that was asked for is stuck, so is the firing, at its place.
-- Where it is full, the network is in a jam, and its full channels are those that the core tells. In the middle the processes have logged a beginning of the firing's log.
pub record CallsArePn (T S : Type 0) : Type 0 where
  pub starts : (facts : Facts T S) (n : Network T) (kids : List S) → IsLawful n → n.starts ≡ map (λ c. facts.need c) kids → AllCount (started n) → IsFor facts (started n) kids
  pub begins : (facts : Facts T S) (step : Stepping T S) (before : PnState T) (kids : List S) (tag : Tag) (inputs : Streams T) → IsFor facts before kids → Underway facts step before kids inputs (begun tag inputs before) (zeros (net_of before).places) kids (silents kids)
  pub gets : (facts : Facts T S) (step : Stepping T S) (before : PnState T) (kids : List S) (inputs : Streams T) (s : PnState T) (ms : List ℕ) (now : List S) (ls : List (Log T)) → Underway facts step before kids inputs s ms now ls →
      (i : ℕ) → MayGet s i → Underway facts step before kids inputs (after_get i s) ms now ls × (waits (after_get i s) < waits s)
  pub puts : (facts : Facts T S) (step : Stepping T S) (before : PnState T) (kids : List S) (inputs : Streams T) (s : PnState T) (ms : List ℕ) (now : List S) (ls : List (Log T)) → Underway facts step before kids inputs s ms now ls →
      (i : ℕ) → MayPut s i → Underway facts step before kids inputs (after_put i s) ms now ls × (waits (after_put i s) < waits s)
  pub grows : (facts : Facts T S) (step : Stepping T S) (before : PnState T) (kids : List S) (inputs : Streams T) (s : PnState T) (ms : List ℕ) (now : List S) (ls : List (Log T)) → Underway facts step before kids inputs s ms now ls →
      MayGrow s → Underway facts step before kids inputs (after_grow s) ms now ls × (waits (after_grow s) < waits s)
  pub goes_on : (facts : Facts T S) (step : Stepping T S) (before : PnState T) (kids : List S) (inputs : Streams T) (s : PnState T) (ms : List ℕ) (now : List S) (ls : List (Log T)) → Underway facts step before kids inputs s ms now ls →
      (i : ℕ) → MayFire s i → (d c : S) (out : Streams T) (l : Log T) → step s.tag (get_or now i d) (got_of s i) ≡ Done c out l → HasPlaces (get_or (net_of s).places i 0) (facts.need c) →
      Underway facts step before kids inputs (after_told i out (facts.need c) s) (set ms i (get_or ms i 0 + 1)) (set now i c) (logs_then i (log_then l (own (record { number = facts.made (get_or now i d); tag = s.tag; inputs = got_of s i; outputs = out }))) ls)
  pub ends : (facts : Facts T S) (step : Stepping T S) (before : PnState T) (kids : List S) (inputs : Streams T) (s : PnState T) (ms : List ℕ) (now : List S) (ls : List (Log T)) → Underway facts step before kids inputs s ms now ls →
      IsOver s → (k : ℕ) → total ms < k → firing_from facts step before kids s.tag inputs k ≡ Done (record { held = held_of (closed s); kids = now }) (own_of s) (log_below ls)
  pub rests : (facts : Facts T S) (step : Stepping T S) (before : PnState T) (kids : List S) (inputs : Streams T) (s : PnState T) (ms : List ℕ) (now : List S) (ls : List (Log T)) → Underway facts step before kids inputs s ms now ls → IsOver s → IsFor facts (closed s) now
  pub sticks : (facts : Facts T S) (step : Stepping T S) (before : PnState T) (kids : List S) (inputs : Streams T) (s : PnState T) (ms : List ℕ) (now : List S) (ls : List (Log T)) → Underway facts step before kids inputs s ms now ls →
      (i : ℕ) → MayFire s i → (d : S) (fs : List Fault) (l : Log T) → step s.tag (get_or now i d) (got_of s i) ≡ Stuck fs l → (f : Fault) → IsIn f fs → (k : ℕ) → total ms < k →
      IsStuckAt (firing_from facts step before kids s.tag inputs k) i f (log_below (logs_then i l ls))
  pub jams : (facts : Facts T S) (step : Stepping T S) (before : PnState T) (kids : List S) (inputs : Streams T) (s : PnState T) (ms : List ℕ) (now : List S) (ls : List (Log T)) → Underway facts step before kids inputs s ms now ls →
      IsFull s → (full : jam.IsFull facts step s.tag (net_of s) kids (start_of before inputs) (greatest_of s) (blocked_of s)) × (full.made ≡ ms) × (full.now ≡ now)
  pub off : (facts : Facts T S) (step : Stepping T S) (before : PnState T) (kids : List S) (inputs : Streams T) (s : PnState T) (ms : List ℕ) (now : List S) (ls : List (Log T)) → Underway facts step before kids inputs s ms now ls →
      (k : ℕ) → total ms ≤ k → LogBelow (log_below ls) (log_in (firing_from facts step before kids s.tag inputs k))
  -- and so they have with a beginning of what the process that was asked for logs in its step
  pub off_within : (facts : Facts T S) (step : Stepping T S) (before : PnState T) (kids : List S) (inputs : Streams T) (s : PnState T) (ms : List ℕ) (now : List S) (ls : List (Log T)) → Underway facts step before kids inputs s ms now ls →
      (i : ℕ) → MayFire s i → (d : S) (m : Log T) → LogBelow m (log_in (step s.tag (get_or now i d) (got_of s i))) → (k : ℕ) → total ms < k → LogBelow (log_below (logs_then i m ls)) (log_in (firing_from facts step before kids s.tag inputs k))
