-- A chain of calls of a core, and the firing of the composite that it makes. Children are any whose needs are those of the plan.
use Rattle.std.specs.Prelude.{◌≡◌, ℕ, ◌<◌, ◌≤◌, List, [], ◌∷◌, true, false, length, get_or, set}
use Rattle.pt_meaning.specs.Tag.{Tag}
use Rattle.pt_meaning.specs.Streams.{Streams}
use Rattle.pt_meaning.specs.Log.{Log, LogBelow, log_then, log_below, own}
use Rattle.pt_meaning.specs.Machine.{rate_code, Fault, Outcome, Done, Stuck, Stepping, Facts}
use Rattle.pt_meaning.specs.Net.{Inside}
use Rattle.pt_meaning.specs.Rounds.{has_rates}
use Rattle.pt_meaning.specs.Kahn.{arrived, firsts}
use Rattle.pt_meaning.specs.Sdf.{iterations, sdf_limits, sdf}
use Rattle.pt_meaning.specs.Running.{total}
use Rattle.pt_laws.specs.LogsOfRuns.{RunningWith, silents, logs_then}
use Rattle.pt_meaning.specs.Laws.{IsIn}
use Rattle.pt_sdf_parts.specs.ByNeed.{needs_of, planned}
use Rattle.pt_sdf.specs.State.{SdfState, Allows, IsEnough, lent_of, asked, begun, after_told, closed, own_of, owed}

-- a core fits its children: its lists have an entry for each, each place has a channel, and each child needs what the plan says
pub record IsFor {T S : Type 0} (facts : Facts T S) (s : SdfState T) (kids : List S) : Type 0 where
  pub repetitions : length s.plan.repetitions ≡ length s.plan.net.places
  pub rates : length s.plan.rates ≡ length s.plan.net.places
  pub channels : total s.plan.net.places ≤ length s.held
  pub needs : needs_of facts kids ≡ planned s.plan.net.places s.needs

-- A firing of the composite is under way, which began from the state `before` with these children: the core is in the state s, the children are now in the states now, and have logged ls.
pub record Underway {T S : Type 0} (facts : Facts T S) (step : Stepping T S) (before : SdfState T) (kids : List S) (inputs : Streams T) (s : SdfState T) (now : List S) (ls : List (Log T)) : Type 0 where
  pub fitting : IsFor facts s now
  pub plan : s.plan ≡ before.plan
  pub turns : s.turns ≡ iterations s.plan (arrived s.plan.net.sources inputs before.held)
  pub running : RunningWith facts step s.tag s.plan.net (sdf_limits s.turns s.plan.repetitions s.plan.rates) kids (arrived s.plan.net.sources inputs before.held) s.fired now s.held ls

-- the firing of the composite, at fuel k
abbrev pub firing_from : {T S : Type 0} → Facts T S → Stepping T S → SdfState T → List S → Tag → Streams T → ℕ → Outcome T (Inside (Streams T) S)
firing_from facts step before kids tag inputs k = sdf facts step before.plan k tag (record { held = before.held; kids = kids }) inputs

-- it is stuck at a place of child i, and has logged at least this
abbrev pub IsStuckAt : {T S : Type 0} → Outcome T (Inside (Streams T) S) → ℕ → Fault → Log T → Type 0
IsStuckAt {T} r i f l = (gs : List Fault) × (m : Log T) × (r ≡ Stuck gs m) × IsIn (record { path = i ∷ f.path; firing = f.firing; code = f.code }) gs × LogBelow l m

-- What a chain of calls makes of a firing: `begin` begins it; where `ask` asks for a child and its step is done, `told` goes on with it;
-- where `ask` finds it finished, the firing is done, with the state and the outputs that `finish` gives; where the child asked for is stuck, or gives another number of tokens than its rates, the firing is stuck there.
pub record CallsAreSdf (T S : Type 0) : Type 0 where
  pub begins : (facts : Facts T S) (step : Stepping T S) (before : SdfState T) (kids : List S) (tag : Tag) (inputs : Streams T) → IsFor facts before kids →
      Underway facts step before kids inputs (begun tag inputs before) kids (silents kids)
  pub goes_on : (facts : Facts T S) (step : Stepping T S) (before : SdfState T) (kids : List S) (inputs : Streams T) (s : SdfState T) (now : List S) (ls : List (Log T)) → Underway facts step before kids inputs s now ls →
      (i : ℕ) → Allows s i → (d c : S) (out : Streams T) (l : Log T) → step s.tag (get_or now i d) (lent_of s i) ≡ Done c out l → has_rates (get_or s.plan.rates i []) out ≡ true → facts.need c ≡ facts.need (get_or now i d) →
      Underway facts step before kids inputs (after_told i out (asked i s)) (set now i c) (logs_then i (log_then l (own (record { number = facts.made (get_or now i d); tag = s.tag; inputs = lent_of s i; outputs = out }))) ls)
  pub ends : (facts : Facts T S) (step : Stepping T S) (before : SdfState T) (kids : List S) (inputs : Streams T) (s : SdfState T) (now : List S) (ls : List (Log T)) → Underway facts step before kids inputs s now ls →
      IsEnough s → (k : ℕ) → total s.fired < k → firing_from facts step before kids s.tag inputs k ≡ Done (record { held = (closed s).held; kids = now }) (firsts (owed s) (own_of s)) (log_below ls)
  pub sticks : (facts : Facts T S) (step : Stepping T S) (before : SdfState T) (kids : List S) (inputs : Streams T) (s : SdfState T) (now : List S) (ls : List (Log T)) → Underway facts step before kids inputs s now ls →
      (i : ℕ) → Allows s i → (d : S) (fs : List Fault) (l : Log T) → step s.tag (get_or now i d) (lent_of s i) ≡ Stuck fs l → (f : Fault) → IsIn f fs → (k : ℕ) → total s.fired < k →
      IsStuckAt (firing_from facts step before kids s.tag inputs k) i f (log_below (logs_then i l ls))
  pub wrong_rates : (facts : Facts T S) (step : Stepping T S) (before : SdfState T) (kids : List S) (inputs : Streams T) (s : SdfState T) (now : List S) (ls : List (Log T)) → Underway facts step before kids inputs s now ls →
      (i : ℕ) → Allows s i → (d c : S) (out : Streams T) (l : Log T) → step s.tag (get_or now i d) (lent_of s i) ≡ Done c out l → has_rates (get_or s.plan.rates i []) out ≡ false → (k : ℕ) → total s.fired < k →
      IsStuckAt (firing_from facts step before kids s.tag inputs k) i (record { path = []; firing = facts.made (get_or now i d); code = rate_code }) (log_below (logs_then i l ls))
