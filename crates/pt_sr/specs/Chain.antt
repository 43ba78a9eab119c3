-- A chain of calls of a core, and the firing of the composite that it makes. Children are any, of which those that the plan calls strict give no early answers.
use Rattle.std.specs.Prelude.{◌≡◌, ◌⊎◌, ℕ, ◌<◌, ◌≤◌, List, [], ◌∷◌, true, false, length, get_or, set, Some, None}
use Rattle.pt_meaning.specs.Tag.{Tag}
use Rattle.pt_meaning.specs.Streams.{Streams, at, get}
use Rattle.pt_meaning.specs.Log.{Log, LogBelow, silent, log_then, log_below, own}
use Rattle.pt_meaning.specs.Machine.{second_token_code, causality_code, Fault, Outcome, Done, Stuck, Stepping, Facts, Partial, Unknown, Known, partial_at}
use Rattle.pt_meaning.specs.Net.{Inside, Own, Output}
use Rattle.pt_meaning.specs.Tree.{Sr}
use Rattle.pt_meaning.specs.Valuation.{known, is_known}
use Rattle.pt_meaning.specs.Sr.{sr_active, sr_turn, all_single, sr}
use Rattle.pt_laws.specs.LogsOfRuns.{silents, logs_then, log_at, log_in}
use Rattle.pt_laws.specs.TickRuns.{TickRun, FiredAt, IsWide}
use Rattle.pt_laws.specs.Explained.{Turned, MaySay}
use Rattle.pt_meaning.specs.Laws.{IsIn, KeepsEarly}
use Rattle.pt_sr.specs.State.{SrState, TickState, MayFire, MayAnswer, HasNothing, HasTold, inputs_of, unknown_in, lent_of, own_of, begun, asked, listening, after_told, after_heard, waits}

-- while an input is unknown nothing is known of what the child gives
abbrev pub IsStrict : {T S : Type 0} → Facts T S → S → Type 0
IsStrict {T} facts d = (tag : Tag) (vs : List (Partial T)) → known vs ≡ None → (port : ℕ) → partial_at (facts.early tag d vs) port ≡ Unknown

-- a core fits its children: it has as many, and those that give early answers are told apart
pub record IsFor {T S : Type 0} (facts : Facts T S) (s : SrState T) (kids : List S) : Type 0 where
  pub children : length kids ≡ length s.tick.plan.net.places
  pub strict : (i : ℕ) (d : S) → i < length kids → get_or s.tick.nonstrict i false ≡ false → IsStrict facts (get_or kids i d)

-- each child has fired
abbrev pub AllFired : {T : Type 0} → TickState T → Type 0
AllFired s = (i : ℕ) → i < length s.plan.net.places → get_or s.fired i false ≡ true

-- nothing more can be learnt of any child
abbrev pub NothingComes : {T : Type 0} → TickState T → Type 0
NothingComes s = (i : ℕ) → i < length s.plan.net.places → (get_or s.fired i false ≡ true) ⊎ HasNothing s i

-- A child that began as c has made its one firing, on what is known of its inputs: it has come to z, and has logged l. The firing is told with what was logged within it.
pub record HasTurn {T S : Type 0} (facts : Facts T S) (step : Stepping T S) (tag : Tag) (c : S) (vs : List (Partial T)) (z : S) (l : Log T) (ts : List (Turned T)) : Type 0 where
  pub inputs : Streams T
  pub outputs : Streams T
  pub inside : Log T
  pub on : known vs ≡ Some inputs
  pub done : step tag c inputs ≡ Done z outputs inside
  pub turn : ts ≡ record { record_of = record { number = facts.made c; tag = tag; inputs = inputs; outputs = outputs }; inside = inside } ∷ []
  pub logged : l ≡ log_then inside (own (record { number = facts.made c; tag = tag; inputs = inputs; outputs = outputs }))

-- A firing of the composite is under way, which began from the state `before` with these children: the core is in the state s, the children are now in the states now, and have logged ls.
-- What is known comes of the reactions of the children, a child that has fired has told all, and one that was asked for an early answer has told what that answer tells. A child past the last is d.
-- Each child has made one firing or none, and what is known of a place was given by its source in such a firing, or early.
pub record Underway {T S : Type 0} (facts : Facts T S) (step : Stepping T S) (before : SrState T) (kids : List S) (inputs : Streams T) (d : S) (s : SrState T) (now : List S) (ls : List (Log T)) : Type 0 where
  pub keeps : KeepsEarly facts.early sr_active (sr_turn facts step)
  pub fitting : IsFor facts s kids
  pub plan : s.tick.plan ≡ before.tick.plan
  pub wide : IsWide s.tick.plan.net kids now ls
  pub channels : length s.tick.known ≡ length s.tick.plan.net.sources
  pub flags : length s.tick.fired ≡ length s.tick.plan.net.places
  pub numbers : length s.tick.heard ≡ length s.tick.plan.net.places
  pub run : TickRun facts.early sr_active (sr_turn facts step) s.tag s.tick.plan.net kids inputs s.tick.known
  pub arrived : (c port : ℕ) → get s.tick.plan.net.sources c ≡ Some (Own port) → partial_at s.tick.known c ≡ Known (at inputs port)
  pub outs : List (Streams T)
  pub gave : length outs ≡ length s.tick.plan.net.places
  pub fired : (i : ℕ) → i < length s.tick.plan.net.places → get_or s.tick.fired i false ≡ true →
      FiredAt facts.early sr_active (sr_turn facts step) s.tag s.tick.plan.net kids inputs d s.tick.known now outs ls i × HasTold s.tick i
  pub rests : (i : ℕ) → i < length s.tick.plan.net.places → get_or s.tick.fired i false ≡ false → (get_or now i d ≡ get_or kids i d) × (log_at ls i ≡ silent)
  pub falls : (i : ℕ) → i < length s.tick.plan.net.places → unknown_in (inputs_of s.tick i) ≤ get_or s.tick.heard i 0
  pub heard : (i : ℕ) → i < length s.tick.plan.net.places → get_or s.tick.heard i 0 ≤ unknown_in (inputs_of s.tick i) → (c port : ℕ) → get s.tick.plan.net.sources c ≡ Some (Output i port) →
      (is_known (partial_at s.tick.known c) ≡ true) ⊎ (partial_at (facts.early s.tag (get_or kids i d) (inputs_of s.tick i)) port ≡ Unknown)
  pub turns : ℕ → List (Turned T)
  pub turned : (i : ℕ) → i < length s.tick.plan.net.places → get_or s.tick.fired i false ≡ true → HasTurn facts step s.tag (get_or kids i d) (inputs_of s.tick i) (get_or now i d) (log_at ls i) (turns i)
  pub unturned : (i : ℕ) → get_or s.tick.fired i false ≡ false → turns i ≡ []
  pub says : (i q : ℕ) → MaySay facts (Sr s.tick.plan) kids inputs turns s.tag i q (partial_at (inputs_of s.tick i) q)

-- the composite's firing of number n, at fuel k
abbrev pub firing_from : {T S : Type 0} → Facts T S → Stepping T S → SrState T → List S → ℕ → Tag → Streams T → ℕ → Outcome T (Inside (Streams T) S)
firing_from facts step before kids n tag inputs k = sr facts step before.tick.plan k n tag kids inputs

-- it is stuck at a place of child i, and has logged at least this
abbrev pub IsStuckAt : {T S : Type 0} → Outcome T (Inside (Streams T) S) → ℕ → Fault → Log T → Type 0
IsStuckAt {T} r i f l = (gs : List Fault) × (m : Log T) × (r ≡ Stuck gs m) × IsIn (record { path = i ∷ f.path; firing = f.firing; code = f.code }) gs × LogBelow l m

-- What a chain of calls makes of a firing: `begin` begins it; where `ask` asks for a child and its step is done with at most one token on each port, `told` goes on with it; where `ask` asks for an early answer, `hears` does.
-- Where `ask` finds it finished, the firing is done, with the states of the children and the outputs that `finish` gives, at each fuel from the number of channels on.
-- Where nothing more can be learnt, it is stuck with the code of causality; where the child asked for is stuck, or gives two tokens on one port, the firing is stuck there. In the middle the children have logged a beginning of its log.
pub record CallsAreSr (T S : Type 0) : Type 0 where
  pub begins : (facts : Facts T S) (step : Stepping T S) (before : SrState T) (kids : List S) (tag : Tag) (inputs : Streams T) (d : S) → KeepsEarly facts.early sr_active (sr_turn facts step) → IsFor facts before kids →
      Underway facts step before kids inputs d (begun tag inputs before) kids (silents kids)
  pub goes_on : (facts : Facts T S) (step : Stepping T S) (before : SrState T) (kids : List S) (inputs : Streams T) (d : S) (s : SrState T) (now : List S) (ls : List (Log T)) → Underway facts step before kids inputs d s now ls →
      (i : ℕ) → MayFire s.tick i → (c : S) (out : Streams T) (l : Log T) → step s.tag (get_or now i d) (lent_of s i) ≡ Done c out l → all_single out ≡ true →
      Underway facts step before kids inputs d (after_told i out (asked i s)) (set now i c) (logs_then i (log_then l (own (record { number = facts.made (get_or now i d); tag = s.tag; inputs = lent_of s i; outputs = out }))) ls)
  pub hears : (facts : Facts T S) (step : Stepping T S) (before : SrState T) (kids : List S) (inputs : Streams T) (d : S) (s : SrState T) (now : List S) (ls : List (Log T)) → Underway facts step before kids inputs d s now ls →
      (i : ℕ) → MayAnswer s.tick i → Underway facts step before kids inputs d (after_heard i (facts.early s.tag (get_or now i d) (inputs_of s.tick i)) (listening i s)) now ls
  pub learns : (facts : Facts T S) (step : Stepping T S) (before : SrState T) (kids : List S) (inputs : Streams T) (d : S) (s : SrState T) (now : List S) (ls : List (Log T)) → Underway facts step before kids inputs d s now ls →
      (i : ℕ) → MayAnswer s.tick i → (early : List (Partial T)) → waits (after_heard i early (listening i s)) < waits s
  pub ends : (facts : Facts T S) (step : Stepping T S) (before : SrState T) (kids : List S) (inputs : Streams T) (d : S) (s : SrState T) (now : List S) (ls : List (Log T)) → Underway facts step before kids inputs d s now ls →
      AllFired s.tick → (n k : ℕ) → length s.tick.plan.net.sources ≤ k → firing_from facts step before kids n s.tag inputs k ≡ Done (record { held = []; kids = now }) (own_of s) (log_below ls)
  pub lacks : (facts : Facts T S) (step : Stepping T S) (before : SrState T) (kids : List S) (inputs : Streams T) (d : S) (s : SrState T) (now : List S) (ls : List (Log T)) → Underway facts step before kids inputs d s now ls →
      NothingComes s.tick → (w : ℕ) → w < length s.tick.plan.net.places → get_or s.tick.fired w false ≡ false → (n k : ℕ) → length s.tick.plan.net.sources ≤ k →
      firing_from facts step before kids n s.tag inputs k ≡ Stuck (record { path = []; firing = n; code = causality_code } ∷ []) (log_below ls)
  pub sticks : (facts : Facts T S) (step : Stepping T S) (before : SrState T) (kids : List S) (inputs : Streams T) (d : S) (s : SrState T) (now : List S) (ls : List (Log T)) → Underway facts step before kids inputs d s now ls →
      (i : ℕ) → MayFire s.tick i → (fs : List Fault) (l : Log T) → step s.tag (get_or now i d) (lent_of s i) ≡ Stuck fs l → (f : Fault) → IsIn f fs → (n k : ℕ) → length s.tick.plan.net.sources ≤ k →
      IsStuckAt (firing_from facts step before kids n s.tag inputs k) i f (log_below (logs_then i l ls))
  pub gives_two : (facts : Facts T S) (step : Stepping T S) (before : SrState T) (kids : List S) (inputs : Streams T) (d : S) (s : SrState T) (now : List S) (ls : List (Log T)) → Underway facts step before kids inputs d s now ls →
      (i : ℕ) → MayFire s.tick i → (c : S) (out : Streams T) (l : Log T) → step s.tag (get_or now i d) (lent_of s i) ≡ Done c out l → all_single out ≡ false → (n k : ℕ) → length s.tick.plan.net.sources ≤ k →
      IsStuckAt (firing_from facts step before kids n s.tag inputs k) i (record { path = []; firing = facts.made (get_or now i d); code = second_token_code }) (log_below (logs_then i l ls))
  pub off : (facts : Facts T S) (step : Stepping T S) (before : SrState T) (kids : List S) (inputs : Streams T) (d : S) (s : SrState T) (now : List S) (ls : List (Log T)) → Underway facts step before kids inputs d s now ls →
      (n k : ℕ) → length s.tick.plan.net.sources ≤ k → LogBelow (log_below ls) (log_in (firing_from facts step before kids n s.tag inputs k))
  -- and so they have with a beginning of what the child that was asked for logs in its step
  pub off_within : (facts : Facts T S) (step : Stepping T S) (before : SrState T) (kids : List S) (inputs : Streams T) (d : S) (s : SrState T) (now : List S) (ls : List (Log T)) → Underway facts step before kids inputs d s now ls →
      (i : ℕ) → MayFire s.tick i → (m : Log T) → LogBelow m (log_in (step s.tag (get_or now i d) (lent_of s i))) → (n k : ℕ) → length s.tick.plan.net.sources ≤ k → LogBelow (log_below (logs_then i m ls)) (log_in (firing_from facts step before kids n s.tag inputs k))
