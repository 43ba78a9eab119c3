-- A chain of calls of a core, and the reaction of the composite that it makes. Children are any, of which those that the plan says have delays answer early.
use Rattle.std.specs.Prelude.{◌≡◌, ◌⊎◌, ℕ, suc, max, ◌<◌, ◌≤◌, List, [], ◌∷◌, ◌++◌, true, false, ◌||◌, length, map, get_or, set, drop, Some, None}
use Rattle.pt_meaning.specs.Tag.{Tag, is_due}
use Rattle.pt_meaning.specs.Streams.{Streams, at, get}
use Rattle.pt_meaning.specs.Log.{Log, LogBelow, silent, log_then, log_below, own}
use Rattle.pt_meaning.specs.Machine.{Fault, Outcome, Done, Stuck, Stepping, Facts, Partial, Known, partial_at}
use Rattle.pt_meaning.specs.Net.{Inside, Own, Output}
use Rattle.pt_meaning.specs.Valuation.{TickPlan, known, is_known, valuation}
use Rattle.pt_meaning.specs.De.{de_early, de_active, de_turn, by_rows, de}
use Rattle.pt_meaning.specs.Running.{total}
use Rattle.pt_meaning.specs.Closed.{inputs_at, outputs_at}
use Rattle.pt_laws.specs.LogsOfRuns.{silents, logs_then, log_at, log_in}
use Rattle.pt_laws.specs.TickRuns.{places_at, IsWide}
use Rattle.pt_laws.specs.Explained.{Turned, ChainOf, of_turns}
use Rattle.pt_meaning.specs.Laws.{IsIn, KeepsEarly}
use Rattle.pt_de_laws.specs.State.{Roles, Turn, Waits, Answered, Over, Stage, Idle, Open, Listens, Asked, Between, Closed, DeState, comes, rows_for, rows_left, inputs_of, delays_of, is_due_child, depth_of, MayFire, MayAnswer, IsOver, partial_of, own_of, begun, asked_on, after_told, after_heard, waits}
use Rattle.pt_de_laws.specs.Lawful.{IsLawful}

-- Once all its inputs but its delays are known, all is known early that a child gives at the channels that begin at it.
abbrev pub Answers : {T S : Type 0} → Facts T S → TickPlan → Roles → ℕ → S → Type 0
Answers {T} facts p roles i d =
    (tag : Tag) (vs : List (Partial T)) → ((q : ℕ) → q < length (places_at p.net.places i roles.delayed) → get_or (places_at p.net.places i roles.delayed) q false ≡ false → is_known (partial_at vs q) ≡ true) →
    (c port : ℕ) → get p.net.sources c ≡ Some (Output i port) → is_known (partial_at (de_early facts tag d vs) port) ≡ true

-- a plan fits its children: there are as many, it tells which take their lists whole, and those that it says have delays answer early
pub record IsFor {T S : Type 0} (facts : Facts T S) (p : TickPlan) (roles : Roles) (kids : List S) : Type 0 where
  pub children : length kids ≡ length p.net.places
  pub whole : (i : ℕ) (d : S) → i < length kids → facts.whole (get_or kids i d) ≡ get_or roles.whole i false
  pub answers : (i : ℕ) (d : S) → i < length kids → get_or roles.early i false ≡ true → Answers facts p roles i (get_or kids i d)

-- the tokens of some rows at a place, in order
abbrev pub of_rows : {T : Type 0} → ℕ → List (Streams T) → List T
of_rows q [] = []
of_rows q (X ∷ Xs) = at X q ++ of_rows q Xs

-- A child that began as c is within its turn, on what is known of its inputs, or has finished it: it has fired on all rows but those left, has come to z, gave out and logged l.
pub record HasTurned {T S : Type 0} (facts : Facts T S) (step : Stepping T S) (tag : Tag) (c : S) (vs : List (Partial T)) (left : List (Streams T)) (z : S) (out : Streams T) (l : Log T) (ts : List (Turned T)) : Type 0 where
  pub inputs : Streams T
  pub on : known vs ≡ Some inputs
  pub active : de_active facts tag c inputs ≡ true
  pub done : List (Streams T)
  pub rows : rows_for (facts.whole c) inputs ≡ done ++ left
  pub fired : by_rows facts step tag done c ≡ Done z out l
  pub chain : ChainOf facts step c ts z l
  pub took : (q : ℕ) → of_turns (inputs_at q) ts ≡ of_rows q done
  pub gave : (p : ℕ) → of_turns (outputs_at p) ts ≡ at out p

-- So many rounds decide: own inputs are known after one, and what a child gives one after all that it takes.
abbrev pub rounds_of : List ℕ → ℕ
rounds_of [] = 1
rounds_of (d ∷ ds) = max (suc (suc d)) (rounds_of ds)

-- a child is asked to fire, or has rows left, in a reaction that is under way
abbrev pub IsAmid : {T : Type 0} → (children : ℕ) → List Turn → Stage T → Type 0
IsAmid n turns Idle = ⊥
IsAmid n turns Open = Unit {0}
IsAmid n turns (Listens child) = ⊥
IsAmid n turns (Asked child rows) = (child < n) × (get_or turns child Waits ≡ Over) × (0 < length rows)
IsAmid n turns (Between child rows) = (child < n) × (get_or turns child Waits ≡ Over) × (0 < length rows)
IsAmid n turns Closed = ⊥

-- a child that has no delays has rows left
abbrev pub IsBusy : {T : Type 0} → DeState T → ℕ → Type 0
IsBusy s i = (get_or s.roles.early i false ≡ false) × (0 < length (rows_left s.stage i))

-- a child is due, or is busy: those at depths below it have had their turn, and no other has
abbrev pub IsPending : {T : Type 0} → DeState T → ℕ → Type 0
IsPending s i = (is_due_child s i ≡ true) ⊎ IsBusy s i

-- what child i gives at this tag is at its channels: it has answered early, or has finished its turn
abbrev pub HasTold : {T : Type 0} → DeState T → ℕ → Type 0
HasTold s i = (get_or s.turns i Waits ≡ Waits → ⊥) × ((get_or s.roles.early i false ≡ true) ⊎ (length (rows_left s.stage i) ≡ 0))

module _ {T S : Type 0} (facts : Facts T S) (step : Stepping T S) where
  -- what is known of the channels after so many rounds
  abbrev pub after_rounds : DeState T → List S → Streams T → ℕ → List (Partial T)
  after_rounds s kids inputs k = valuation (de_early facts) (de_active facts) (de_turn facts step) s.tag s.plan.net kids inputs k

  -- and after as many as decide
  abbrev pub decided : DeState T → List S → Streams T → List (Partial T)
  decided s kids inputs = after_rounds s kids inputs (rounds_of s.roles.depths)

-- A reaction of the composite is under way, which began from the state `before` with these children: the core is in the state s, but that the inputs of children that had their turn are still at their channels, the children are now in the states now, and have logged ls. A child past the last is d.
-- A child that has told is known, so many rounds as it is deep after the first two, to give what is at its channels; one that has had no turn has given nothing; and no child that has had its turn is deeper than one that is due.
pub record Course {T S : Type 0} (facts : Facts T S) (step : Stepping T S) (before : DeState T) (kids : List S) (inputs : Streams T) (d : S) (s : DeState T) (now : List S) (ls : List (Log T)) : Type 0 where
  pub keeps : KeepsEarly (de_early facts) (de_active facts) (de_turn facts step)
  pub lawful : IsLawful s.plan s.roles
  pub fitting : IsFor facts s.plan s.roles kids
  pub plan : s.plan ≡ before.plan
  pub wide : IsWide s.plan.net kids now ls
  pub channels : length s.tokens ≡ length s.plan.net.sources
  pub flags : length s.turns ≡ length s.plan.net.places
  pub wakes : s.wakes ≡ map (λ c. facts.next c) now
  pub amid : IsAmid (length s.plan.net.places) s.turns s.stage
  pub arrived : (c port : ℕ) → get s.plan.net.sources c ≡ Some (Own port) → at s.tokens c ≡ at inputs port
  pub outs : List (Streams T)
  pub gave : length outs ≡ length s.plan.net.places
  pub turned : ℕ → List (Turned T)
  pub over : (i : ℕ) → i < length s.plan.net.places → get_or s.turns i Waits ≡ Over →
      HasTurned facts step s.tag (get_or kids i d) (places_at s.plan.net.places i (decided facts step s kids inputs)) (rows_left s.stage i) (get_or now i d) (get_or outs i []) (log_at ls i) (turned i)
  pub soon : (i : ℕ) → i < length s.plan.net.places → get_or s.turns i Waits ≡ Over → get_or s.roles.early i false ≡ false →
      places_at s.plan.net.places i (decided facts step s kids inputs) ≡ places_at s.plan.net.places i (after_rounds facts step s kids inputs (suc (depth_of s i)))
  pub rests : (i : ℕ) → i < length s.plan.net.places → (get_or s.turns i Waits ≡ Over → ⊥) → (get_or now i d ≡ get_or kids i d) × (log_at ls i ≡ silent) × (turned i ≡ []) × (get_or outs i [] ≡ [])
  pub beyond : (i : ℕ) → length s.plan.net.places ≤ i → turned i ≡ []
  pub told : (i : ℕ) → i < length s.plan.net.places → HasTold s i → (c port : ℕ) → get s.plan.net.sources c ≡ Some (Output i port) → partial_at (after_rounds facts step s kids inputs (suc (suc (depth_of s i)))) c ≡ Known (at s.tokens c)
  pub gives : (i : ℕ) → i < length s.plan.net.places → get_or s.turns i Waits ≡ Over → get_or s.roles.early i false ≡ false → (c port : ℕ) → get s.plan.net.sources c ≡ Some (Output i port) → at s.tokens c ≡ at (get_or outs i []) port
  pub quiet : (i : ℕ) → i < length s.plan.net.places → get_or s.turns i Waits ≡ Waits → (c port : ℕ) → get s.plan.net.sources c ≡ Some (Output i port) → at s.tokens c ≡ []
  pub answered : (i : ℕ) → i < length s.plan.net.places → (get_or s.turns i Waits ≡ Waits → ⊥) → get_or s.roles.early i false ≡ true → (c port : ℕ) → get s.plan.net.sources c ≡ Some (Output i port) →
      partial_at (de_early facts s.tag (get_or kids i d) (partial_of s i)) port ≡ Known (at s.tokens c)
  pub prompted : (i : ℕ) → i < length s.plan.net.places → get_or s.turns i Waits ≡ Answered →
      (get_or s.roles.early i false ≡ true) × ((is_due s.tag (get_or s.wakes i None) || comes false (delays_of s i) (inputs_of s i)) ≡ true)
  pub order : (i j : ℕ) → i < length s.plan.net.places → j < length s.plan.net.places → (get_or s.turns i Waits ≡ Waits → ⊥) → IsPending s j → depth_of s i ≤ depth_of s j
  pub late : (i j : ℕ) → i < length s.plan.net.places → j < length s.plan.net.places → get_or s.turns i Waits ≡ Over → get_or s.roles.early i false ≡ true → IsPending s j → ⊥

-- the state with these tokens at the channels
abbrev pub with_tokens : {T : Type 0} → Streams T → DeState T → DeState T
with_tokens tokens s = record { plan = s.plan; roles = s.roles; wakes = s.wakes; tokens = tokens; turns = s.turns; tag = s.tag; stage = s.stage }

-- of all tokens of the tag those are left that no child has taken: a child that hasn't been asked for its turn has all of its inputs, and so have the own outputs
pub record IsLeft {T : Type 0} (s : DeState T) (all : Streams T) : Type 0 where
  pub long : length s.tokens ≡ length all
  pub inputs : (j : ℕ) → j < length s.plan.net.places → (get_or s.turns j Waits ≡ Over → ⊥) → inputs_of s j ≡ places_at s.plan.net.places j all
  pub outlets : drop (total s.plan.net.places) s.tokens ≡ drop (total s.plan.net.places) all

-- the reaction is under way: with all tokens that came to the channels at the tag, it has come so far
pub record Underway {T S : Type 0} (facts : Facts T S) (step : Stepping T S) (before : DeState T) (kids : List S) (inputs : Streams T) (d : S) (s : DeState T) (now : List S) (ls : List (Log T)) : Type 0 where
  pub all : Streams T
  pub left : IsLeft s all
  pub course : Course facts step before kids inputs d (with_tokens all s) now ls

-- the composite's firing, at fuel k
abbrev pub firing_from : {T S : Type 0} → Facts T S → Stepping T S → DeState T → List S → Tag → Streams T → ℕ → Outcome T (Inside (Streams T) S)
firing_from facts step before kids tag inputs k = de facts step before.plan k tag kids inputs

-- it is stuck at a place of child i, and has logged at least this
abbrev pub IsStuckAt : {T S : Type 0} → Outcome T (Inside (Streams T) S) → ℕ → Fault → Log T → Type 0
IsStuckAt {T} r i f l = (gs : List Fault) × (m : Log T) × (r ≡ Stuck gs m) × IsIn (record { path = i ∷ f.path; firing = f.firing; code = f.code }) gs × LogBelow l m

-- a child is asked to fire next: one that may, where what comes next is open, or the one that has rows left
abbrev pub AsksFor : {T : Type 0} → DeState T → Stage T → ℕ → Type 0
AsksFor s Idle i = ⊥
AsksFor s Open i = MayFire s i
AsksFor s (Listens child) i = ⊥
AsksFor s (Asked child rows) i = ⊥
AsksFor s (Between child rows) i = child ≡ i
AsksFor s Closed i = ⊥

-- What a chain of calls makes of a reaction: `begin` begins it; where `ask` asks for a child, `asked_on` is the state in which it may fire on a row, and `told` goes on where its step is done; where `ask` asks for an early answer, `hears` does.
-- Where each child has had its turn, the reaction is done, with the states of the children and the outputs that `finish` gives, at each fuel from the number of channels on.
-- Where the child asked for is stuck, so is the reaction, at its place. In the middle the children have logged a beginning of its log.
pub record CallsAreDe (T S : Type 0) : Type 0 where
  pub begins : (facts : Facts T S) (step : Stepping T S) (before : DeState T) (kids : List S) (tag : Tag) (inputs : Streams T) (d : S) → KeepsEarly (de_early facts) (de_active facts) (de_turn facts step) → IsLawful before.plan before.roles → IsFor facts before.plan before.roles kids → before.wakes ≡ map (λ c. facts.next c) kids →
      Underway facts step before kids inputs d (begun tag inputs before) kids (silents kids)
  pub asks : (facts : Facts T S) (step : Stepping T S) (before : DeState T) (kids : List S) (inputs : Streams T) (d : S) (s : DeState T) (now : List S) (ls : List (Log T)) → Underway facts step before kids inputs d s now ls →
      (i : ℕ) → AsksFor s s.stage i → Underway facts step before kids inputs d (asked_on s.stage i s) now ls × ((X : Streams T) × (Xs : List (Streams T)) × ((asked_on s.stage i s).stage ≡ Asked i (X ∷ Xs)))
  pub goes_on : (facts : Facts T S) (step : Stepping T S) (before : DeState T) (kids : List S) (inputs : Streams T) (d : S) (s : DeState T) (now : List S) (ls : List (Log T)) → Underway facts step before kids inputs d s now ls →
      (i : ℕ) (X : Streams T) (Xs : List (Streams T)) → s.stage ≡ Asked i (X ∷ Xs) → (c : S) (out : Streams T) (l : Log T) → step s.tag (get_or now i d) X ≡ Done c out l →
      Underway facts step before kids inputs d (after_told i out (facts.next c) s) (set now i c) (logs_then i (log_then l (own (record { number = facts.made (get_or now i d); tag = s.tag; inputs = X; outputs = out }))) ls)
  pub hears : (facts : Facts T S) (step : Stepping T S) (before : DeState T) (kids : List S) (inputs : Streams T) (d : S) (s : DeState T) (now : List S) (ls : List (Log T)) → Underway facts step before kids inputs d s now ls → s.stage ≡ Open →
      (i : ℕ) → MayAnswer s i → Underway facts step before kids inputs d (after_heard i (facts.early s.tag (get_or now i d) (partial_of s i)) s) now ls
  pub learns : (facts : Facts T S) (step : Stepping T S) (before : DeState T) (kids : List S) (inputs : Streams T) (d : S) (s : DeState T) (now : List S) (ls : List (Log T)) → Underway facts step before kids inputs d s now ls →
      (i : ℕ) → MayAnswer s i → (early : List (Partial T)) → waits (after_heard i early s) < waits s
  pub ends : (facts : Facts T S) (step : Stepping T S) (before : DeState T) (kids : List S) (inputs : Streams T) (d : S) (s : DeState T) (now : List S) (ls : List (Log T)) → Underway facts step before kids inputs d s now ls → s.stage ≡ Open →
      IsOver s → (k : ℕ) → length s.plan.net.sources ≤ k → firing_from facts step before kids s.tag inputs k ≡ Done (record { held = []; kids = now }) (own_of s) (log_below ls)
  pub sticks : (facts : Facts T S) (step : Stepping T S) (before : DeState T) (kids : List S) (inputs : Streams T) (d : S) (s : DeState T) (now : List S) (ls : List (Log T)) → Underway facts step before kids inputs d s now ls →
      (i : ℕ) (X : Streams T) (Xs : List (Streams T)) → s.stage ≡ Asked i (X ∷ Xs) → (fs : List Fault) (l : Log T) → step s.tag (get_or now i d) X ≡ Stuck fs l → (f : Fault) → IsIn f fs → (k : ℕ) → length s.plan.net.sources ≤ k →
      IsStuckAt (firing_from facts step before kids s.tag inputs k) i f (log_below (logs_then i l ls))
  pub off : (facts : Facts T S) (step : Stepping T S) (before : DeState T) (kids : List S) (inputs : Streams T) (d : S) (s : DeState T) (now : List S) (ls : List (Log T)) → Underway facts step before kids inputs d s now ls →
      (k : ℕ) → length s.plan.net.sources ≤ k → LogBelow (log_below ls) (log_in (firing_from facts step before kids s.tag inputs k))
  -- and so they have with a beginning of what the child that was asked for logs in its step
  pub off_within : (facts : Facts T S) (step : Stepping T S) (before : DeState T) (kids : List S) (inputs : Streams T) (d : S) (s : DeState T) (now : List S) (ls : List (Log T)) → Underway facts step before kids inputs d s now ls →
      (i : ℕ) (X : Streams T) (Xs : List (Streams T)) → s.stage ≡ Asked i (X ∷ Xs) → (m : Log T) → LogBelow m (log_in (step s.tag (get_or now i d) X)) → (k : ℕ) → length s.plan.net.sources ≤ k → LogBelow (log_below (logs_then i m ls)) (log_in (firing_from facts step before kids s.tag inputs k))
