-- SR: a firing is one tick, in which each child fires once (the book, "Synchronous-Reactive Models").
use Rattle.std.specs.Prelude.{ℕ, List, [], ◌∷◌, Bool, true, false, ◌&&◌}
use Rattle.pt_meaning.specs.Tag.{Tag}
use Rattle.pt_meaning.specs.Streams.{Streams}
use Rattle.pt_meaning.specs.Log.{Log}
use Rattle.pt_meaning.specs.Machine.{second_token_code, causality_code, Outcome, Done, Stuck, Stepping, Facts, recorded}
use Rattle.pt_meaning.specs.Net.{Inside}
use Rattle.pt_meaning.specs.Valuation.{Activity, TickPlan, tick}

-- SR: each child is active and makes one firing, which is stuck where it gives two tokens on one port
abbrev pub sr_active : {T S : Type 0} → Activity T S
sr_active tag s X = true

-- one token at most
abbrev pub is_single : {T : Type 0} → List T → Bool
is_single [] = true
is_single (x ∷ []) = true
is_single (x ∷ y ∷ xs) = false

-- one token at most on each port
abbrev pub all_single : {T : Type 0} → Streams T → Bool
all_single [] = true
all_single (xs ∷ X) = is_single xs && all_single X

-- two tokens on one port at one tag are a fault
abbrev pub if_single : {T S : Type 0} → Bool → ℕ → S → Streams T → Log T → Outcome T S
if_single true made s out l = Done s out l
if_single false made s out l = Stuck (record { path = []; firing = made; code = second_token_code } ∷ []) l

-- the outcome under SR
abbrev pub single_outcome : {T S : Type 0} → ℕ → Outcome T S → Outcome T S
single_outcome made (Done s out l) = if_single (all_single out) made s out l
single_outcome made (Stuck fs l) = Stuck fs l

-- a turn under SR: one firing
abbrev pub sr_turn : {T S : Type 0} → Facts T S → Stepping T S → Stepping T S
sr_turn facts step tag s X = recorded (facts.made s) tag X (single_outcome (facts.made s) (step tag s X))

-- the firing is the composite's firing of number n
abbrev pub sr : {T S : Type 0} → Facts T S → Stepping T S → TickPlan → ℕ → ℕ → Tag → List S → Streams T → Outcome T (Inside (Streams T) S)
sr facts step p k n tag kids inputs = tick facts.early sr_active (sr_turn facts step) tag p.net (record { path = []; firing = n; code = causality_code } ∷ []) kids inputs k
