-- What a firing comes to, with what is kept of its node before and after it.
use Rattle.std.specs.Prelude.{◌≡◌, ℕ, ◌≤◌, List}
use Rattle.pt_meaning.specs.Streams.{Streams}
use Rattle.pt_meaning.specs.Log.{Log, LogBelow}
use Rattle.pt_meaning.specs.Machine.{Fault, Outcome, Done, Stuck}
use Rattle.pt_laws.specs.LogsOfRuns.{log_in}
use Rattle.pt_meaning.specs.Laws.{IsIn}
use Rattle.pt_records.specs.Kept.{Kept, GrewBy}

-- at some fuel and every greater one
abbrev pub FromSome : (ℕ → Type 0) → Type 0
FromSome P = (k₀ : ℕ) × ((k : ℕ) → k₀ ≤ k → P k)

-- stuck at this place among others, with a log that begins with l
abbrev pub IsStuckAt : {T S : Type 0} → Fault → Log T → Outcome T S → Type 0
IsStuckAt {T} f l r = (fs : List Fault) × (n : Log T) × (r ≡ Stuck fs n) × IsIn f fs × LogBelow l n

-- The outcome of a firing at each fuel is done from some fuel on, and what is kept went on by its log.
pub record FiresTo {T S : Type 0} (outcome : ℕ → Outcome T S) (next : S) (out : Streams T) (old new : Kept T) : Type 0 where
  pub log : Log T
  pub done : FromSome (λ k. outcome k ≡ Done next out log)
  pub kept : GrewBy log old new

-- It is stuck at this place from some fuel on, and what is kept went on by a beginning of its log, of which IsPart holds.
pub record SticksAt {T S : Type 0} (outcome : ℕ → Outcome T S) (IsPart : Log T → Type 0) (f : Fault) (old new : Kept T) : Type 0 where
  pub log : Log T
  pub stuck : FromSome (λ k. IsStuckAt f log (outcome k))
  pub kept : GrewBy log old new
  pub part : IsPart log

-- It was left off in the middle: what is kept went on by a beginning of its log, of which IsPart holds.
pub record LeavesOff {T S : Type 0} (outcome : ℕ → Outcome T S) (IsPart : Log T → Type 0) (old new : Kept T) : Type 0 where
  pub log : Log T
  pub beginning : FromSome (λ k. LogBelow log (log_in (outcome k)))
  pub kept : GrewBy log old new
  pub part : IsPart log
