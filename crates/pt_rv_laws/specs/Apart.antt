-- What a meeting leaves alone: who takes no part in it, and the meetings of others.
use Rattle.std.specs.Prelude.{◌≡◌, ℕ, List}
use Rattle.pt_meaning.specs.Streams.{Streams, at}
use Rattle.pt_meaning.specs.Log.{Log, Meeting}
use Rattle.pt_meaning.specs.Machine.{Stepping, Facts}
use Rattle.pt_meaning.specs.Meetings.{Child, Inlet, HasRole, parties_of, Apart}
use Rattle.pt_rv_laws.specs.State.{RvState, net_of, got_of, IsLegal, after_meet}
use Rattle.pt_rv_laws.specs.Chain.{Underway}

-- A meeting changes what its parties have gathered and have to put, and nothing of any other process or own input; and a meeting that is legal stays so until one of its parties takes part in another.
pub record MeetingsAreApart (T S : Type 0) : Type 0 where
  pub others : (facts : Facts T S) (step : Stepping T S) (before : RvState T) (kids : List S) (inputs : Streams T) (s : RvState T) (count : ℕ) (now : List S) (ls : List (Log T)) → Underway facts step before kids inputs s count now ls →
      (m : Meeting) (i : ℕ) → (HasRole (Child i) (parties_of (net_of s) m) → ⊥) → (got_of (after_meet m s) i ≡ got_of s i) × (at (after_meet m s).places.puts i ≡ at s.places.puts i)
  pub inlets : (facts : Facts T S) (step : Stepping T S) (before : RvState T) (kids : List S) (inputs : Streams T) (s : RvState T) (count : ℕ) (now : List S) (ls : List (Log T)) → Underway facts step before kids inputs s count now ls →
      (m : Meeting) (j : ℕ) → (HasRole (Inlet j) (parties_of (net_of s) m) → ⊥) → at (after_meet m s).places.inputs j ≡ at s.places.inputs j
  pub stays : (facts : Facts T S) (step : Stepping T S) (before : RvState T) (kids : List S) (inputs : Streams T) (s : RvState T) (count : ℕ) (now : List S) (ls : List (Log T)) → Underway facts step before kids inputs s count now ls →
      (m other : Meeting) → IsLegal s m → IsLegal s other → Apart (net_of s) m other → IsLegal (after_meet other s) m
