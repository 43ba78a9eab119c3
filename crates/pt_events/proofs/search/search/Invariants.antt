use Rattle.std.proofs.Common.{◌≡◌, ℕ, ◌<◌, true, false, length, MatchOption}
use Rattle.pt_events.specs.Found.{IsReady, is_known}
use Rattle.pt_events.proofs.search.search.Given as goal

abbrev pub invariant-loop-child : goal.invariant-loop-child
invariant-loop-child l = record {
  none : (other : ℕ) → other < l.child → IsReady l.feeders l.known other → ⊥;
  first : MatchOption l.stuck ((other : ℕ) → other < l.child → is_known l.known other ≡ true) (λ s. (s < length l.feeders) × (is_known l.known s ≡ false));
}
