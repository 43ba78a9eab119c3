use Rattle.std.proofs.Common.{ℕ, ◌<◌, ◌≤◌, get_or, MatchOption}
use Rattle.pt_sched.specs.Next.{IsReady}
use Rattle.pt_sched.proofs.search.search.Given as goal

abbrev pub invariant-loop-child : goal.invariant-loop-child
invariant-loop-child l = record {
  none : (other : ℕ) → other < l.child → IsReady l.channels l.q (λ k. get_or l.fired k 0) other → ⊥;
  first : MatchOption l.stuck ((other : ℕ) → other < l.child → get_or l.q other 0 ≤ get_or l.fired other 0) (λ s. get_or l.fired s 0 < get_or l.q s 0);
}
