-- Where the order of firings makes no difference.
use Rattle.std.specs.Prelude.{◌≡◌, ℕ, ◌≤◌, List, All}
use Rattle.pt_rates.specs.Balance.{IsBalancedAt}
use Rattle.pt_sched.specs.Plan.{IsDeadlock}
use Rattle.pt_sched.specs.Runs.{IsRun, IsSchedule, IsStuck, firings, put_on, taken_from, length_after}
use Rattle.pt_sched.specs.declared.edge.SchedEdge.{SchedEdge}

-- no run gets ahead of one that is stuck, so two of them have the same firings
pub record StuckRunsAgree : Type 0 where
  pub ahead : (channels : List SchedEdge) (q order stuck : List ℕ) → IsRun channels q order → IsStuck channels q stuck → (child : ℕ) → firings order child ≤ firings stuck child
  pub same : (channels : List SchedEdge) (q first second : List ℕ) → IsStuck channels q first → IsStuck channels q second → (child : ℕ) → firings first child ≡ firings second child

-- where one run comes to a deadlock, no order is a schedule
abbrev pub DeadlocksExcludeSchedules : Type 0
DeadlocksExcludeSchedules = (channels : List SchedEdge) (q : List ℕ) (child : ℕ) (order : List ℕ) → IsDeadlock channels q child → ¬ IsSchedule channels q order

-- no run takes more tokens from a channel than were put on it
abbrev pub RunsKeepLengths : Type 0
RunsKeepLengths = (channels : List SchedEdge) (q order : List ℕ) → IsRun channels q order → All (λ channel. taken_from channel (firings order) ≤ put_on channel (firings order)) channels

-- after a schedule of balanced repetitions each channel holds as many tokens as at first
abbrev pub SchedulesRestoreLengths : Type 0
SchedulesRestoreLengths = (channels : List SchedEdge) (q order : List ℕ) → All (λ channel. IsBalancedAt q channel.edge) channels → IsSchedule channels q order → All (λ channel. length_after channel (firings order) ≡ channel.initial) channels
