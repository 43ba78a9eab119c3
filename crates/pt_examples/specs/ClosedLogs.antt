-- Models of which the logs are closed, by each director and nested: at any fuel, under any meetings and any schedule.
use Rattle.std.specs.Prelude.{ℕ, ◌≤◌}
use Rattle.pt_meaning.specs.Meetings.{Meets}
use Rattle.pt_meaning.specs.Tree.{Node}
use Rattle.pt_meaning.specs.Job.{Schedule, meaning}
use Rattle.pt_meaning.specs.Closed.{UnderWay, IsClosedRun}
use Rattle.pt_examples.specs.Small.{Token, Act, rows}
use Rattle.pt_examples.specs.Dataflow.{doubled}
use Rattle.pt_examples.specs.Ticks.{counting}
use Rattle.pt_examples.specs.Events.{clocks}
use Rattle.pt_examples.specs.Rendezvous.{joining}
use Rattle.pt_examples.specs.Nesting.{modal_in_pn_in_sdf}

-- the log of each run of the model is closed, as a part of that at each greater fuel, and beside the same firings under way
abbrev pub HasClosedLogs : Node Token Act → Type 0
HasClosedLogs top = (m : Meets) (plan : Schedule Token Act) (k : ℕ) → (way : UnderWay Token) × ((k' : ℕ) → k ≤ k' → IsClosedRun rows m plan top (meaning k' rows m plan top) (meaning k rows m plan top) way)

pub record ClosedLogsExamples : Type 0 where
  pub of_sdf : HasClosedLogs doubled
  pub of_sr : HasClosedLogs counting
  pub of_de : HasClosedLogs clocks
  pub of_rendezvous : HasClosedLogs joining
  pub below_a_modal : HasClosedLogs modal_in_pn_in_sdf
