use Rattle.std.proofs.Common.{◌≡◌, ℕ, ◌<◌, Some}
use Rattle.std.specs.List.{slice_get}
use Rattle.pt_net.specs.Table.{PortAt}
use Rattle.pt_survey.specs.Survey.{tables_view}
use Rattle.pt_links.specs.Wiring.{IsFine}
use Rattle.pt_links.proofs.checks.check_ports.Given as goal

abbrev pub invariant-loop-number : goal.invariant-loop-number
invariant-loop-number l = (g : ℕ) → g < l.number → (p : PortAt) → slice_get (tables_view l.wiring.tables.now).ports g ≡ Some p → IsFine (tables_view l.wiring.tables.now) g p
