use Rattle.std.proofs.Common.{◌≡◌, ℕ, ◌<◌, ◌≤◌, Some}
use Rattle.std.specs.List.{slice_get}
use Rattle.pt_net.specs.Standing.{Standing}
use Rattle.pt_survey.specs.Survey.{tables_view}
use Rattle.pt_net.specs.Net.{wires}
use Rattle.pt_net.specs.Stands.{least_channels, channels_in}
use Rattle.pt_links.proofs.checks.check_counts.Given as goal

abbrev pub invariant-loop-number : goal.invariant-loop-number
invariant-loop-number l = (e : ℕ) → e < l.number → (s : Standing) → slice_get (tables_view l.wiring.tables.now).entities e ≡ Some s → least_channels s ≤ channels_in (tables_view l.wiring.tables.now).ports (wires (tables_view l.wiring.tables.now)) e
