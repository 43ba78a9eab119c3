use Rattle.std.proofs.Common.{◌≡◌, take}
use Rattle.pt_survey.specs.Survey.{tables_view}
use Rattle.pt_net.specs.Net.{wires}
use Rattle.pt_graph.specs.Sources.{gifts_among}
use Rattle.pt_graph.proofs.sources.gifts.Given as goal

abbrev pub invariant-loop-number : goal.invariant-loop-number
invariant-loop-number l = l.gifts.items ≡ gifts_among (wires (tables_view l.wiring.tables.now)) l.kept_only (take l.number (tables_view l.wiring.tables.now).ports)
