use Rattle.pt_survey.specs.Survey.{tables_view}
use Rattle.pt_links.specs.Wiring.{AreCounts}
use Rattle.pt_links.proofs.checks.channel_counts.Given as goal

abbrev pub invariant-loop-number : goal.invariant-loop-number
invariant-loop-number l = AreCounts (tables_view l.wiring.tables.now) l.number l.counts.items
