use Rattle.std.proofs.Common.{length}
use Rattle.pt_graph.specs.Origins.{AreOrigins}
use Rattle.pt_graph.proofs.origins.class_sources.Given as goal

abbrev pub invariant-loop-giver : goal.invariant-loop-giver
invariant-loop-giver l = AreOrigins (length l.class) l.giver-index l.class l.gifts l.sources.items
