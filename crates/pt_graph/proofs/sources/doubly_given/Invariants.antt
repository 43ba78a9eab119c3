use Rattle.std.proofs.Common.{length}
use Rattle.pt_graph.specs.Sources.{AreGivers}
use Rattle.pt_graph.proofs.sources.doubly_given.Given as goal

abbrev pub invariant-loop-giver : goal.invariant-loop-giver
invariant-loop-giver l = AreGivers (length l.group) l.giver-index l.group l.gifts l.givers.items
