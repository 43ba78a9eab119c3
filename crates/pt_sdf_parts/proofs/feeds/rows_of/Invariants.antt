use Rattle.std.proofs.Common.{map, take}
use Rattle.pt_core.specs.Source.{source_of}
use Rattle.pt_sdf_parts.specs.Feeds.{AreTargets}
use Rattle.pt_sdf_parts.proofs.feeds.rows_of.Given as goal

abbrev pub invariant-loop-c : goal.invariant-loop-c
invariant-loop-c l = AreTargets l.n (map source_of (take l.c l.sources)) l.rows.items
