use Rattle.std.proofs.Common.{◌≡◌, map, take, drop}
use Rattle.pt_meaning.specs.Sdf.{times, taken_from}
use Rattle.pt_sdf_parts.specs.ByNeed.{skip_at}
use Rattle.pt_core.specs.Source.{source_of}
use Rattle.pt_sdf_parts.proofs.unfed.use_up.Given as goal

abbrev pub invariant-loop-k : goal.invariant-loop-k
invariant-loop-k l = l.channels.lists ≡ skip_at l.from (take l.k (times l.turns (map (taken_from l.takes) (drop l.from (map source_of l.sources))))) l.fn.channels.lists
