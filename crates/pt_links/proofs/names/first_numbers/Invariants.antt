use Rattle.std.proofs.Common.{◌≡◌, ◌≤◌, drop, length}
use Rattle.std.specs.Map.{lookup}
use Rattle.indexmap.specs.IndexMap.{get}
use Rattle.pt_links.proofs.names.first_numbers.Given as goal

abbrev pub invariant-loop-left : goal.invariant-loop-left
invariant-loop-left g l = record {
  rest : (key : g.row.K.Denot) → get g.K.PartialEq.eq l.numbers key ≡ lookup (g.K.PartialEq.eq key) (drop l.left l.pairs);
  within : l.left ≤ length l.pairs;
}

abbrev pub decreases-loop-left : goal.decreases-loop-left
decreases-loop-left g l = l.left
