use Rattle.std.proofs.Common.{◌≡◌, ◌≤◌, drop, length}
use Rattle.std.specs.List.{position_from}
use Rattle.indexmap.specs.IndexMap.{get}
use Rattle.pt_links.proofs.names.first_places.Given as goal

abbrev pub invariant-loop-left : goal.invariant-loop-left
invariant-loop-left g l = record {
  rest : (key : g.row.K.Denot) → get g.K.PartialEq.eq l.numbers key ≡ position_from (g.K.PartialEq.eq key) l.left (drop l.left l.keys);
  within : l.left ≤ length l.keys;
}

abbrev pub decreases-loop-left : goal.decreases-loop-left
decreases-loop-left g l = l.left
