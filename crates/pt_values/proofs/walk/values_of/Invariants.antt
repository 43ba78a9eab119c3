use Rattle.std.proofs.Common.{◌≡◌, length}
use Rattle.pt_scopes.specs.Scopes.{net_view}
use Rattle.pt_values.specs.Walk.{IsWalk, IsHeldUp}
use Rattle.pt_values.proofs.walk.values_of.Given as goal

abbrev pub invariant-loop-composite : goal.invariant-loop-composite
invariant-loop-composite l = record {
  walk : IsWalk (net_view l.net) l.walk;
  held_up : IsHeldUp (net_view l.net) l.walk;
  count : length l.walk.transparent.items ≡ l.composite-index;
}
