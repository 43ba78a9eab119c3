use Rattle.std.proofs.Common.{◌≡◌, ◌++◌, map, drop}
use Rattle.pt_typing.specs.Views.{inequality_view}
use Rattle.pt_resolve.specs.DeclaredTypes.{declared_from}
use Rattle.pt_places.specs.Views.{port_lists}
use Rattle.pt_resolve.proofs.declared.add_declared.Given as goal

abbrev pub invariant-loop-number : goal.invariant-loop-number
invariant-loop-number l = map inequality_view l.inequalities.items ++ declared_from l.number (port_lists (drop l.number l.lists)) ≡ map inequality_view l.fn.inequalities.items ++ declared_from 0 (port_lists l.lists)
