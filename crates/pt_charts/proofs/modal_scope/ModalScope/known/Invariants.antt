use Rattle.std.proofs.Common.{◌≡◌, ◌++◌, map, drop}
use Rattle.pt_typing.specs.Views.{known_entry}
use Rattle.pt_inequalities.specs.Inequalities.{known}
use Rattle.pt_inequalities.specs.ModalScopes.{value_types}
use Rattle.pt_charts.specs.Views.{scope_view}
use Rattle.pt_charts.proofs.modal_scope.ModalScope.known.Given as goal

abbrev pub invariant-loop-name : goal.invariant-loop-name
invariant-loop-name l = map known_entry l.list.items ++ known (value_types (scope_view l.self)) (drop l.name-index l.names) ≡ known (value_types (scope_view l.self)) l.names
