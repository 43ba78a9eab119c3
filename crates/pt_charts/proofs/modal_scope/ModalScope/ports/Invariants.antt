use Rattle.std.proofs.Common.{◌≡◌, ◌++◌, drop}
use Rattle.pt_inequalities.specs.ModalScopes.{ports_named}
use Rattle.pt_charts.specs.Views.{scope_view}
use Rattle.pt_charts.proofs.modal_scope.ModalScope.ports.Given as goal

abbrev pub invariant-loop-name : goal.invariant-loop-name
invariant-loop-name l = l.list.items ++ ports_named (scope_view l.self) (drop l.name-index l.names) ≡ ports_named (scope_view l.self) l.names
