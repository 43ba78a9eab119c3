use Rattle.std.proofs.Common.{◌≡◌, drop}
use Rattle.std.specs.List.{list_all}
use Rattle.pt_inequalities.specs.ModalScopes.{is_in_scope}
use Rattle.pt_charts.specs.Views.{scope_view}
use Rattle.pt_charts.proofs.modal_scope.ModalScope.has_all.Given as goal

abbrev pub invariant-loop-name : goal.invariant-loop-name
invariant-loop-name l = list_all (is_in_scope (scope_view l.self)) l.names ≡ list_all (is_in_scope (scope_view l.self)) (drop l.name-index l.names)
