use Rattle.std.proofs.Common.{take, map}
use Rattle.std.specs.List.{AllZip}
use Rattle.pt_inequalities.specs.Modals.{IsOutputRead}
use Rattle.pt_charts.specs.Views.{scope_view, action_view}
use Rattle.pt_charts.proofs.modal_texts.read_outputs.Given as goal

abbrev pub invariant-loop-action : goal.invariant-loop-action
invariant-loop-action l = AllZip (IsOutputRead (scope_view l.scope)) (take l.action-index l.actions) (map action_view l.trees.items)
