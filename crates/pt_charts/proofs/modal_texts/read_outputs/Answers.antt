use Rattle.std.proofs.Common.{◌+◌, List, map, take, sym, subst}
use Rattle.std.specs.List.{AllZip}
use Rattle.pt_scopes.proofs.Pushed.{zip-next}
use Rattle.pt_charts.specs.declared.modal_texts.ActionTree.{ActionTree}
use Rattle.pt_inequalities.specs.Modals.{IsOutputRead}
use Rattle.pt_charts.specs.Views.{scope_view, action_view}
use Rattle.pt_charts.proofs.modal_texts.read_outputs.Goals as goal

pub loop-action-preserved : goal.loop-action-preserved
loop-action-preserved c =
    let i = c.loop-action.action-index in
    let more = zip-next (IsOutputRead (scope_view c.args.scope.now)) action_view c.args.actions.now i c.action-item.result c.loop-action-test.true c.action-item.is c.loop-action.trees.items c.in_ok-read_output.field-0 c.loop-action.invariant c.in_ok-read_output.ensures in
    subst (λ (ts : List ActionTree). AllZip (IsOutputRead (scope_view c.args.scope.now)) (take (i + 1) c.args.actions.now) (map action_view ts)) (sym c.in_ok-push.ensures.items) more
