use Rattle.std.proofs.Common.{◌≡◌, drop, map}
use Rattle.pt_expr_type.specs.TypeEnv.{types_in}
use Rattle.pt_chart.specs.Typed.{are_typed_actions}
use Rattle.pt_chart.specs.Views.{action_view}
use Rattle.pt_chart.proofs.typed.are_typed_actions.Given as goal

abbrev pub invariant-loop-action : goal.invariant-loop-action
invariant-loop-action l = are_typed_actions (types_in l.types) (map action_view l.actions) ≡ are_typed_actions (types_in l.types) (map action_view (drop l.action-index l.actions))
