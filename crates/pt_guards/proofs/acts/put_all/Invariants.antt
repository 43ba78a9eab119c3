use Rattle.std.proofs.Common.{◌≡◌, drop, map}
use Rattle.pt_expr.specs.Env.{scope_of}
use Rattle.pt_guards.specs.Acts.{put_all}
use Rattle.pt_chart.specs.Views.{action_view}
use Rattle.pt_guards.proofs.acts.put_all.Given as goal

abbrev pub invariant-loop-action : goal.invariant-loop-action
invariant-loop-action l = put_all (scope_of l.env) (map action_view l.actions) l.initial.outputs.items ≡ put_all (scope_of l.env) (map action_view (drop l.action-index l.actions)) l.outputs.items
