use Rattle.std.proofs.Common.{◌≡◌, drop, map}
use Rattle.std.specs.List.{list_all}
use Rattle.pt_expr_type.specs.TypeEnv.{types_in}
use Rattle.pt_chart.specs.Typed.{is_typed_transition}
use Rattle.pt_chart.specs.Views.{transition_view}
use Rattle.pt_chart.proofs.typed.are_typed_transitions.Given as goal

abbrev pub invariant-loop-transition : goal.invariant-loop-transition
invariant-loop-transition l = list_all (is_typed_transition (types_in l.types)) (map transition_view l.transitions) ≡ list_all (is_typed_transition (types_in l.types)) (map transition_view (drop l.transition-index l.transitions))
