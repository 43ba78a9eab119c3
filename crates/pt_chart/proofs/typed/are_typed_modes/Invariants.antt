use Rattle.std.proofs.Common.{◌≡◌, drop, map}
use Rattle.std.specs.List.{list_all}
use Rattle.pt_expr_type.specs.TypeEnv.{types_in}
use Rattle.pt_chart.specs.Typed.{is_typed_mode}
use Rattle.pt_chart.specs.Views.{mode_view}
use Rattle.pt_chart.proofs.typed.are_typed_modes.Given as goal

abbrev pub invariant-loop-mode : goal.invariant-loop-mode
invariant-loop-mode l = list_all (is_typed_mode (types_in l.types)) (map mode_view l.modes) ≡ list_all (is_typed_mode (types_in l.types)) (map mode_view (drop l.mode-index l.modes))
