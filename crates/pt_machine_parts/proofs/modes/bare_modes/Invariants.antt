use Rattle.std.proofs.Common.{◌≡◌, map, take}
use Rattle.pt_chart.specs.Views.{mode_view}
use Rattle.pt_machine_parts.specs.Claims.{bare_mode}
use Rattle.pt_machine_parts.proofs.modes.bare_modes.Given as goal

abbrev pub invariant-loop-refinement : goal.invariant-loop-refinement
invariant-loop-refinement l = map mode_view l.modes.items ≡ map bare_mode (take l.refinement-index l.refinements)
