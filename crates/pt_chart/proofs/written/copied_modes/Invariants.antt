use Rattle.std.proofs.Common.{◌≡◌, take, map}
use Rattle.pt_chart.specs.Views.{mode_view}
use Rattle.pt_chart.proofs.written.copied_modes.Given as goal

abbrev pub invariant-loop-mode : goal.invariant-loop-mode
invariant-loop-mode l = map mode_view l.copies.items ≡ map mode_view (take l.mode-index l.modes)
