use Rattle.std.proofs.Common.{take}
use Rattle.pt_guards.specs.Placed.{Each, SaysMode}
use Rattle.pt_chart.specs.Views.{mode_view, names_view}
use Rattle.pt_guards.proofs.kept.placed_modes.Given as goal

abbrev pub invariant-loop-mode : goal.invariant-loop-mode
invariant-loop-mode l = Each (λ p m. SaysMode (names_view l.names) p (mode_view m)) l.placed.items (take l.mode-index l.modes)
