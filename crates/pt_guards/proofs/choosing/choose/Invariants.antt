use Rattle.std.proofs.Common.{◌≡◌, drop, map}
use Rattle.pt_meaning.specs.Modal.{chosen}
use Rattle.pt_expr.specs.Env.{scope_of}
use Rattle.pt_guards.specs.Choose.{tests_in, joined}
use Rattle.pt_chart.specs.Views.{transition_view}
use Rattle.pt_guards.proofs.choosing.choose.Given as goal

abbrev pub invariant-loop-number : goal.invariant-loop-number
invariant-loop-number l = chosen 0 (tests_in (scope_of l.env) (map transition_view l.transitions)) ≡ joined l.enabled (chosen l.number (drop l.number (tests_in (scope_of l.env) (map transition_view l.transitions))))
