use Rattle.std.proofs.Common.{◌≡◌, ◌≤◌, List, ℕ, drop, length}
use Rattle.pt_expr_type.specs.TypeEnv.{types_in}
use Rattle.pt_formula.specs.Formula.{parameter_types}
use Rattle.pt_chart.proofs.typed.bound_types.Given as goal

abbrev pub invariant-loop-left : goal.invariant-loop-left
invariant-loop-left l = record {
  rest : (name : List ℕ) → types_in l.env name ≡ parameter_types (drop l.left l.entries) name;
  within : l.left ≤ length l.entries;
  all : l.entries ≡ l.values;
}

abbrev pub decreases-loop-left : goal.decreases-loop-left
decreases-loop-left l = l.left
