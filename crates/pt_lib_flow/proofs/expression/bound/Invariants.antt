use Rattle.std.proofs.Common.{◌≡◌, ◌≤◌, List, ℕ, drop, length}
use Rattle.pt_expr.specs.Env.{scope_of}
use Rattle.pt_formula.specs.Formula.{parameters}
use Rattle.pt_lib_flow.proofs.expression.bound.Given as goal

abbrev pub invariant-loop-left : goal.invariant-loop-left
invariant-loop-left l = record {
  rest : (name : List ℕ) → scope_of l.env name ≡ parameters (drop l.left l.entries) name;
  within : l.left ≤ length l.entries;
  all : l.entries ≡ l.values;
}

abbrev pub decreases-loop-left : goal.decreases-loop-left
decreases-loop-left l = l.left
