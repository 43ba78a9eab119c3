use Rattle.std.proofs.Common.{◌≡◌, List, ℕ, false, drop, map}
use Rattle.pt_expr.specs.Env.{scope_of}
use Rattle.pt_types.specs.Entry.{typed_entry}
use Rattle.pt_formula.specs.Formula.{names, with_inputs, is_among}
use Rattle.pt_lib_flow.proofs.expression.bind_inputs.Given as goal

abbrev pub invariant-loop-place : goal.invariant-loop-place
invariant-loop-place l = record {
  rest : (name : List ℕ) → with_inputs (drop l.place (names (map typed_entry l.entries))) (drop l.place l.inputs) (scope_of l.env) name ≡ with_inputs (names (map typed_entry l.entries)) l.inputs (scope_of l.initial.env) name;
  others : (name : List ℕ) → is_among name (names (map typed_entry l.entries)) ≡ false → scope_of l.env name ≡ scope_of l.initial.env name;
}
