use Rattle.std.proofs.Common.{◌≡◌, List, ℕ, false, drop, map}
use Rattle.pt_meaning.specs.Streams.{get}
use Rattle.pt_types.specs.Entry.{typed_entry}
use Rattle.pt_expr.specs.Env.{scope_of}
use Rattle.pt_formula.specs.Formula.{names, is_among}
use Rattle.pt_chart.specs.Names.{with_names}
use Rattle.pt_guards.proofs.names.bind_values.Given as goal

abbrev pub invariant-loop-i : goal.invariant-loop-i
invariant-loop-i l = record {
  rest : (name : List ℕ) → with_names l.i (map typed_entry (drop l.i l.entries)) (λ i. get l.values i) (scope_of l.env) name ≡ with_names 0 (map typed_entry l.entries) (λ i. get l.values i) (scope_of l.initial.env) name;
  others : (name : List ℕ) → is_among name (names (map typed_entry l.entries)) ≡ false → scope_of l.env name ≡ scope_of l.initial.env name;
}
