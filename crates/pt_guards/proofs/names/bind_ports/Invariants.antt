use Rattle.std.proofs.Common.{◌≡◌, List, ℕ, false, drop, map}
use Rattle.pt_meaning.specs.Streams.{at}
use Rattle.pt_meaning.specs.Transitions.{last_of}
use Rattle.pt_types.specs.Entry.{typed_entry}
use Rattle.pt_expr.specs.Env.{scope_of}
use Rattle.pt_formula.specs.Formula.{names, is_among}
use Rattle.pt_chart.specs.Names.{with_names}
use Rattle.pt_guards.proofs.names.bind_ports.Given as goal

abbrev pub invariant-loop-port : goal.invariant-loop-port
invariant-loop-port l = record {
  rest : (name : List ℕ) → with_names l.port (map typed_entry (drop l.port l.entries)) (λ port. last_of (at l.lists port)) (scope_of l.env) name ≡ with_names 0 (map typed_entry l.entries) (λ port. last_of (at l.lists port)) (scope_of l.initial.env) name;
  others : (name : List ℕ) → is_among name (names (map typed_entry l.entries)) ≡ false → scope_of l.env name ≡ scope_of l.initial.env name;
}
