use Rattle.std.proofs.Common.{◌≡◌, List, ℕ, drop, map}
use Rattle.pt_types.specs.Entry.{typed_entry}
use Rattle.pt_expr_type.specs.TypeEnv.{types_in}
use Rattle.pt_formula.specs.Formula.{with_types}
use Rattle.pt_chart.proofs.typed.bind_types.Given as goal

abbrev pub invariant-loop-name : goal.invariant-loop-name
invariant-loop-name l = (name : List ℕ) → with_types (map typed_entry (drop l.name-index l.entries)) (types_in l.env) name ≡ with_types (map typed_entry l.entries) (types_in l.initial.env) name
