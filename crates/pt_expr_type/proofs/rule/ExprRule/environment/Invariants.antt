use Rattle.std.proofs.Common.{◌≡◌, ℕ, List, map, take}
use Rattle.pt_types.specs.Ty.{type_of}
use Rattle.pt_language.specs.Rule.{numbered}
use Rattle.pt_expr_type.specs.TypeEnv.{types_in}
use Rattle.pt_expr_type.proofs.rule.ExprRule.environment.Given as goal

abbrev pub invariant-loop-name : goal.invariant-loop-name
invariant-loop-name l = (name : List ℕ) → types_in l.env name ≡ numbered (take l.name-index l.name-items) (map type_of l.types) name
