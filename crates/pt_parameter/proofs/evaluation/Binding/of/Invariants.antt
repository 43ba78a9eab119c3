use Rattle.std.proofs.Common.{take}
use Rattle.pt_expr.specs.Env.{scope_of}
use Rattle.pt_expr_type.specs.TypeEnv.{types_in}
use Rattle.pt_scopes.specs.Names.{seen_scope}
use Rattle.pt_scopes.specs.Binding.{AreBound}
use Rattle.pt_parameter.proofs.evaluation.Binding.of.Given as goal

abbrev pub invariant-loop-name : goal.invariant-loop-name
invariant-loop-name l = AreBound (seen_scope l.seen) (scope_of l.binding.env) (types_in l.binding.types) (take l.name-index l.names)
