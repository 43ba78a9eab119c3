use Rattle.std.proofs.Common.{ap, ◌∙◌}
use Rattle.pt_datatypes.specs.Normal.{normal}
use Rattle.pt_types.specs.Ty.{type_of}
use Rattle.pt_expr_type.specs.TypeEnv.{types_in}
use Rattle.pt_formula.proofs.TypesBound.{types-bound}
use Rattle.pt_lib_flow.proofs.expression.bind_types.Goals as goal

pub loop-name-preserved : goal.loop-name-preserved
loop-name-preserved c name =
    types-bound c.args.inputs.now c.loop-name.name-index c.loop-name-item.result c.as_str.result.now (type_of c.in_ok-copy.field-0) (types_in c.loop-name.env) (types_in c.bind.new.self) c.loop-name-test.true c.loop-name-item.is c.as_str.ensures (ap normal c.in_ok-copy.ensures) c.in_ok-bind.ensures.ok name ∙ c.loop-name.invariant name
