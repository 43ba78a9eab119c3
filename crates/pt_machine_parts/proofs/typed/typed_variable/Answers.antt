use Rattle.std.proofs.Common.{ap, ◌∙◌}
use Rattle.pt_value.specs.Token.{value_of}
use Rattle.pt_datatypes.specs.Normal.{normal}
use Rattle.pt_types.proofs.TokenTypes.{value-is_type}
use Rattle.pt_machine_parts.proofs.typed.typed_variable.Goals as goal

pub returns : goal.returns
returns c = λ j. ((c.in_ok-name.ensures ∙ c.name_of.ensures) j, (ap normal c.in_ok-ty.ensures ∙ value-is_type (value_of c.args.value.now)) j)
