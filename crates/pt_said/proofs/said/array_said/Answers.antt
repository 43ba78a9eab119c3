use Rattle.std.proofs.Common.{◌≡◌}
use Rattle.std.proofs.lemmas.Result.{IfOk-weaker}
use Rattle.pt_types.specs.declared.ty.Ty.{Ty}
use Rattle.pt_datatypes.specs.Normal.{array_of}
use Rattle.pt_types.specs.Ty.{type_of, written}
use Rattle.pt_said.proofs.SaidTypes.{array_typed}
use Rattle.pt_said.proofs.said.array_said.Goals as goal

pub returns : goal.returns
returns c =
    IfOk-weaker c.array.result (λ (t : Ty). written t ≡ array_of (written c.args.ty)) (λ (t : Ty). type_of t ≡ array_of (type_of c.args.ty)) (λ t e. array_typed t c.args.ty e) c.array.ensures
