use Rattle.std.proofs.Common.{◌∙◌}
use Rattle.std.proofs.lemmas.Result.{IfOk-weaker}
use Rattle.pt_builder.proofs.MachineLaws.{machine-is}
use Rattle.pt_builder.proofs.builder.Builder.machine_at.Goals as goal

pub returns : goal.returns
returns c = IfOk-weaker c.machine_at.result _ _ (λ machine is. is ∙ machine-is c.args.self.now.machines.now c.args.k) c.machine_at.ensures
