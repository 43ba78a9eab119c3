use Rattle.std.proofs.Common.{ap, ◌∙◌}
use Rattle.pt_puts.specs.Fans.{fan_at, fans_in}
use Rattle.pt_rv_plan.proofs.PlanLaws.{fan-is}
use Rattle.pt_rv_plan.proofs.rv_plan.Plan.fan.Goals as goal

pub returns : goal.returns
returns c = fan-is c.self.inside c.args.self.now c.self.invariant c.self.view_is c.args.process c.args.port c.read_fan.result.now c.requires (c.read_fan.ensures ∙ ap (λ v. fan_at (fans_in v) c.args.process c.args.port) c.deref.ensures.value)
