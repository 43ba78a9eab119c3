use Rattle.std.proofs.Common.{ap, ◌∙◌}
use Rattle.pt_puts.specs.Fans.{fan_at, fans_in}
use Rattle.pt_rv_plan.proofs.PlanLaws.{own-fan-is}
use Rattle.pt_rv_plan.proofs.rv_plan.Plan.own_fan.Goals as goal

pub returns : goal.returns
returns c = own-fan-is c.self.inside c.args.self.now c.self.invariant c.self.view_is c.len.result c.args.port c.read_fan.result.now c.len.ensures (c.read_fan.ensures ∙ ap (λ v. fan_at (fans_in v) c.len.result c.args.port) c.deref.ensures.value)
