use Rattle.std.proofs.Common.{ap, ◌∙◌, replicate}
use Rattle.pt_value.specs.declared.token.Token.{Token}
use Rattle.pt_sr.specs.State.{TickState}
use Rattle.pt_sr.proofs.tick.Tick.takes.Goals as goal

pub returns : goal.returns
returns c = c.self.invariant.lawful.ones ∙ ap (λ (t : TickState Token). replicate t.plan.inputs 1) c.self.view_is
