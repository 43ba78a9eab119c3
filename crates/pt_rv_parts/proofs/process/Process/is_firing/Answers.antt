use Rattle.std.proofs.Common.{ap, not, ◌∙◌, sym}
use Rattle.pt_rv_parts.proofs.StepLaws.{rests-by}
use Rattle.pt_rv_parts.proofs.process.Process.is_firing.Goals as goal

pub returns-clause-rests : goal.returns-clause-rests
returns-clause-rests c = rests-by c.args.self.now c.next-event.result c.next-event.ensures.next ∙ ap (λ b. not b) (sym c.is_fire.ensures)
