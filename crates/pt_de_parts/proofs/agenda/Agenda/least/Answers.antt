use Rattle.std.proofs.Common.{ap, ◌∙◌}
use Rattle.pt_meaning.specs.Tag.{least}
use Rattle.pt_de_parts.specs.Agenda.{Dates}
use Rattle.pt_de_parts.proofs.agenda.Agenda.least.Goals as goal

pub returns : goal.returns
returns c = c.least.ensures ∙ ap (λ (n : Dates). least n.wakes) c.self.view_is
