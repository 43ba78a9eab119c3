use Rattle.std.proofs.Common.{length, ap, ◌∙◌, sym}
use Rattle.pt_firing.proofs.InARow.{firings-long}
use Rattle.pt_firing.proofs.int_rows.IntRows.firings.Goals as goal

pub returns : goal.returns
returns c = sym (ap (λ v. length v) (sym c.self.view_is) ∙ firings-long c.self.inside.need c.self.inside.firings c.self.inside.numbers.now)
