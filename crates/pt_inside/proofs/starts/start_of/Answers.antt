use Rattle.std.proofs.Common.{sym, ap, ◌∙◌, subst}
use Rattle.pt_meaning.specs.Machine as machine
use Rattle.pt_firing.specs.declared.need.Need.{Need}
use Rattle.pt_firing.specs.Need.{need_of}
use Rattle.pt_process.specs.Process.{IsKept}
use Rattle.pt_inside.proofs.starts.start_of.Goals as goal

pub returns-in-Any : goal.returns-in-Any
returns-in-Any c = absurd (subst (λ (n : machine.Need). IsKept n) (sym c.need.ensures ∙ ap (λ (n : Need). need_of n) c.in-Any.is) c.requires)
