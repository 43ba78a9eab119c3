use Rattle.std.proofs.Common.{subst}
use Rattle.pt_puts.specs.Puts.{PutsFirst}
use Rattle.pt_rv_plan.specs.Ends.{Arriving}
use Rattle.pt_rv_plan.proofs.inlet.Inlet.next_put.Goals as goal

pub returns : goal.returns
returns c = subst (λ (a : Arriving). PutsFirst a.puts c.first_put.result) c.self.view_is c.first_put.ensures
