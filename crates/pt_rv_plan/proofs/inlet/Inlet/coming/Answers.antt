use Rattle.std.proofs.Common.{ap}
use Rattle.pt_rv_plan.specs.Ends.{Arriving}
use Rattle.pt_rv_plan.proofs.inlet.Inlet.coming.Goals as goal

pub returns : goal.returns
returns c = ap (λ (a : Arriving). a.coming) c.self.view_is
