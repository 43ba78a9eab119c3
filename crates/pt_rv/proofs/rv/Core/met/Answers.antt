use Rattle.std.proofs.Common.{ap, ◌∙◌}
use Rattle.pt_rv_laws.specs.RvActs.{State}
use Rattle.pt_rv.proofs.rv.Core.met.Goals as goal

pub returns : goal.returns
returns c = c.as_slice.ensures ∙ ap (λ (s : State). s.met) c.self.view_is
