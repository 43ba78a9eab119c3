use Rattle.std.proofs.Common.{ap, ◌∙◌}
use Rattle.pt_rv_laws.specs.State.{Closed, in_stage}
use Rattle.pt_rv_laws.specs.RvActs.{State}
use Rattle.pt_rv.proofs.CoreLaws.{open-free}
use Rattle.pt_rv.proofs.rv.Core.end.Goals as goal

pub invariant_of-self : goal.invariant_of-self
invariant_of-self c = record { kept = c.self.invariant.kept; stage = (open-free c.self.inside.stage c.self.inside.parties (ap (λ (s : State). s.stage) c.self.view_is ∙ c.requires.running) c.self.invariant.stage) }

pub returns : goal.returns
returns c = ((c.requires.running, c.requires.over), ap (λ (s : State). in_stage Closed s) c.self.view_is)
