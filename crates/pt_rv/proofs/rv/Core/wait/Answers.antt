use Rattle.pt_rv.proofs.rv.Core.wait.Goals as goal

pub invariant_of-self : goal.invariant_of-self
invariant_of-self c = record { kept = c.self.invariant.kept; stage = c.self.invariant.stage }

pub returns : goal.returns
returns c = c.self.view_is
