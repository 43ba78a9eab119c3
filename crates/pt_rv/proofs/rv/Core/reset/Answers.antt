use Rattle.std.proofs.Common.{subst}
use Rattle.pt_rv_laws.specs.RvActs.{State}
use Rattle.pt_rv.specs.Fresh.{IsFresh}
use Rattle.pt_rv.proofs.rv.Core.reset.Goals as goal

pub fresh_parties-requires : goal.fresh_parties-requires
fresh_parties-requires c = c.self.invariant.kept.sound

pub restart-requires : goal.restart-requires
restart-requires c = subst (λ (s : State). IsFresh s.processes c.in_ok-parties.parties) c.self.view_is c.in_ok-parties.ensures
