use Rattle.std.proofs.Common.{◌≡◌, sym, subst}
use Rattle.std.specs.Prelude.{IfOk}
use Rattle.pt_rv_laws.specs.State.{Processes, started}
use Rattle.pt_rv_laws.specs.RvActs.{State}
use Rattle.pt_rv_plan.specs.Plan.{AreSound}
use Rattle.pt_rv.proofs.rv.Core.new.Goals as goal

pub fresh_parties-requires : goal.fresh_parties-requires
fresh_parties-requires c = subst AreSound (sym c.in_ok-plan.ensures) c.requires

pub with-requires : goal.with-requires
with-requires c = record {
  sound = subst AreSound (sym c.in_ok-plan.ensures) c.requires;
  fresh = c.in-Ok.ensures;
}

pub returns-in-Ok : goal.returns-in-Ok
returns-in-Ok c = subst (λ (p : Processes). IfOk c.with.result (λ (core : State). core ≡ started p)) c.in_ok-plan.ensures c.with.ensures
