use Rattle.std.proofs.Common.{length, ap, sym, ◌∙◌, arith}
use Rattle.pt_rv_laws.specs.RvActs.{State}
use Rattle.pt_rv_work.specs.Core.{state_with}
use Rattle.pt_rv.specs.Core.{stage_of}
use Rattle.pt_rv.specs.Parties.{moving_in}
use Rattle.pt_rv.proofs.CoreLaws.{open-free, sound-again, barrier-joins, barrier-waits}
use Rattle.pt_rv.proofs.rv.Core.is_barrier_legal.Goals as goal

pub can_join-requires : goal.can_join-requires
can_join-requires c = record {
  sound = c.self.invariant.kept.sound;
  fit = c.self.invariant.kept.fit;
  free = (open-free c.self.inside.stage c.self.inside.parties (ap (λ (s : State). s.stage) c.self.view_is ∙ c.requires.running) c.self.invariant.stage);
  there = let e = ap (λ (s : State). length s.processes.plan.net.places) c.self.view_is in omega (arith, e, c.requires.there);
}

pub invariant_of-self : goal.invariant_of-self
invariant_of-self c =
    let r = sound-again c.self.inside.plan c.self.inside.parties c.can_join.new.parties c.self.inside.met.spare c.self.inside.stage c.can_join.ensures.same c.self.invariant.kept c.self.invariant.stage in
    record { kept = r.0; stage = r.1 }

pub returns-clause-same : goal.returns-clause-same
returns-clause-same c = ap (λ w. state_with c.self.inside.plan (moving_in w) c.self.inside.met.list c.self.inside.tag (stage_of c.self.inside.stage)) c.can_join.ensures.same ∙ c.self.view_is

pub returns-clause-legal : goal.returns-clause-legal
returns-clause-legal c = λ h. barrier-joins c.self.inside.plan c.self.inside.parties c.self.inside.met.list c.self.inside.tag (stage_of c.self.inside.stage) c.args.self.now c.self.view_is c.self.invariant.kept.fit c.args.barrier (sym c.can_join.ensures.joins ∙ h)

pub returns-clause-illegal : goal.returns-clause-illegal
returns-clause-illegal c = λ h. barrier-waits c.self.inside.plan c.self.inside.parties c.self.inside.met.list c.self.inside.tag (stage_of c.self.inside.stage) c.args.self.now c.self.view_is c.self.invariant.kept.fit c.args.barrier (sym c.can_join.ensures.joins ∙ h)
