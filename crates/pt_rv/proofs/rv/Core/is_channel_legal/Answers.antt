use Rattle.std.proofs.Common.{length, ap, sym, ◌∙◌, arith}
use Rattle.pt_rv_laws.specs.RvActs.{State}
use Rattle.pt_rv_work.specs.Core.{state_with}
use Rattle.pt_rv.specs.Core.{stage_of}
use Rattle.pt_rv.specs.Parties.{moving_in}
use Rattle.pt_rv.proofs.CoreLaws.{open-free, sound-again, channel-passes, channel-stays}
use Rattle.pt_rv.proofs.rv.Core.is_channel_legal.Goals as goal

pub can_pass-requires : goal.can_pass-requires
can_pass-requires c = record {
  sound = c.self.invariant.kept.sound;
  fit = c.self.invariant.kept.fit;
  free = (open-free c.self.inside.stage c.self.inside.parties (ap (λ (s : State). s.stage) c.self.view_is ∙ c.requires.running) c.self.invariant.stage);
  there = let e = ap (λ (s : State). length s.processes.plan.net.sources) c.self.view_is in omega (arith, e, c.requires.there);
}

pub invariant_of-self : goal.invariant_of-self
invariant_of-self c =
    let r = sound-again c.self.inside.plan c.self.inside.parties c.can_pass.new.parties c.self.inside.met.spare c.self.inside.stage c.can_pass.ensures.same c.self.invariant.kept c.self.invariant.stage in
    record { kept = r.0; stage = r.1 }

pub returns-clause-same : goal.returns-clause-same
returns-clause-same c = ap (λ w. state_with c.self.inside.plan (moving_in w) c.self.inside.met.list c.self.inside.tag (stage_of c.self.inside.stage)) c.can_pass.ensures.same ∙ c.self.view_is

pub returns-clause-legal : goal.returns-clause-legal
returns-clause-legal c = λ h. channel-passes c.self.inside.plan c.self.inside.parties c.self.inside.met.list c.self.inside.tag (stage_of c.self.inside.stage) c.args.self.now c.self.view_is c.self.invariant.kept.fit c.args.channel (sym c.can_pass.ensures.passes ∙ h)

pub returns-clause-illegal : goal.returns-clause-illegal
returns-clause-illegal c = λ h. channel-stays c.self.inside.plan c.self.inside.parties c.self.inside.met.list c.self.inside.tag (stage_of c.self.inside.stage) c.args.self.now c.self.view_is c.self.invariant.kept.fit c.args.channel (sym c.can_pass.ensures.passes ∙ h)
