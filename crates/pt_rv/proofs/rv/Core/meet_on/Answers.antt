use Rattle.std.proofs.Common.{length, ap, ◌∙◌, arith}
use Rattle.pt_rv_laws.specs.RvActs.{State}
use Rattle.pt_rv_work.specs.Core.{gets_there}
use Rattle.pt_rv_plan.specs.Plan.{target_of}
use Rattle.pt_rv.specs.Core.{stage_of}
use Rattle.pt_rv.specs.Parties.{moving_in}
use Rattle.pt_rv.proofs.BarrierLaws.{level-passed}
use Rattle.pt_rv.proofs.CoreLaws.{open-free, free-open, legal-offered, legal-received, may-receive, place-gets, channel-made}
use Rattle.pt_rv.proofs.rv.Core.meet_on.Goals as goal

pub target-target-requires : goal.target-target-requires
target-target-requires c = let e = ap (λ (s : State). length s.processes.plan.net.sources) c.self.view_is in omega (arith, e, c.requires.there)

pub source-source-requires : goal.source-source-requires
source-source-requires c = let e = ap (λ (s : State). length s.processes.plan.net.sources) c.self.view_is in omega (arith, e, c.requires.there)

pub pass-requires : goal.pass-requires
pass-requires c = record {
  sound = c.self.invariant.kept.sound;
  fit = c.self.invariant.kept.fit;
  free = (open-free c.self.inside.stage c.self.inside.parties (ap (λ (s : State). s.stage) c.self.view_is ∙ c.requires.running) c.self.invariant.stage);
  ends = c.target-target.ensures;
  offered = legal-offered c.self.inside.plan c.self.inside.parties c.self.inside.met.list c.self.inside.tag (stage_of c.self.inside.stage) c.args.self.now c.self.view_is c.self.invariant.kept.fit c.args.channel c.requires.legal;
  receives = may-receive c.self.inside.plan c.self.inside.parties c.self.inside.met.list c.self.inside.tag (stage_of c.self.inside.stage) c.args.self.now c.self.view_is c.self.invariant.kept.fit c.args.channel (target_of c.target-target.result) (open-free c.self.inside.stage c.self.inside.parties (ap (λ (s : State). s.stage) c.self.view_is ∙ c.requires.running) c.self.invariant.stage) c.target-target.ensures (ap (λ t. gets_there (moving_in c.self.inside.parties) t) c.target-target.ensures ∙ legal-received c.self.inside.plan c.self.inside.parties c.self.inside.met.list c.self.inside.tag (stage_of c.self.inside.stage) c.args.self.now c.self.view_is c.self.invariant.kept.fit c.args.channel c.requires.legal);
}

pub note-requires : goal.note-requires
note-requires c = let a = c.pass.ensures.fewer in let b = c.self.invariant.kept.meets in omega (arith, a, b)

pub invariant_of-self : goal.invariant_of-self
invariant_of-self c =
    let o = legal-offered c.self.inside.plan c.self.inside.parties c.self.inside.met.list c.self.inside.tag (stage_of c.self.inside.stage) c.args.self.now c.self.view_is c.self.invariant.kept.fit c.args.channel c.requires.legal in
    record {
      kept = record {
        sound = c.self.invariant.kept.sound;
        fit = c.pass.ensures.fit;
        level = level-passed c.self.inside.plan.plan.net c.args.channel (target_of c.target-target.result) o.0 (moving_in c.self.inside.parties) (moving_in c.pass.new.parties) (c.pass.ensures.moved o.0 o.1) c.self.invariant.kept.level
            (place-gets c.self.inside.plan c.self.inside.parties c.self.inside.met.list c.self.inside.tag (stage_of c.self.inside.stage) c.args.self.now c.self.view_is c.self.invariant.kept.fit c.args.channel (target_of c.target-target.result) (open-free c.self.inside.stage c.self.inside.parties (ap (λ (s : State). s.stage) c.self.view_is ∙ c.requires.running) c.self.invariant.stage) c.target-target.ensures (ap (λ t. gets_there (moving_in c.self.inside.parties) t) c.target-target.ensures ∙ legal-received c.self.inside.plan c.self.inside.parties c.self.inside.met.list c.self.inside.tag (stage_of c.self.inside.stage) c.args.self.now c.self.view_is c.self.invariant.kept.fit c.args.channel c.requires.legal));
        meets = let a = c.pass.ensures.fewer in let b = c.self.invariant.kept.meets in let d = c.note.ensures.spare in omega (arith, a, b, d);
      };
      stage = free-open c.self.inside.stage c.pass.new.parties (ap (λ (s : State). s.stage) c.self.view_is ∙ c.requires.running) c.pass.ensures.free;
    }

pub returns : goal.returns
returns c =
    let o = legal-offered c.self.inside.plan c.self.inside.parties c.self.inside.met.list c.self.inside.tag (stage_of c.self.inside.stage) c.args.self.now c.self.view_is c.self.invariant.kept.fit c.args.channel c.requires.legal in
    channel-made c.self.inside.plan c.self.inside.parties c.self.inside.met.list c.self.inside.tag (stage_of c.self.inside.stage) c.args.self.now c.self.view_is c.self.invariant.kept.fit c.args.channel (target_of c.target-target.result) o.0 c.pass.new.parties c.note.new.self.list c.requires.running c.requires.rests c.requires.legal c.target-target.ensures o.1 (c.pass.ensures.moved o.0 o.1) c.note.ensures.list
