use Rattle.std.proofs.Common.{length, ap, ◌∙◌, arith}
use Rattle.pt_rv_laws.specs.RvActs.{State}
use Rattle.pt_rv.specs.Core.{stage_of}
use Rattle.pt_rv.proofs.CoreLaws.{open-free, free-open, legal-joins, barrier-made}
use Rattle.pt_rv.proofs.rv.Core.meet_barrier.Goals as goal

pub pass_all-requires : goal.pass_all-requires
pass_all-requires c = record {
  sound = c.self.invariant.kept.sound;
  fit = c.self.invariant.kept.fit;
  free = (open-free c.self.inside.stage c.self.inside.parties (ap (λ (s : State). s.stage) c.self.view_is ∙ c.requires.running) c.self.invariant.stage);
  level = c.self.invariant.kept.level;
  joins = legal-joins c.self.inside.plan c.self.inside.parties c.self.inside.met.list c.self.inside.tag (stage_of c.self.inside.stage) c.args.self.now c.self.view_is c.self.invariant.kept.fit c.args.barrier (let e = ap (λ (s : State). length s.processes.plan.net.places) c.self.view_is in omega (arith, e, c.requires.there)) c.requires.legal;
}

pub note-requires : goal.note-requires
note-requires c = let a = c.pass_all.ensures.fewer in let b = c.self.invariant.kept.meets in omega (arith, a, b)

pub invariant_of-self : goal.invariant_of-self
invariant_of-self c = record {
  kept = record {
    sound = c.self.invariant.kept.sound;
    fit = c.pass_all.ensures.fit;
    level = c.pass_all.ensures.level;
    meets = let a = c.pass_all.ensures.fewer in let b = c.self.invariant.kept.meets in let d = c.note.ensures.spare in omega (arith, a, b, d);
  };
  stage = free-open c.self.inside.stage c.pass_all.new.parties (ap (λ (s : State). s.stage) c.self.view_is ∙ c.requires.running) c.pass_all.ensures.free;
}

pub returns : goal.returns
returns c = barrier-made c.self.inside.plan c.self.inside.parties c.self.inside.met.list c.self.inside.tag (stage_of c.self.inside.stage) c.args.self.now c.self.view_is c.self.invariant.kept.fit c.args.barrier c.pass_all.new.parties c.note.new.self.list c.requires.running c.requires.rests c.requires.legal c.pass_all.ensures.moved c.note.ensures.list
