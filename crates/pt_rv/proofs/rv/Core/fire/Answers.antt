use Rattle.std.proofs.Common.{ap, ◌∙◌, arith}
use Rattle.pt_rv_laws.specs.RvActs.{State}
use Rattle.pt_rv.specs.Core.{stage_of}
use Rattle.pt_rv.specs.Parties.{each}
use Rattle.pt_rv.proofs.CoreLaws.{open-free, fires-in, fires-next, change-fit, hand-level, hand-waits, hand-alone, fire-made}
use Rattle.pt_rv.proofs.rv.Core.fire.Goals as goal

pub hand-requires : goal.hand-requires
hand-requires c = record {
  there = fires-in c.self.inside.plan c.self.inside.parties c.self.inside.met.list c.self.inside.tag (stage_of c.self.inside.stage) c.args.self.now c.self.view_is c.self.invariant.kept.fit c.args.process c.requires.may;
  gathers = (open-free c.self.inside.stage c.self.inside.parties (ap (λ (s : State). s.stage) c.self.view_is ∙ c.requires.running) c.self.invariant.stage) c.args.process;
}

pub invariant_of-self : goal.invariant_of-self
invariant_of-self c = record {
  kept = record {
    sound = c.self.invariant.kept.sound;
    fit = change-fit c.self.inside.plan c.self.inside.parties.team c.hand.new.self c.self.inside.parties.inlets.items c.self.inside.parties.outlets.items c.args.process c.hand.ensures c.self.invariant.kept.fit;
    level = hand-level c.self.inside.parties.team c.hand.new.self c.args.process c.hand.ensures c.self.invariant.kept.level;
    meets = let a = hand-waits c.self.inside.parties.team c.hand.new.self c.self.inside.parties.inlets.items c.self.inside.parties.outlets.items c.args.process each c.hand.ensures in let b = c.self.invariant.kept.meets in omega (arith, a, b);
  };
  stage = hand-alone c.self.inside.parties (record c.self.inside.parties { team = c.hand.new.self }) c.args.process c.hand.ensures (open-free c.self.inside.stage c.self.inside.parties (ap (λ (s : State). s.stage) c.self.view_is ∙ c.requires.running) c.self.invariant.stage) (fires-in c.self.inside.plan c.self.inside.parties c.self.inside.met.list c.self.inside.tag (stage_of c.self.inside.stage) c.args.self.now c.self.view_is c.self.invariant.kept.fit c.args.process c.requires.may) (fires-next c.self.inside.plan c.self.inside.parties c.self.inside.met.list c.self.inside.tag (stage_of c.self.inside.stage) c.args.self.now c.self.view_is c.self.invariant.kept.fit c.args.process c.requires.may);
}

pub returns : goal.returns
returns c = fire-made c.self.inside.plan c.self.inside.parties c.self.inside.met.list c.self.inside.tag (stage_of c.self.inside.stage) c.args.self.now c.self.view_is c.self.invariant.kept.fit c.args.process c.hand.new.self c.requires.running c.requires.may c.hand.ensures
