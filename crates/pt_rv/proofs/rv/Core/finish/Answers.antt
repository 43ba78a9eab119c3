use Rattle.std.proofs.Common.{[], refl, ap, sym, subst, ◌∙◌}
use Rattle.pt_meaning.specs.Running.{total}
use Rattle.pt_rv_laws.specs.RvActs.{State}
use Rattle.pt_rv.specs.Core.{stage_of}
use Rattle.pt_rv.specs.Ends.{PromisedMore}
use Rattle.pt_rv.specs.Parties.{outputs_of}
use Rattle.pt_rv.proofs.CoreLaws.{closed-free, stage-again}
use Rattle.pt_rv.proofs.CallLaws.{closed-sound, closed-is, kept-same, same-is}
use Rattle.pt_rv.proofs.EndLaws.{promised-none, always-err}
use Rattle.pt_rv.proofs.rv.Core.finish.Goals as goal

pub invariant_of-self : goal.invariant_of-self
invariant_of-self c = record {
  kept = kept-same c.self.inside.plan c.self.inside.parties (record c.self.inside.parties { outlets = c.hand_out.new.outlets }) c.self.inside.met.spare c.self.inside.met.spare c.self.invariant.kept refl refl
      (subst (λ os. PromisedMore (total c.self.inside.plan.plan.net.places) c.self.inside.parties.outlets.items os c.self.inside.met.spare c.self.inside.met.spare []) (sym c.in_err-outputs.ensures.kept) (promised-none (total c.self.inside.plan.plan.net.places) c.self.inside.parties.outlets.items c.self.inside.met.spare));
  stage = stage-again c.self.inside.stage c.self.inside.parties (record c.self.inside.parties { outlets = c.hand_out.new.outlets }) refl c.self.invariant.stage;
}

pub returns-in_err-outputs-clause-kept : goal.returns-in_err-outputs-clause-kept
returns-in_err-outputs-clause-kept c =
    always-err c.from_residual.result
    (same-is c.self.inside.plan c.self.inside.parties c.self.inside.met.list c.self.inside.tag (stage_of c.self.inside.stage) c.args.self.now c.self.view_is (record c.self.inside.parties { outlets = c.hand_out.new.outlets }) c.self.inside.met.list refl refl (ap outputs_of c.in_err-outputs.ensures.kept) refl)

pub returns-clause-core : goal.returns-clause-core
returns-clause-core c = closed-is c.self.inside.plan c.self.inside.parties c.self.inside.met.list c.self.inside.tag (stage_of c.self.inside.stage) c.args.self.now c.self.view_is (record c.self.inside.parties { outlets = c.hand_out.new.outlets }) c.clear.new.self.list refl refl c.in_ok-outputs.ensures.left c.clear.ensures.list

pub returns-clause-given : goal.returns-clause-given
returns-clause-given c = c.in_ok-outputs.ensures.given ∙ ap (λ (s : State). s.outputs) c.self.view_is

pub invariant_of-self-2 : goal.invariant_of-self-2
invariant_of-self-2 c = record {
  kept = closed-sound c.self.inside.plan c.self.inside.parties (record c.self.inside.parties { outlets = c.hand_out.new.outlets }) c.self.inside.met.spare c.clear.new.self.spare c.self.invariant.kept refl refl c.in_ok-outputs.ensures.left c.in_ok-outputs.ensures.rooms c.clear.ensures.spare;
  stage = closed-free c.self.inside.stage c.self.inside.parties (ap (λ (s : State). s.stage) c.self.view_is ∙ c.requires) c.self.invariant.stage;
}
