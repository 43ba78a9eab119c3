use Rattle.std.proofs.Common.{◌+◌, length, ap, sym, subst, ◌∙◌}
use Rattle.pt_meaning.specs.Running.{total}
use Rattle.pt_rv_laws.specs.RvActs.{State}
use Rattle.pt_rv_parts.specs.Team.{NoneHanded}
use Rattle.pt_rv.specs.Core.{stage_of}
use Rattle.pt_rv.specs.Ends.{PromisedMore, comings_of}
use Rattle.pt_rv.specs.Parties.{weights_of}
use Rattle.pt_rv.proofs.CoreLaws.{idle-free, stage-again}
use Rattle.pt_rv.proofs.CallLaws.{kept-same, kept-arrived, begun-is, same-is}
use Rattle.pt_rv.proofs.EndLaws.{inputs-long, arrived-so, arrived-long, always-err}
use Rattle.pt_rv.proofs.WeightLaws.{weights-arrived}
use Rattle.pt_rv.proofs.rv.Core.begin.Goals as goal

pub invariant_of-self : goal.invariant_of-self
invariant_of-self c = record {
  kept = kept-same c.self.inside.plan c.self.inside.parties c.stage_arrivals.new.parties c.self.inside.met.spare c.stage_arrivals.new.met.spare c.self.invariant.kept c.in_err-stage_arrivals.ensures.team c.in_err-stage_arrivals.ensures.inputs c.in_err-stage_arrivals.ensures.kept;
  stage = stage-again c.self.inside.stage c.self.inside.parties c.stage_arrivals.new.parties c.in_err-stage_arrivals.ensures.team c.self.invariant.stage;
}

pub returns-in_err-stage_arrivals-clause-kept : goal.returns-in_err-stage_arrivals-clause-kept
returns-in_err-stage_arrivals-clause-kept c =
    always-err c.from_residual.result
    (same-is c.self.inside.plan c.self.inside.parties c.self.inside.met.list c.self.inside.tag (stage_of c.self.inside.stage) c.args.self.now c.self.view_is c.stage_arrivals.new.parties c.stage_arrivals.new.met.list c.in_err-stage_arrivals.ensures.team c.in_err-stage_arrivals.ensures.inputs c.in_err-stage_arrivals.ensures.outputs c.in_err-stage_arrivals.ensures.met)

pub returns-clause-begun : goal.returns-clause-begun
returns-clause-begun c =
    begun-is c.self.inside.plan c.self.inside.parties c.self.inside.met.list c.self.inside.tag (stage_of c.self.inside.stage) c.args.self.now c.self.view_is c.args.tag c.args.inputs.now (record c.stage_arrivals.new.parties { inlets = c.arrive_all.new.inlets }) c.clear.new.self.list c.in_ok-stage_arrivals.ensures.team
    (c.arrive_all.ensures ∙ arrived-so c.self.inside.plan.plan.net.sources c.args.inputs.now c.self.inside.parties.inlets.items c.stage_arrivals.new.parties.inlets.items c.in_ok-stage_arrivals.ensures.inputs c.in_ok-stage_arrivals.ensures.coming) c.in_ok-stage_arrivals.ensures.outputs c.clear.ensures.list

pub invariant_of-self-2 : goal.invariant_of-self-2
invariant_of-self-2 c = record {
  kept =
      kept-arrived c.self.inside.plan c.self.inside.parties (record c.stage_arrivals.new.parties { inlets = c.arrive_all.new.inlets }) c.self.inside.met.spare c.clear.new.self.spare (comings_of c.stage_arrivals.new.parties.inlets.items) c.self.invariant.kept c.in_ok-stage_arrivals.ensures.team
      (λ f. ap (λ v. weights_of f v) c.arrive_all.ensures ∙ weights-arrived f c.stage_arrivals.new.parties.inlets.items ∙ ap (λ v. weights_of f v + weights_of f (comings_of c.stage_arrivals.new.parties.inlets.items)) c.in_ok-stage_arrivals.ensures.inputs)
      (sym (inputs-long c.arrive_all.new.inlets.items) ∙ ap (λ v. length v) c.arrive_all.ensures ∙ arrived-long c.stage_arrivals.new.parties.inlets.items ∙ sym (inputs-long c.stage_arrivals.new.parties.inlets.items) ∙ ap (λ v. length v) c.in_ok-stage_arrivals.ensures.inputs ∙ inputs-long c.self.inside.parties.inlets.items)
      (subst (λ b. PromisedMore (total c.self.inside.plan.plan.net.places) c.self.inside.parties.outlets.items c.stage_arrivals.new.parties.outlets.items c.self.inside.met.spare b (comings_of c.stage_arrivals.new.parties.inlets.items)) (sym c.clear.ensures.spare) c.in_ok-stage_arrivals.ensures.more);
  stage = subst NoneHanded (sym c.in_ok-stage_arrivals.ensures.team) (idle-free c.self.inside.stage c.self.inside.parties (ap (λ (s : State). s.stage) c.self.view_is ∙ c.requires.idle) c.self.invariant.stage);
}
