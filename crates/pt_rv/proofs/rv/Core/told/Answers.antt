use Rattle.std.proofs.Common.{[], ◌∷◌, length, get_or, ap, sym, subst, ◌∙◌, arith}
use Rattle.pt_firing.specs.Need.{need_of}
use Rattle.pt_puts.specs.Puts.{puts_in}
use Rattle.pt_rv_laws.specs.State.{asked_process}
use Rattle.pt_rv_laws.specs.Lawful.{HasPlaces}
use Rattle.pt_rv_laws.specs.RvActs.{State}
use Rattle.pt_rv.specs.Core.{stage_of}
use Rattle.pt_rv.specs.Ends.{PromisedMore}
use Rattle.pt_rv.specs.Parties.{inputs_of}
use Rattle.pt_rv.proofs.CoreLaws.{asked-alone, stage-again}
use Rattle.pt_rv.proofs.CallLaws.{kept-same, same-is, told-sound, told-is}
use Rattle.pt_rv.proofs.EndLaws.{always-err}
use Rattle.pt_rv.proofs.rv.Core.told.Goals as goal

pub places_of-requires : goal.places_of-requires
places_of-requires c =
    let a = (asked-alone c.self.inside.stage c.self.inside.parties c.args.process (ap (λ (s : State). asked_process s.stage) c.self.view_is ∙ c.requires.asked) c.self.invariant.stage).there in
    let h = c.self.invariant.kept.fit.there in
    let e = ap (λ (s : State). length s.processes.plan.net.places) c.self.view_is in
    omega (arith, a, h, e)

pub stage_outputs-requires : goal.stage_outputs-requires
stage_outputs-requires c = let a = (asked-alone c.self.inside.stage c.self.inside.parties c.args.process (ap (λ (s : State). asked_process s.stage) c.self.view_is ∙ c.requires.asked) c.self.invariant.stage).there in let h = c.self.invariant.kept.fit.there in omega (arith, a, h)

pub tell-requires : goal.tell-requires
tell-requires c =
    let a = (asked-alone c.self.inside.stage c.self.inside.parties c.args.process (ap (λ (s : State). asked_process s.stage) c.self.view_is ∙ c.requires.asked) c.self.invariant.stage) in
    record {
      there = a.there;
      handed = a.handed;
      places = subst (λ n. HasPlaces n (need_of c.args.need)) (sym (c.self.invariant.kept.fit.placed c.args.process a.there)) (subst (λ n. HasPlaces n (need_of c.args.need)) (c.places_of.ensures ∙ sym (ap (λ (s : State). get_or s.processes.plan.net.places c.args.process 0) c.self.view_is)) (c.fits.ensures c.if-not-fits.false));
    }

pub invariant_of-self-in_err-tell : goal.invariant_of-self-in_err-tell
invariant_of-self-in_err-tell c = record {
  kept = kept-same c.self.inside.plan c.self.inside.parties c.tell.new.parties c.self.inside.met.spare c.tell.new.met.spare c.self.invariant.kept c.in_err-tell.ensures.kept (ap inputs_of c.in_err-tell.ensures.inlets) (subst (λ n. PromisedMore n c.self.inside.parties.outlets.items c.tell.new.parties.outlets.items c.self.inside.met.spare c.tell.new.met.spare []) c.inner-inner.ensures c.in_err-tell.ensures.room);
  stage = stage-again c.self.inside.stage c.self.inside.parties c.tell.new.parties c.in_err-tell.ensures.kept c.self.invariant.stage;
}

pub returns-in_err-tell-clause-kept : goal.returns-in_err-tell-clause-kept
returns-in_err-tell-clause-kept c =
    always-err c.from_residual-in_err-tell.result
    (same-is c.self.inside.plan c.self.inside.parties c.self.inside.met.list c.self.inside.tag (stage_of c.self.inside.stage) c.args.self.now c.self.view_is c.tell.new.parties c.tell.new.met.list c.in_err-tell.ensures.kept (ap inputs_of c.in_err-tell.ensures.inlets) c.in_err-tell.ensures.outputs c.in_err-tell.ensures.met)

pub returns-clause-told : goal.returns-clause-told
returns-clause-told c = told-is c.self.inside.plan c.self.inside.parties c.self.inside.met.list c.self.inside.tag (stage_of c.self.inside.stage) c.args.self.now c.self.view_is c.args.process c.args.outputs (need_of c.args.need) (puts_in c.stage_outputs.new.staged.items) c.tell.new.parties c.tell.new.met.list c.in_ok-stage_outputs.ensures c.in_ok-tell.ensures.told (ap inputs_of c.in_ok-tell.ensures.inlets) c.in_ok-tell.ensures.outputs c.in_ok-tell.ensures.met

pub invariant_of-self-2 : goal.invariant_of-self-2
invariant_of-self-2 c =
    let r = told-sound c.self.inside.plan c.self.inside.parties c.tell.new.parties c.args.process (need_of c.args.need) (puts_in c.stage_outputs.new.staged.items) c.self.inside.met.spare c.tell.new.met.spare c.self.invariant.kept (asked-alone c.self.inside.stage c.self.inside.parties c.args.process (ap (λ (s : State). asked_process s.stage) c.self.view_is ∙ c.requires.asked) c.self.invariant.stage) (subst (λ n. HasPlaces n (need_of c.args.need)) (c.places_of.ensures ∙ sym (ap (λ (s : State). get_or s.processes.plan.net.places c.args.process 0) c.self.view_is)) (c.fits.ensures c.if-not-fits.false))
    c.in_ok-tell.ensures.told (ap inputs_of c.in_ok-tell.ensures.inlets) (subst (λ n. PromisedMore n c.self.inside.parties.outlets.items c.tell.new.parties.outlets.items c.self.inside.met.spare c.tell.new.met.spare (puts_in c.stage_outputs.new.staged.items ∷ [])) c.inner-inner.ensures c.in_ok-tell.ensures.more) in
    record { kept = r.0; stage = r.1 }
