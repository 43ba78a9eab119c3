use Rattle.std.proofs.Common.{w64, [], ◌∷◌, length, get_or, ap, sym, subst, ◌∙◌, arith}
use Rattle.std.proofs.lemmas.Int.{to_z-of_z}
use Rattle.pt_meaning.specs.Process.{puts_of}
use Rattle.pt_value.specs.declared.token.Token.TheVariants.{Int}
use Rattle.pt_firing.specs.Need.{need_of}
use Rattle.pt_rv_laws.specs.State.{asked_process}
use Rattle.pt_rv_laws.specs.Lawful.{HasPlaces}
use Rattle.pt_rv_laws.specs.RvActs.{State}
use Rattle.pt_rv.specs.Core.{stage_of}
use Rattle.pt_rv.specs.Parties.{inputs_of}
use Rattle.pt_rv.proofs.CoreLaws.{asked-alone, stage-again}
use Rattle.pt_rv.proofs.CallLaws.{kept-same, same-is, alone-puts, told-sound, told-is}
use Rattle.pt_rv.proofs.EndLaws.{always-err}
use Rattle.pt_rv.proofs.rv.Core.told_number.Goals as goal

pub places_of-requires : goal.places_of-requires
places_of-requires c =
    let a = (asked-alone c.self.inside.stage c.self.inside.parties c.args.process (ap (λ (s : State). asked_process s.stage) c.self.view_is ∙ c.requires.asked) c.self.invariant.stage).there in
    let h = c.self.invariant.kept.fit.there in
    let e = ap (λ (s : State). length s.processes.plan.net.places) c.self.view_is in
    omega (arith, a, h, e)

pub tell_number-requires : goal.tell_number-requires
tell_number-requires c =
    let a = (asked-alone c.self.inside.stage c.self.inside.parties c.args.process (ap (λ (s : State). asked_process s.stage) c.self.view_is ∙ c.requires.asked) c.self.invariant.stage) in
    let h = c.self.invariant.kept.fit.there in
    record {
      planned = let l = a.there in omega (arith, l, h);
      there = a.there;
      handed = a.handed;
      none = alone-puts c.self.inside.parties c.args.process a;
      places = subst (λ n. HasPlaces n (need_of c.args.need)) (sym (c.self.invariant.kept.fit.placed c.args.process a.there)) (subst (λ n. HasPlaces n (need_of c.args.need)) (c.places_of.ensures ∙ sym (ap (λ (s : State). get_or s.processes.plan.net.places c.args.process 0) c.self.view_is)) (c.fits.ensures c.if-not-fits.false));
    }

pub invariant_of-self : goal.invariant_of-self
invariant_of-self c = record {
  kept = kept-same c.self.inside.plan c.self.inside.parties c.tell_number.new.parties c.self.inside.met.spare c.tell_number.new.met.spare c.self.invariant.kept c.in_err-tell_number.ensures.kept (ap inputs_of c.in_err-tell_number.ensures.inlets) c.in_err-tell_number.ensures.room;
  stage = stage-again c.self.inside.stage c.self.inside.parties c.tell_number.new.parties c.in_err-tell_number.ensures.kept c.self.invariant.stage;
}

pub returns-in_err-tell_number-clause-kept : goal.returns-in_err-tell_number-clause-kept
returns-in_err-tell_number-clause-kept c =
    always-err c.from_residual.result
    (same-is c.self.inside.plan c.self.inside.parties c.self.inside.met.list c.self.inside.tag (stage_of c.self.inside.stage) c.args.self.now c.self.view_is c.tell_number.new.parties c.tell_number.new.met.list c.in_err-tell_number.ensures.kept (ap inputs_of c.in_err-tell_number.ensures.inlets) c.in_err-tell_number.ensures.outputs c.in_err-tell_number.ensures.met)

pub returns-clause-told : goal.returns-clause-told
returns-clause-told c =
    told-is c.self.inside.plan c.self.inside.parties c.self.inside.met.list c.self.inside.tag (stage_of c.self.inside.stage) c.args.self.now c.self.view_is c.args.process ((Int c.args.number ∷ []) ∷ []) (need_of c.args.need) _ c.tell_number.new.parties c.tell_number.new.met.list
    (ap (λ z. puts_of c.self.inside.plan.plan.net.sources c.args.process 0 ((Int z ∷ []) ∷ [])) (to_z-of_z w64 c.args.number c.ranges.number)) c.in_ok-tell_number.ensures.told (ap inputs_of c.in_ok-tell_number.ensures.inlets) c.in_ok-tell_number.ensures.outputs c.in_ok-tell_number.ensures.met

pub invariant_of-self-2 : goal.invariant_of-self-2
invariant_of-self-2 c =
    let r = told-sound c.self.inside.plan c.self.inside.parties c.tell_number.new.parties c.args.process (need_of c.args.need) _ c.self.inside.met.spare c.tell_number.new.met.spare c.self.invariant.kept (asked-alone c.self.inside.stage c.self.inside.parties c.args.process (ap (λ (s : State). asked_process s.stage) c.self.view_is ∙ c.requires.asked) c.self.invariant.stage)
    (subst (λ n. HasPlaces n (need_of c.args.need)) (c.places_of.ensures ∙ sym (ap (λ (s : State). get_or s.processes.plan.net.places c.args.process 0) c.self.view_is)) (c.fits.ensures c.if-not-fits.false)) c.in_ok-tell_number.ensures.told (ap inputs_of c.in_ok-tell_number.ensures.inlets) c.in_ok-tell_number.ensures.more in
    record { kept = r.0; stage = r.1 }
