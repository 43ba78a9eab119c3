use Rattle.std.proofs.Common.{ap, sym, subst, ◌∙◌}
use Rattle.pt_meaning.specs.Log.{Meeting}
use Rattle.pt_reaction.specs.Spared.{Spared}
use Rattle.pt_rv_work.specs.Core.{state_with}
use Rattle.pt_rv.specs.Core.{Kept, stage_of}
use Rattle.pt_rv.specs.Parties.{moving_in, outputs_of}
use Rattle.pt_rv.proofs.CoreLaws.{stage-again}
use Rattle.pt_rv.proofs.CallLaws.{copied-sound, same-is}
use Rattle.pt_rv.proofs.rv.Core.copy.Goals as goal

pub invariant_of-result : goal.invariant_of-result
invariant_of-result c = record {
  kept = subst (λ p. Kept p c.in_ok-parties.parties c.in_ok-met.met.spare) (sym c.in_ok-plan.ensures)
      (subst (λ n. Kept c.self.inside.plan c.in_ok-parties.parties n) (sym (ap (λ (m : Spared Meeting). m.spare) c.in_ok-met.ensures)) (copied-sound c.self.inside.plan c.self.inside.parties c.in_ok-parties.parties c.self.inside.met.spare c.self.invariant.kept c.in_ok-parties.ensures));
  stage = stage-again c.self.inside.stage c.self.inside.parties c.in_ok-parties.parties c.in_ok-parties.ensures.team c.self.invariant.stage;
}

pub returns : goal.returns
returns c =
    ap (λ p. state_with p (moving_in c.in_ok-parties.parties) c.in_ok-met.met.list c.self.inside.tag (stage_of c.self.inside.stage)) c.in_ok-plan.ensures ∙
    same-is c.self.inside.plan c.self.inside.parties c.self.inside.met.list c.self.inside.tag (stage_of c.self.inside.stage) c.args.self.now c.self.view_is c.in_ok-parties.parties c.in_ok-met.met.list c.in_ok-parties.ensures.team c.in_ok-parties.ensures.inputs (ap outputs_of c.in_ok-parties.ensures.outlets) (ap (λ (m : Spared Meeting). m.list) c.in_ok-met.ensures)
