use Rattle.std.proofs.Common.{◌≡◌, IfSome, get_or, ap, sym, subst, refl, ◌∙◌}
use Rattle.pt_rv_laws.specs.State.{asked_process}
use Rattle.pt_rv_laws.specs.RvActs.{State}
use Rattle.pt_rv_work.specs.Core.{nobody}
use Rattle.pt_rv.specs.declared.rv.Stage as declared
use Rattle.pt_rv.specs.Core.{stage_of}
use Rattle.pt_rv.proofs.CoreLaws.{asked-alone}
use Rattle.pt_rv.proofs.CallLaws.{lent-is}
use Rattle.pt_rv.proofs.rv.Core.int_inputs.Goals as goal

pub int_inputs-requires : goal.int_inputs-requires
int_inputs-requires c =
    let a = asked-alone c.self.inside.stage c.self.inside.parties c.in-Asked.process (ap (λ (g : declared.Stage). asked_process (stage_of g)) c.in-Asked.is) c.self.invariant.stage in
    record { there = a.there; handed = a.handed }

pub returns-in-Asked : goal.returns-in-Asked
returns-in-Asked c =
    subst (λ X. IfSome c.int_inputs.result (λ inputs. inputs ≡ X))
    (lent-is c.self.inside.plan c.self.inside.parties c.self.inside.met.list c.self.inside.tag (stage_of c.self.inside.stage) c.args.self.now c.self.view_is c.in-Asked.process (get_or c.self.inside.parties.team c.in-Asked.process nobody).got (sym (ap (λ (s : State). asked_process s.stage) c.self.view_is) ∙ (ap (λ (g : declared.Stage). asked_process (stage_of g)) c.in-Asked.is)) refl)
    c.int_inputs.ensures
