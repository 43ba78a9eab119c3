use Rattle.std.proofs.Common.{◌≡◌, Some, ap, sym, subst, ◌∙◌}
use Rattle.std.specs.Prelude.{IfSome}
use Rattle.pt_pn_laws.specs.State.{asked_process}
use Rattle.pt_process.specs.Process.{Standing}
use Rattle.pt_pn_work.specs.Core.{State, nobody}
use Rattle.pt_pn_work.proofs.CoreLaws.{read-as}
use Rattle.pt_pn.specs.declared.pn.Stage as declared
use Rattle.pt_pn.specs.Core.{stage_of}
use Rattle.pt_pn.proofs.StepLaws.{alone}
use Rattle.pt_pn.proofs.CallLaws.{lent-so}
use Rattle.pt_pn.proofs.pn.Core.int_inputs.Goals as goal

pub returns-in-Asked : goal.returns-in-Asked
returns-in-Asked c =
    let a : asked_process c.args.self.now.stage ≡ Some c.in-Asked.process = sym (ap (λ (s : State). asked_process s.stage) c.self.view_is) ∙ ap (λ (g : declared.Stage). asked_process (stage_of g)) c.in-Asked.is in
    subst (λ X. IfSome c.int_inputs.result (λ inputs. inputs ≡ X))
    (lent-so c.self.inside c.self.invariant c.args.self.now c.self.view_is c.in-Asked.process c.index.result.now.got a
    (ap (λ (p : Standing). p.got) (read-as c.self.inside.processes.items c.in-Asked.process c.index.result.now nobody (alone c.self.inside c.self.invariant c.args.self.now c.self.view_is c.in-Asked.process a).there c.index.ensures)))
    c.int_inputs.ensures
