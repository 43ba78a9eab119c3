use Rattle.std.proofs.Common.{◌≡◌, IfSome, subst, ◌∙◌}
use Rattle.pt_process.proofs.StepLaws.{lent-is}
use Rattle.pt_process.proofs.process.Process.int_inputs.Goals as goal

pub returns : goal.returns
returns c = subst (λ X. IfSome c.int_inputs_of.result (λ inputs. inputs ≡ X)) (c.deref.ensures.value ∙ lent-is c.self.inside c.args.self.now c.self.invariant c.self.view_is c.requires) c.int_inputs_of.ensures
