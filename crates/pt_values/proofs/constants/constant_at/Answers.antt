use Rattle.std.proofs.Common.{[], subst, IfErr}
use Rattle.pt_language.specs.Scope.{Scope}
use Rattle.pt_scopes.specs.Texts.{IsTextFault}
use Rattle.pt_scopes.specs.Told.{IsToldAt}
use Rattle.pt_values.proofs.EntityParts.{no-own}
use Rattle.pt_values.proofs.constants.constant_at.Goals as goal

pub returns-clause-told : goal.returns-clause-told
returns-clause-told c =
    subst (λ (s : Scope). IfErr c.value_at.result (IsToldAt c.args.path.now (IsTextFault s c.args.text.now))) (no-own c.new-own.result [] [] c.new-own.ensures) c.value_at.ensures.told
