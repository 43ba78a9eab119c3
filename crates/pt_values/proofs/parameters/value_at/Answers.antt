use Rattle.pt_scopes.specs.Names.{seen_scope}
use Rattle.pt_scopes.specs.Texts.{IsTextFault}
use Rattle.pt_scopes.proofs.Turns.{told_at}
use Rattle.pt_values.proofs.parameters.value_at.Goals as goal

pub returns-in-Err-clause-told : goal.returns-in-Err-clause-told
returns-in-Err-clause-told c = told_at c.args.path.now (IsTextFault (seen_scope c.args.seen.now) c.args.text.now) _ c.told_as.result c.in-Err.ensures.told c.told_as.ensures
