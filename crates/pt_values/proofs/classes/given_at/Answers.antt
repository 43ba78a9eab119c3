use Rattle.pt_scopes.specs.Names.{seen_scope}
use Rattle.pt_scopes.specs.PortNames.{names_port_of}
use Rattle.pt_scopes.specs.Given.{IsGivenFault}
use Rattle.pt_scopes.proofs.Turns.{told_at}
use Rattle.pt_values.proofs.classes.given_at.Goals as goal

pub returns-in-Err-clause-told : goal.returns-in-Err-clause-told
returns-in-Err-clause-told c = told_at c.args.path.now (IsGivenFault (names_port_of c.args.ports.now) (seen_scope c.args.seen.now) c.args.form c.args.text.now) _ c.told_as.result c.in-Err.ensures.told c.told_as.ensures
