use Rattle.std.proofs.Common.{ℕ, subst}
use Rattle.std.specs.Prelude.{Option, MatchOption}
use Rattle.pt_document.specs.declared.code.Code.{Code}
use Rattle.pt_net.specs.declared.net.Net.{Net}
use Rattle.pt_scopes.specs.declared.values.Values.{Values}
use Rattle.pt_charts.specs.Readable.{AreReadable, IsUnreadableAt}
use Rattle.pt_elaboration.proofs.FaultLaws.{number-below, guards-stand}
use Rattle.pt_elaboration.proofs.resolved.check_guards.Goals as goal

abbrev IsFound : Net → Values → Option (Code × ℕ) → Type 0
IsFound net values found = MatchOption found (AreReadable net values) (λ at. IsUnreadableAt net values at.0 at.1)

pub refusal_of_entity-requires : goal.refusal_of_entity-requires
refusal_of_entity-requires c =
    let told : IsUnreadableAt c.args.net.now c.args.values.now c.in-Some.code c.in-Some.number = subst (IsFound c.args.net.now c.args.values.now) c.in-Some.is c.in_ok-code.ensures in
    number-below c.args.net.now c.in-Some.number told.entity told.modal.at

pub returns-in-Some-clause-stands : goal.returns-in-Some-clause-stands
returns-in-Some-clause-stands c =
    let told : IsUnreadableAt c.args.net.now c.args.values.now c.in-Some.code c.in-Some.number = subst (IsFound c.args.net.now c.args.values.now) c.in-Some.is c.in_ok-code.ensures in
    guards-stand c.args.net.now c.args.values.now c.in-Some.code c.in-Some.number c.refusal_of_entity.result c.requires.valued told c.refusal_of_entity.ensures

pub returns-in-None-clause-readable : goal.returns-in-None-clause-readable
returns-in-None-clause-readable c = subst (IsFound c.args.net.now c.args.values.now) c.in-None.is c.in_ok-code.ensures
