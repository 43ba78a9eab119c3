use Rattle.std.proofs.Common.{◌≡◌, Some, subst}
use Rattle.std.specs.Prelude.{Option, MatchOption}
use Rattle.pt_net.specs.declared.net.Net.{Net}
use Rattle.pt_scopes.specs.declared.values.Values.{Values}
use Rattle.pt_typing.specs.Least.{Assignment, assignment}
use Rattle.pt_resolve.specs.declared.breaking.BrokenAt.{BrokenAt}
use Rattle.pt_resolve.specs.declared.breaking.BrokenAt.TheVariants.{Entity, Transparent}
use Rattle.pt_resolve.specs.Faults.{IsBrokenAt, IsWhole}
use Rattle.pt_elaboration.proofs.FaultLaws.{number-below, types-stand, composite-below, composite-stands}
use Rattle.pt_elaboration.proofs.resolved.typing_among.Goals as goal

abbrev IsFound : Net → Values → Assignment → Option BrokenAt → Type 0
IsFound net values a found = MatchOption found (IsWhole net values a) (IsBrokenAt net values a)

broken-there : (net : Net) (values : Values) (a : Assignment) (found : Option BrokenAt) (at place : BrokenAt) → IsFound net values a found → found ≡ Some at → at ≡ place → IsBrokenAt net values a place
broken-there net values a found at place h is same = subst (IsBrokenAt net values a) same (subst (IsFound net values a) is h)

pub refusal_of_entity-requires : goal.refusal_of_entity-requires
refusal_of_entity-requires c =
    let w = broken-there c.args.net.now c.args.values.now (assignment c.in_ok-typing.typing) c.in_ok-number.field-0 c.in-Some-Entity.field-0 (Entity c.in-Some-Entity.number) c.in_ok-number.ensures c.in-Some-Entity.is c.in-Some-Entity.field-0-is in
    number-below c.args.net.now c.in-Some-Entity.number w.0 w.1

pub refusal_of_composite-requires : goal.refusal_of_composite-requires
refusal_of_composite-requires c =
    let w = broken-there c.args.net.now c.args.values.now (assignment c.in_ok-typing.typing) c.in_ok-number.field-0 c.in-Some-Transparent.field-0 (Transparent c.in-Some-Transparent.number) c.in_ok-number.ensures c.in-Some-Transparent.is c.in-Some-Transparent.field-0-is in
    composite-below c.args.net.now c.in-Some-Transparent.number w.0 w.1

pub returns-in-Some-Entity-clause-stands : goal.returns-in-Some-Entity-clause-stands
returns-in-Some-Entity-clause-stands c =
    let w = broken-there c.args.net.now c.args.values.now (assignment c.in_ok-typing.typing) c.in_ok-number.field-0 c.in-Some-Entity.field-0 (Entity c.in-Some-Entity.number) c.in_ok-number.ensures c.in-Some-Entity.is c.in-Some-Entity.field-0-is in
    types-stand c.args.net.now c.args.values.now (assignment c.in_ok-typing.typing) c.in-Some-Entity.number w.0 c.refusal_of_entity.result c.requires.valued c.in_ok-check_guards.ensures.readable c.in_ok-typing.ensures w.1 w.2 c.refusal_of_entity.ensures

pub returns-in-Some-Transparent-clause-stands : goal.returns-in-Some-Transparent-clause-stands
returns-in-Some-Transparent-clause-stands c =
    let w = broken-there c.args.net.now c.args.values.now (assignment c.in_ok-typing.typing) c.in_ok-number.field-0 c.in-Some-Transparent.field-0 (Transparent c.in-Some-Transparent.number) c.in_ok-number.ensures c.in-Some-Transparent.is c.in-Some-Transparent.field-0-is in
    composite-stands c.args.net.now c.args.values.now (assignment c.in_ok-typing.typing) c.in-Some-Transparent.number w.0 c.refusal_of_composite.result c.requires.valued c.in_ok-check_guards.ensures.readable c.in_ok-typing.ensures w.1 w.2 c.refusal_of_composite.ensures

pub returns-clause-resolved : goal.returns-clause-resolved
returns-clause-resolved c =
    record { valued = c.requires.valued; readable = c.in_ok-check_guards.ensures.readable; typed = c.in_ok-typing.ensures; sound = subst (IsFound c.args.net.now c.args.values.now (assignment c.in_ok-typing.typing)) c.in-None.is c.in_ok-number.ensures }
