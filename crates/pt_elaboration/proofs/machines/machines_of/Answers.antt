use Rattle.std.proofs.Common.{subst}
use Rattle.pt_typing.specs.Least.{assignment}
use Rattle.pt_machine.specs.Causes.{IsFaultIn}
use Rattle.pt_machines.specs.declared.fault.NetFault.{NetFault}
use Rattle.pt_machines.specs.declared.fault.NetFault.TheVariants as told
use Rattle.pt_machines.specs.Grounds.{IsNetTold}
use Rattle.pt_elaboration.proofs.FaultLaws.{number-below, states-stand}
use Rattle.pt_elaboration.proofs.machines.machines_of.Goals as goal

pub refusal_of_entity-requires : goal.refusal_of_entity-requires
refusal_of_entity-requires c =
    let net = c.args.net.now in
    let h : IsNetTold net (told.Refused c.in-Err-Refused._why c.in-Err-Refused.number) = subst (λ (f : NetFault). IsNetTold net f) c.in-Err-Refused.field-0-is c.in-Err-Refused.ensures.told in
    number-below net c.in-Err-Refused.number h.entity h.at

pub returns-in-Err-Refused-clause-stands : goal.returns-in-Err-Refused-clause-stands
returns-in-Err-Refused-clause-stands c =
    let net = c.args.net.now in
    let h : IsNetTold net (told.Refused c.in-Err-Refused._why c.in-Err-Refused.number) = subst (λ (f : NetFault). IsNetTold net f) c.in-Err-Refused.field-0-is c.in-Err-Refused.ensures.told in
    states-stand net c.args.values.now (assignment c.args.typing.now) c.in-Err-Refused._why c.in-Err-Refused.number c.refusal_of_entity.result c.requires h c.refusal_of_entity.ensures
