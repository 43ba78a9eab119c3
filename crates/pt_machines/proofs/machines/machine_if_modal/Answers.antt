use Rattle.std.proofs.Common.{sym, subst, ◌∙◌}
use Rattle.pt_machine.specs.Causes.{IsFaultIn}
use Rattle.pt_machine_parts.specs.declared.fault.ModalFault.{ModalFault}
use Rattle.pt_machine_parts.specs.Told.{IsTold}
use Rattle.pt_machines.proofs.machines.machine_if_modal.Goals as goal

pub returns-then-not-is_modal-clause-machine : goal.returns-then-not-is_modal-clause-machine
returns-then-not-is_modal-clause-machine c = sym c.is_modal.ensures ∙ c.if-not-is_modal.true

pub machine_at-requires-clause-modal : goal.machine_at-requires-clause-modal
machine_at-requires-clause-modal c = sym c.is_modal.ensures ∙ c.if-not-is_modal.false

pub returns-in-Ok-clause-machine : goal.returns-in-Ok-clause-machine
returns-in-Ok-clause-machine c = c.in-Ok.ensures.machine

pub returns-in-Err-Refused-clause-told : goal.returns-in-Err-Refused-clause-told
returns-in-Err-Refused-clause-told c = subst (λ (f : ModalFault). IsTold (IsFaultIn c.args.ground.now.net.now c.args.number) f) c.in-Err-Refused.field-0-is c.in-Err-Refused.ensures.told
