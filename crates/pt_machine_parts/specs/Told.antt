-- What is told of a Modal entity that is given no machine.
use Rattle.pt_machine.specs.declared.cause.Cause.{Cause}
use Rattle.pt_machine_parts.specs.declared.fault.ModalFault.{ModalFault}
use Rattle.pt_machine_parts.specs.declared.fault.ModalFault.TheVariants.{Refused, Memory}

-- a fault is want of memory, or a cause that stands
abbrev pub IsTold : (Cause → Type 0) → ModalFault → Type 0
IsTold Stands (Refused cause) = Stands cause
IsTold Stands Memory = Unit {0}
