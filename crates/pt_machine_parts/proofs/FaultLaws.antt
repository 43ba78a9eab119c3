-- What is told of a Modal entity, from what is told of its parts.
use Rattle.pt_machine.specs.declared.cause.Cause.{Cause}
use Rattle.pt_machine_parts.specs.declared.fault.ModalFault.{ModalFault}
use Rattle.pt_machine_parts.specs.declared.fault.ModalFault.TheVariants.{Refused, Memory}
use Rattle.pt_machine_parts.specs.Told.{IsTold}

pub weaker : (P Q : Cause → Type 0) → ((cause : Cause) → P cause → Q cause) → (fault : ModalFault) → IsTold P fault → IsTold Q fault
weaker P Q go (Refused cause) h = go cause h
weaker P Q go Memory h = tt
