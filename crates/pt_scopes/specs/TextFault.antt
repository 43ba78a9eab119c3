-- What is told of a text.
use Rattle.pt_document.specs.declared.code.Code.{Code}
use Rattle.pt_document.specs.declared.code.Code.TheVariants.{Value}
use Rattle.pt_language.specs.declared.eval_fault.EvalFault.{EvalFault}
use Rattle.pt_language.specs.declared.eval_fault.EvalFault.TheVariants as evaluation
use Rattle.pt_scopes.specs.declared.fault.TextFault.{TextFault}
use Rattle.pt_scopes.specs.declared.fault.TextFault.TheVariants.{Refused, Memory}

-- what a fault of an evaluation is told as
abbrev pub of_evaluation : EvalFault → TextFault
of_evaluation evaluation.DivideByZero = Refused Value
of_evaluation evaluation.Overflow = Refused Value
of_evaluation evaluation.Index = Refused Value
of_evaluation evaluation.Size = Refused Value
of_evaluation evaluation.Absent = Refused Value
of_evaluation evaluation.Memory = Memory

-- a fault is want of memory, or a cause that stands
abbrev pub IsTold : (Code → Type 0) → TextFault → Type 0
IsTold Stands (Refused cause) = Stands cause
IsTold Stands Memory = Unit {0}
