-- What an expression comes to.
use Rattle.pt_language.specs.declared.eval_fault.EvalFault.{EvalFault}

-- a value, or why there is none: a fault or an absent port (`Memory` is never among them), or that the expression has no meaning
pub data Outcome (A : Type 0) : Type 0 where
  Gives : (value : A) → Outcome A
  Stops : (fault : EvalFault) → Outcome A
  Wrong : Outcome A

-- goes on with the value, where there is one
abbrev pub and_then : {A B : Type 0} → Outcome A → (A → Outcome B) → Outcome B
and_then (Gives x) go = go x
and_then (Stops fault) go = Stops fault
and_then Wrong go = Wrong
