-- The faults of a run, and their numbers.
use Rattle.std.specs.Prelude.{ℕ}
use Rattle.pt_firing.specs.declared.fault.RunFault.{RunFault}
use Rattle.pt_firing.specs.declared.fault.RunFault.TheVariants.{DivideByZero, Overflow, Index, Size, Rate, SecondToken, Causality, Ambiguous, TimeLimit, Length}

-- the number that a report prints for a fault
abbrev pub code_of : RunFault → ℕ
code_of DivideByZero = 30
code_of Overflow = 31
code_of Index = 32
code_of Size = 33
code_of Rate = 34
code_of SecondToken = 35
code_of Causality = 36
code_of Ambiguous = 37
code_of TimeLimit = 38
code_of Length = 39
