use Rattle.std.proofs.Common.{◌≡◌, length, All}
use Rattle.pt_datatypes.specs.Datatype.{Unknown}
use Rattle.pt_types.specs.Ty.{type_of}
use Rattle.pt_types.proofs.rules.unknowns.Given as goal

abbrev pub invariant-loop : goal.invariant-loop
invariant-loop l = (length l.types.items ≡ l.counter) × All (λ t. type_of t ≡ Unknown) l.types.items
