-- What a step of the reader answers, beside what it is to answer.
use Rattle.std.specs.Prelude.{◌≡◌, Result, Ok, Err, Option, Some, None}
use Rattle.pt_language.specs.declared.parse_fault.ParseFault.{ParseFault}
use Rattle.pt_language.specs.declared.parse_fault.ParseFault.TheVariants.{Syntax, Deep, Memory}

-- a fault says that nothing is to be read, or that memory ran out
abbrev pub Fails : {Y : Type 0} → ParseFault → Option Y → Type 0
Fails Syntax read = read ≡ None
Fails Deep read = ⊥
Fails Memory read = Unit {0}

-- what was answered, seen by view, is what is to be read, unless memory ran out
abbrev pub Gives : {X Y : Type 0} → (X → Y) → Result X ParseFault → Option Y → Type 0
Gives view (Ok x) read = read ≡ Some (view x)
Gives view (Err fault) read = Fails fault read
