-- What a process of Rendezvous needs, as it is kept.
use Rattle.std.specs.Prelude.{[], ◌∷◌}
use Rattle.pt_meaning.specs.Machine.{Need}
use Rattle.pt_meaning.specs.Machine as machine
use Rattle.pt_puts.specs.declared.need.KeptNeed.{KeptNeed}
use Rattle.pt_puts.specs.declared.need.KeptNeed.TheVariants.{Over, Counts, One, Any}

-- a need that is kept, among the definitions
abbrev pub need_in : KeptNeed → Need
need_in Over = machine.Over
need_in (Counts ns) = machine.Counts ns
need_in One = machine.Counts (1 ∷ [])
need_in Any = machine.Any
