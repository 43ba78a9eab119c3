-- A need, as the meaning has it.
use Rattle.pt_meaning.specs.Machine as machine
use Rattle.pt_firing.specs.declared.need.Need.{Need}
use Rattle.pt_firing.specs.declared.need.Need.TheVariants.{Over, All, Any}

abbrev pub need_of : Need → machine.Need
need_of Over = machine.Over
need_of (All counts) = machine.Counts counts.now
need_of Any = machine.Any
