-- A place where a firing is stuck, by the path of its node.
use Rattle.pt_meaning.specs.Basics.{Path}
use Rattle.pt_meaning.specs.Machine as machine
use Rattle.pt_firing.specs.declared.answer.Place.{Place}
use Rattle.pt_firing.specs.RunFault.{code_of}

-- a place that the code tells, by the path of its node
abbrev pub fault_of : Path → Place → machine.Fault
fault_of p place = record { path = p; firing = place.firing; code = code_of place.kind }
