use Rattle.std.proofs.Common.{◌≡◌, take}
use Rattle.pt_plan.specs.Channels.{owners}
use Rattle.pt_plan.proofs.channels.owners_of.Given as goal

abbrev pub invariant-loop-child : goal.invariant-loop-child
invariant-loop-child l = l.list.items ≡ owners 0 (take l.child l.places)
