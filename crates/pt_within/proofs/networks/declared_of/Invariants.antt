use Rattle.std.proofs.Common.{◌≡◌, take, map}
use Rattle.pt_within.specs.Gives.{declared_in}
use Rattle.pt_within.proofs.networks.declared_of.Given as goal

abbrev pub invariant-loop-child : goal.invariant-loop-child
invariant-loop-child l = l.declared.items ≡ map (declared_in l.stated l.machines) (take l.child-index l.children)
