use Rattle.std.proofs.Common.{◌≡◌, take}
use Rattle.pt_reaction.specs.Offsets.{readers}
use Rattle.pt_reaction.proofs.offsets.readers_of.Given as goal

abbrev pub invariant-loop-child : goal.invariant-loop-child
invariant-loop-child l = l.found.items ≡ readers 0 (take l.child l.places)
