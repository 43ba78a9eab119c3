use Rattle.std.proofs.Common.{◌≡◌, ◌++◌, ◌∷◌, [], take}
use Rattle.pt_meaning.specs.Running.{total}
use Rattle.pt_reaction.specs.Offsets.{begins}
use Rattle.pt_reaction.proofs.offsets.offsets_of.Given as goal

abbrev pub invariant-loop-n : goal.invariant-loop-n
invariant-loop-n l = (l.offsets.items ++ l.from ∷ [] ≡ begins 0 (take l.n-index l.places)) × (l.from ≡ total (take l.n-index l.places))
