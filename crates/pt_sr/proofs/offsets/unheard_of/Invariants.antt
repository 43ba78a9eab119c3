use Rattle.std.proofs.Common.{◌≡◌, take}
use Rattle.pt_sr.specs.State.{unheard}
use Rattle.pt_sr.proofs.offsets.unheard_of.Given as goal

abbrev pub invariant-loop-n : goal.invariant-loop-n
invariant-loop-n l = l.heard.items ≡ unheard (take l.n-index l.places)
