use Rattle.std.proofs.Common.{◌≡◌, ◌++◌, length, take, drop}
use Rattle.pt_sr.specs.State.{unheard}
use Rattle.pt_sr.proofs.tick.unhear.Given as goal

abbrev pub invariant-loop-child : goal.invariant-loop-child
invariant-loop-child l = (l.heard.items ≡ unheard (take l.child l.places) ++ drop l.child l.fn.heard.items) × (length l.heard.items ≡ length l.places)
