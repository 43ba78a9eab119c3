use Rattle.std.proofs.Common.{◌≡◌, ℕ, ◌<◌, true, false, get_or}
use Rattle.pt_sr.proofs.tick.Tick.first_unfired.Given as goal

abbrev pub invariant-loop-child : goal.invariant-loop-child
invariant-loop-child l = (i : ℕ) → i < l.child → get_or l.self.fired i false ≡ true
