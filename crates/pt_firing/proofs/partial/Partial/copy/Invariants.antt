use Rattle.std.proofs.Common.{◌≡◌, length, vec_capacity, take, map}
use Rattle.pt_firing.specs.TriState.{partial_of}
use Rattle.pt_firing.proofs.partial.Partial.copy.Given as goal

abbrev pub invariant-loop-state : goal.invariant-loop-state
invariant-loop-state l = (l.states.items ≡ take l.state-index l.state-items) × (map partial_of l.state-items ≡ l.self) × (vec_capacity l.states ≡ length l.state-items)
