use Rattle.std.proofs.Common.{◌≡◌, map, drop}
use Rattle.pt_meaning.specs.Valuation.{known}
use Rattle.pt_firing.specs.TriState.{partial_of}
use Rattle.pt_firing.proofs.Known.{and_then}
use Rattle.pt_firing.proofs.partial.Partial.known.Given as goal

abbrev pub invariant-loop-state : goal.invariant-loop-state
invariant-loop-state l = known l.self ≡ and_then l.lists.items (known (map partial_of (drop l.state-index l.state-items)))
