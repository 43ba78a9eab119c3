use Rattle.std.proofs.Common.{◌≡◌, map, replicate}
use Rattle.pt_meaning.specs.Machine as machine
use Rattle.pt_firing.specs.TriState.{partial_of}
use Rattle.pt_firing.proofs.partial.Partial.unknown.Given as goal

abbrev pub invariant-loop : goal.invariant-loop
invariant-loop l = map partial_of l.states.items ≡ replicate l.counter machine.Unknown
