use Rattle.std.proofs.Common.{◌≡◌, take, map}
use Rattle.pt_meaning.specs.Streams.{at}
use Rattle.pt_transitions.proofs.lists.picked.Given as goal

abbrev pub invariant-loop-port : goal.invariant-loop-port
invariant-loop-port l = l.lists.items ≡ map (λ p. at l.inputs p) (take l.port-index l.ports)
