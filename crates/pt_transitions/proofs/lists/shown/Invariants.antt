use Rattle.std.proofs.Common.{◌≡◌, take, map}
use Rattle.pt_meaning.specs.Modal.{at_port}
use Rattle.pt_transitions.proofs.lists.shown.Given as goal

abbrev pub invariant-loop-port : goal.invariant-loop-port
invariant-loop-port l = l.lists.items ≡ map (λ p. at_port p l.outputs) (take l.port-index l.ports)
