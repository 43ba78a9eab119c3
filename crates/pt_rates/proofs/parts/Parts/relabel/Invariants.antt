use Rattle.pt_rates.proofs.Moves.{IsMoving}
use Rattle.pt_rates.proofs.parts.Parts.relabel.Given as goal

abbrev pub invariant-loop-node : goal.invariant-loop-node
invariant-loop-node l = IsMoving l.node-items l.node-index l.from l.to l.times l.fn.self l.self
