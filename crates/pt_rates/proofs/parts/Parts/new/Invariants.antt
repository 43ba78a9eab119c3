use Rattle.std.proofs.Common.{◌≡◌, replicate}
use Rattle.pt_rates.proofs.Starts.{AreAlone}
use Rattle.pt_rates.proofs.parts.Parts.new.Given as goal

abbrev pub invariant-loop-node : goal.invariant-loop-node
invariant-loop-node l =
    AreAlone l.node l.parts.labels.items l.parts.members.items × (l.parts.repetitions.items ≡ replicate l.n 1) × (l.parts.sum ≡ l.n)
