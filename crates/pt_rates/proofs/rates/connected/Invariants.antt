use Rattle.std.proofs.Common.{take}
use Rattle.pt_rates.proofs.Solves.{IsSolved}
use Rattle.pt_rates.proofs.rates.connected.Given as goal

abbrev pub invariant-loop-channel : goal.invariant-loop-channel
invariant-loop-channel l = IsSolved l.n (take l.channel l.edges) l.parts
