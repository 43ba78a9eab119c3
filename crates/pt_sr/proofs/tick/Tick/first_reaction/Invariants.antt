use Rattle.std.proofs.Common.{ℕ, ◌<◌}
use Rattle.pt_sr.specs.Tick.{IsPassed}
use Rattle.pt_sr.proofs.tick.Tick.first_reaction.Given as goal

abbrev pub invariant-loop-child : goal.invariant-loop-child
invariant-loop-child l = (i : ℕ) → i < l.child → IsPassed l.self i
