use Rattle.std.proofs.Common.{ℕ, List, ◌++◌, replicate}
use Rattle.pt_sched.specs.Lists.{AreAt}
use Rattle.pt_sched.specs.Runs.{AreGreatestLengths}
use Rattle.pt_sched.specs.State.{IsCounted}
use Rattle.pt_sched.specs.declared.lists.Side.TheVariants.{Start}
use Rattle.pt_sched.proofs.Lengthening.{AreRaised}
use Rattle.pt_sched.proofs.run.raise.Given as goal

abbrev pub invariant-loop-number : goal.invariant-loop-number
invariant-loop-number l = (order : List ℕ) (child times : ℕ) → IsCounted l.fired (order ++ replicate times child) → AreAt Start l.channels child l.outs → AreGreatestLengths l.channels order l.fn.lengths → AreRaised l.channels order child times l.outs l.number-index l.lengths
