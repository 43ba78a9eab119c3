use Rattle.std.proofs.Common.{◌≡◌, drop}
use Rattle.pt_sr.specs.State.{all_of}
use Rattle.pt_sr.specs.Given.{gifts}
use Rattle.pt_sr.proofs.given.stage_inputs.Given as goal

abbrev pub invariant-loop-k : goal.invariant-loop-k
invariant-loop-k l = l.staged.items ≡ gifts (all_of l.inputs) (drop l.k l.feeds)
