use Rattle.std.proofs.Common.{◌≡◌, drop}
use Rattle.pt_sr.specs.State.{known_of}
use Rattle.pt_sr.specs.Given.{gifts}
use Rattle.pt_sr.proofs.given.stage_partial.Given as goal

abbrev pub invariant-loop-k : goal.invariant-loop-k
invariant-loop-k l = l.staged.items ≡ gifts (known_of l.early) (drop l.k l.feeds)
