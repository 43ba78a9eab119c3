use Rattle.std.proofs.Common.{◌≡◌, drop}
use Rattle.pt_meaning.specs.Sr.{all_single}
use Rattle.pt_sr.proofs.sr.are_single.Given as goal

abbrev pub invariant-loop-port : goal.invariant-loop-port
invariant-loop-port l = all_single l.outputs ≡ all_single (drop l.port l.outputs)
