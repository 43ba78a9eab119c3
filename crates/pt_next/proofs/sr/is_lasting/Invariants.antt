use Rattle.pt_next.proofs.Ticks.{Over}
use Rattle.pt_next.proofs.sr.is_lasting.Given as goal

abbrev pub invariant-loop-input : goal.invariant-loop-input
invariant-loop-input l = Over l.tick l.inputs l.input-index
