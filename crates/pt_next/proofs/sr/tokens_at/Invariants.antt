use Rattle.pt_next.proofs.Ticks.{Ticked}
use Rattle.pt_next.proofs.sr.tokens_at.Given as goal

abbrev pub invariant-loop-input : goal.invariant-loop-input
invariant-loop-input l = Ticked l.tick l.inputs l.input-index l.lists.items
