use Rattle.std.proofs.Common.{get_or}
use Rattle.pt_sched.proofs.Steps.{AreFilled}
use Rattle.pt_sched.proofs.search.has_tokens.Given as goal

abbrev pub invariant-loop-number : goal.invariant-loop-number
invariant-loop-number l = AreFilled l.channels (λ child. get_or l.fired child 0) l.ins l.number-index
