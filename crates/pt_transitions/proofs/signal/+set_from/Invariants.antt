use Rattle.std.proofs.Common.{length, ◌-◌}
use Rattle.pt_transitions.proofs.signal.+set_from.Given as goal

abbrev pub decreases-set_from : goal.decreases-set_from
decreases-set_from l = length l.actions.now - l.number
