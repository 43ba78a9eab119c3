use Rattle.std.proofs.Common.{◌≡◌, take, map}
use Rattle.pt_puts.specs.Need.{need_in}
use Rattle.pt_rv.specs.Fresh.{starting}
use Rattle.pt_rv.proofs.fresh.processes_of.Given as goal

abbrev pub invariant-loop-i : goal.invariant-loop-i
invariant-loop-i l = l.processes.items ≡ starting (take l.i l.barriers) (take l.i (map need_in l.starts)) (take l.i l.places)
