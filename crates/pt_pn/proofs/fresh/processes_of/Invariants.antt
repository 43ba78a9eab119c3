use Rattle.std.proofs.Common.{◌≡◌, map, take}
use Rattle.pt_process.specs.Process.{need_in}
use Rattle.pt_pn.specs.Fresh.{starting}
use Rattle.pt_pn.proofs.fresh.processes_of.Given as goal

abbrev pub invariant-loop-i : goal.invariant-loop-i
invariant-loop-i l = l.processes.items ≡ starting (take l.i (map need_in l.starts)) (take l.i l.places)
