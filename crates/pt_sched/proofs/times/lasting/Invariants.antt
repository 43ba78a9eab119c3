use Rattle.std.proofs.Common.{◌<◌, ◌≤◌, get_or}
use Rattle.pt_sched.proofs.Lasting.{AreLasting}
use Rattle.pt_sched.proofs.times.lasting.Given as goal

abbrev pub invariant-loop-number : goal.invariant-loop-number
invariant-loop-number l = record {
  some : 0 < l.lasting;
  fewer : l.lasting ≤ l.times;
  tokens : AreLasting l.channels (λ child. get_or l.fired child 0) l.lasting l.ins l.number-index;
}
