use Rattle.std.proofs.Common.{◌≡◌, length, take}
use Rattle.pt_pn_work.specs.Core.{puts_of_all}
use Rattle.pt_pn.specs.Waiting.{MarksWaited}
use Rattle.pt_pn.proofs.waiting.waited_on.Given as goal

abbrev pub invariant-loop-process : goal.invariant-loop-process
invariant-loop-process l = record {
  counted : length l.marks.items ≡ l.channels;
  marks : MarksWaited l.marks.items (puts_of_all (take l.process l.processes));
}
