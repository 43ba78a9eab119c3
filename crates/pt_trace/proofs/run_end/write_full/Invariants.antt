use Rattle.std.proofs.Common.{◌≡◌, ◌++◌, take}
use Rattle.pt_trace.specs.EndText.{full_lines}
use Rattle.pt_trace.proofs.run_end.write_full.Given as goal

abbrev pub invariant-loop-place : goal.invariant-loop-place
invariant-loop-place l = l.out.items ≡ l.initial.out.items ++ full_lines (take l.place-index l.place-items)
