use Rattle.std.proofs.Common.{◌≡◌, ◌++◌, take}
use Rattle.pt_wakes.proofs.wakes.add_leaves.Given as goal

abbrev pub invariant-loop-wake : goal.invariant-loop-wake
invariant-loop-wake l = l.nodes.items ≡ l.fn.nodes.items ++ take l.wake-index l.wakes
