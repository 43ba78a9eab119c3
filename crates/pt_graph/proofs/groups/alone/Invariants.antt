use Rattle.std.proofs.Common.{◌≡◌, ℕ, ◌<◌, length, get_or}
use Rattle.pt_graph.proofs.groups.alone.Given as goal

abbrev pub invariant-loop-thing : goal.invariant-loop-thing
invariant-loop-thing l = (length l.group.items ≡ l.thing) × ((t : ℕ) → t < l.thing → get_or l.group.items t 0 ≡ t)
