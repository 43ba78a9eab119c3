use Rattle.std.proofs.Common.{ℕ, ◌≤◌, get_or, take}
use Rattle.pt_de_parts.proofs.net.Net.width.Given as goal

abbrev pub invariant-loop-count : goal.invariant-loop-count
invariant-loop-count l = (i : ℕ) → get_or (take l.count-index l.count-items) i 0 ≤ l.most
