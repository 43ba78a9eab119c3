use Rattle.std.proofs.Common.{ℕ, ◌<◌, ◌≤◌, ◌≢◌, length, slice_index}
use Rattle.pt_readback.proofs.cuts.last_mark.Given as goal

abbrev pub invariant-loop-end : goal.invariant-loop-end
invariant-loop-end l = (l.end ≤ length l.text) × ((k : ℕ) → l.end ≤ k → k < length l.text → slice_index l.text k ≢ l.mark)

abbrev pub decreases-loop-end : goal.decreases-loop-end
decreases-loop-end l = l.end
