use Rattle.std.proofs.Common.{◌≡◌, ℕ, ◌≤◌, take, drop}
use Rattle.pt_recv.specs.Lines.{spare_at}
use Rattle.pt_sdf_parts.specs.ByNeed.{skip_at}
use Rattle.pt_sdf_parts.proofs.skip.skip_places.Given as goal

abbrev pub invariant-loop-k : goal.invariant-loop-k
invariant-loop-k l = record {
  lists : l.channels.lists ≡ skip_at l.from (take l.k (drop l.from l.needs)) l.fn.channels.lists;
  keeps : (d : ℕ) → spare_at l.fn.channels.spares d ≤ spare_at l.channels.spares d;
}
