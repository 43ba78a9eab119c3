use Rattle.std.proofs.Common.{◌≡◌, ℕ, [], get_or, take}
use Rattle.pt_start.specs.Counts.{AreSized}
use Rattle.pt_start.proofs.counts.no_counts.Given as goal

abbrev pub invariant-loop-entity : goal.invariant-loop-entity
invariant-loop-entity l = record {
  zeros : (k i : ℕ) → get_or (get_or l.rows.items k []) i 0 ≡ 0;
  sized : AreSized (take l.entity-index l.entities) l.rows.items;
}
