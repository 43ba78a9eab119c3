use Rattle.std.proofs.Common.{◌≡◌, ℕ, ◌+◌, ◌<◌, [], length, map, get_or}
use Rattle.pt_core.specs.Source.{source_of}
use Rattle.pt_sdf_parts.specs.Feeds.{rows_in, AreTargets, MovesOnce}
use Rattle.pt_sdf_parts.proofs.feeds.feeds_of.Given as goal

abbrev pub invariant-loop-r : goal.invariant-loop-r
invariant-loop-r l = record {
  ends : l.r-end ≡ length l.plan.places + 1;
  targets : AreTargets (length l.plan.places) (map source_of l.plan.sources.items) l.rows.items;
  moves : (r : ℕ) → r < l.r → MovesOnce (get_or (rows_in l.rows.items) r []);
}
