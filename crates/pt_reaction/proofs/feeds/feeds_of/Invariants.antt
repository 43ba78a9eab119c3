use Rattle.std.proofs.Common.{◌≡◌, ℕ, ◌+◌, ◌<◌, [], length, map, get_or}
use Rattle.pt_core.specs.Source.{source_of}
use Rattle.pt_reaction.specs.Feeds.{rows_in, AreTargets, MovesOnce}
use Rattle.pt_reaction.proofs.feeds.feeds_of.Given as goal

abbrev pub invariant-loop-r : goal.invariant-loop-r
invariant-loop-r l = record {
  ends : l.r-end ≡ length l.outputs + 1;
  targets : AreTargets (length l.outputs) (map source_of l.sources) l.rows.items;
  moves : (r : ℕ) → r < l.r → MovesOnce (get_or (rows_in l.rows.items) r []);
}
