use Rattle.std.proofs.Common.{◌≡◌, ℕ, ◌<◌, [], length, get_or}
use Rattle.pt_net.specs.Inside.{ports_at}
use Rattle.pt_wiring.specs.Ports.{ArePortNumbers}
use Rattle.pt_wiring.proofs.inside.rows_of.Given as goal

abbrev pub invariant-loop-entity : goal.invariant-loop-entity
invariant-loop-entity l = record {
  counted : length l.rows.items ≡ l.entity-index;
  each : (i : ℕ) → i < l.entity-index → ArePortNumbers (ports_at l.entities i) (get_or l.rows.items i []);
}
