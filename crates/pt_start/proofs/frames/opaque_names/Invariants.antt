use Rattle.std.proofs.Common.{◌≡◌, ℕ, ◌<◌, length}
use Rattle.std.specs.Prelude.{slice_get}
use Rattle.pt_start.specs.Frames.{IsKept}
use Rattle.pt_start.proofs.frames.opaque_names.Given as goal

abbrev pub invariant-loop-number : goal.invariant-loop-number
invariant-loop-number l = record {
  counted : length l.names.items ≡ l.number;
  each : (k : ℕ) → k < l.number → IsKept (slice_get l.entities k) (slice_get l.values k) (slice_get l.names.items k);
}
