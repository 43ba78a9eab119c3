use Rattle.std.proofs.Common.{◌≡◌, ℕ, ◌<◌, length}
use Rattle.std.specs.Prelude.{slice_get}
use Rattle.pt_start.specs.Frames.{IsTransparentKept}
use Rattle.pt_start.proofs.frames.transparent_names.Given as goal

abbrev pub invariant-loop-number : goal.invariant-loop-number
invariant-loop-number l = record {
  counted : length l.names.items ≡ l.number;
  each : (k : ℕ) → k < l.number → IsTransparentKept (slice_get l.composites k) (slice_get l.values k) (slice_get l.names.items k);
}
