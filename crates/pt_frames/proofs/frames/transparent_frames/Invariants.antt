use Rattle.std.proofs.Common.{◌≡◌, ◌++◌, map, drop}
use Rattle.pt_frames.specs.Views.{frame_view}
use Rattle.pt_inequalities.specs.Frames.{transparent_frames}
use Rattle.pt_frames.proofs.frames.transparent_frames.Given as goal

abbrev pub invariant-loop-number : goal.invariant-loop-number
invariant-loop-number l = map frame_view l.frames.items ++ transparent_frames (drop l.number l.composites) (drop l.number l.tokens) ≡ transparent_frames l.composites l.tokens
