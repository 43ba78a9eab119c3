use Rattle.std.proofs.Common.{◌≡◌, ◌++◌, map, drop}
use Rattle.pt_frames.specs.Views.{frame_view}
use Rattle.pt_inequalities.specs.Frames.{entity_frames}
use Rattle.pt_frames.proofs.frames.entity_frames.Given as goal

abbrev pub invariant-loop-number : goal.invariant-loop-number
invariant-loop-number l = map frame_view l.frames.items ++ entity_frames (drop l.number l.entities) (drop l.number l.values) ≡ entity_frames l.entities l.values
