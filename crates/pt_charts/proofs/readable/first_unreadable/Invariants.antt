use Rattle.std.proofs.Common.{map}
use Rattle.pt_net.specs.Net.{entity_view}
use Rattle.pt_scopes.specs.Valued as valued
use Rattle.pt_charts.specs.Readable.{AreReadableBelow}
use Rattle.pt_frames.specs.Views.{frames_view}
use Rattle.pt_charts.proofs.readable.first_unreadable.Given as goal

abbrev pub invariant-loop-number : goal.invariant-loop-number
invariant-loop-number l = AreReadableBelow (frames_view l.frames) (map entity_view l.entities) (map valued.entity_view l.values) l.number
