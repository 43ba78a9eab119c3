use Rattle.std.proofs.Common.{◌≡◌, map}
use Rattle.pt_net.specs.Net.{entity_view}
use Rattle.pt_scopes.specs.Valued as valued
use Rattle.pt_typing.specs.Least.{assignment}
use Rattle.pt_frames.specs.Views.{frames_view}
use Rattle.pt_resolve.specs.Broken.{first_broken}
use Rattle.pt_resolve.proofs.Breaks.{first_from}
use Rattle.pt_resolve.proofs.faults.first_broken.Given as goal

abbrev pub invariant-loop-number : goal.invariant-loop-number
invariant-loop-number l = first_broken (frames_view l.frames) (assignment l.typing) 0 (map entity_view l.entities) (map valued.entity_view l.values) ≡ first_from (frames_view l.frames) (assignment l.typing) l.entities l.values l.number
