use Rattle.std.proofs.Common.{◌≡◌, ◌+◌, ◌++◌, take, map, get_or}
use Rattle.pt_plan.specs.Unfed.{own}
use Rattle.pt_plan.proofs.unfed.add_channels.Given as goal

abbrev pub invariant-loop-port : goal.invariant-loop-port
invariant-loop-port l = record {
  sources : l.sources.items ≡ l.fn.sources.items ++ map own (take l.port-index l.unfed);
  room : l.room.items ≡ l.fn.room.items ++ map (λ port. get_or l.q (l.first + port) 0) (take l.port-index l.unfed);
}
