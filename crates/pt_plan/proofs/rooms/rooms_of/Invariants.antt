use Rattle.std.proofs.Common.{◌≡◌, ◌≤◌, ◌++◌, drop}
use Rattle.pt_plan.specs.Rooms.{rooms_of}
use Rattle.pt_plan.proofs.rooms.rooms_of.Given as goal

abbrev pub invariant-loop-channel : goal.invariant-loop-channel
invariant-loop-channel l = record {
  made : l.rooms.items ++ rooms_of l.n l.q (drop l.channel-index l.channels) (drop l.next l.lengths) ≡ rooms_of l.n l.q l.channels l.lengths;
  next : l.next ≤ l.channel-index;
}
