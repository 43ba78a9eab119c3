use Rattle.std.proofs.Common.{◌≡◌, ◌+◌, map, take}
use Rattle.pt_sched.specs.declared.edge.SchedEdge.{SchedEdge}
use Rattle.pt_sched.proofs.forward.lengths_of.Given as goal

abbrev pub invariant-loop-channel : goal.invariant-loop-channel
invariant-loop-channel l = l.lengths.items ≡ map (λ (channel : SchedEdge). channel.initial + channel.edge.produced) (take l.channel-index l.edges)
