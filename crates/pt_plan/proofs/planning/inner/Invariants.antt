use Rattle.std.proofs.Common.{◌≡◌, take, filter}
use Rattle.pt_plan.specs.Channels.{is_between}
use Rattle.pt_plan.proofs.planning.inner.Given as goal

abbrev pub invariant-loop-channel : goal.invariant-loop-channel
invariant-loop-channel l = l.inner.items ≡ filter (is_between l.n) (take l.channel-index l.channels)
