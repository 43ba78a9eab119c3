use Rattle.std.proofs.Common.{◌≡◌, take}
use Rattle.pt_plan.specs.Channels.{channels_from}
use Rattle.pt_plan.proofs.channels.channels_of.Given as goal

abbrev pub invariant-loop-number : goal.invariant-loop-number
invariant-loop-number l = l.channels.items ≡ channels_from l.inside 0 (take l.number l.inside.sources.items)
