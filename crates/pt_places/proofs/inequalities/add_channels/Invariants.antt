use Rattle.std.proofs.Common.{◌≡◌, ◌++◌, map, take}
use Rattle.pt_typing.specs.Views.{inequality_view}
use Rattle.pt_inequalities.specs.Inequalities.{of_channel}
use Rattle.pt_places.proofs.inequalities.add_channels.Given as goal

abbrev pub invariant-loop-channel : goal.invariant-loop-channel
invariant-loop-channel l = map inequality_view l.inequalities.items ≡ map inequality_view l.fn.inequalities.items ++ map of_channel (take l.channel-index l.channels)
