use Rattle.std.proofs.Common.{◌≡◌, take, map}
use Rattle.pt_trees.specs.Labels.{label_of}
use Rattle.pt_within.proofs.labels.labels_in.Given as goal

abbrev pub invariant-loop-channel : goal.invariant-loop-channel
invariant-loop-channel l = l.labels.items ≡ map (label_of l.net l.round) (take l.channel-index l.channels)
