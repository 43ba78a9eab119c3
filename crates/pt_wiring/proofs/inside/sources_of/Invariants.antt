use Rattle.std.proofs.Common.{List, take}
use Rattle.pt_net.specs.declared.net.NetEntity.{NetEntity}
use Rattle.pt_wiring.specs.Channels.{AreNumbers, AreSources}
use Rattle.pt_wiring.proofs.inside.sources_of.Given as goal

abbrev pub invariant-loop-channel : goal.invariant-loop-channel
invariant-loop-channel l = (es : List NetEntity) → AreNumbers es l.numbering.children.items l.numbering.ports.items → AreSources es (take l.channel-index l.channels) l.sources.items
