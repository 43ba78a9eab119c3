use Rattle.std.proofs.Common.{◌≡◌, ◌-◌, map, take, drop}
use Rattle.pt_firing.specs.TriState.{partial_of}
use Rattle.pt_de_laws.specs.State.{beside_delays}
use Rattle.pt_de_parts.proofs.known.partial_at.Given as goal

abbrev pub invariant-loop-channel : goal.invariant-loop-channel
invariant-loop-channel l = map partial_of l.states.items ≡ beside_delays (take (l.channel - l.first) (drop l.first l.net.roles.delayed)) (take (l.channel - l.first) (drop l.first l.channels.lists))
