-- The network of a core, and what it is with its tables.
use Rattle.std.specs.Prelude.{◌≡◌, ℕ, max, length, map, Some}
use Rattle.pt_meaning.specs.Streams.{at, get}
use Rattle.pt_value.specs.declared.token.Token.{Token}
use Rattle.pt_core.specs.declared.source.Source.{Source}
use Rattle.pt_core.specs.Source.{source_of}
use Rattle.pt_reaction.specs.Offsets.{begins}
use Rattle.pt_pn_laws.specs.State as state
use Rattle.pt_process.specs.declared.network.Network.TheInside.{Inside}
use Rattle.pt_process.specs.Plan.{network_of, IsSoundNetwork, AreFans}
use Rattle.pt_puts.specs.Fans.{fans_in}

abbrev pub seen_network : Inside → state.Network Token
seen_network n = network_of n.plan

-- a sound network keeps its tables
pub record IsSound (n : Inside) : Type 0 where
  pub sound : IsSoundNetwork (network_of n.plan)
  pub offsets : n.offsets.items ≡ begins 0 n.plan.places
  pub fans : AreFans (map source_of n.plan.sources.items) (fans_in n.fans.items)

-- the greatest capacity of a channel: the maximum, or the number of its first tokens where that is more
abbrev pub greatest_in : state.Network Token → ℕ → ℕ
greatest_in n c = max n.maximum (length (at n.first c))

-- the channel begins there
abbrev pub IsSourceAt : state.Network Token → ℕ → Source → Type 0
IsSourceAt n c s = get n.plan.net.sources c ≡ Some (source_of s)
