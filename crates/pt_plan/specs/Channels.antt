-- The balance equations of a composite, own ports included (Lee & Messerschmitt 1987; the book, "Dataflow").
-- The unknowns are the repetitions of the children, then of the own inputs, then of the own outputs. An own port moves one token per repetition.
use Rattle.std.specs.Prelude.{ℕ, suc, ◌+◌, ◌-◌, List, [], ◌∷◌, ◌++◌, length, get_or, replicate, map, filter, Bool, ◌&&◌, nat_lt}
use Rattle.pt_meaning.specs.Running.{total}
use Rattle.pt_rates.specs.declared.edge.Edge.{Edge}
use Rattle.pt_sched.specs.declared.edge.SchedEdge.{SchedEdge}
use Rattle.pt_sdf_parts.specs.Lawful.{rate_at}
use Rattle.pt_core.specs.declared.source.Source.{Source}
use Rattle.pt_core.specs.declared.source.Source.TheVariants.{Own, Output}
use Rattle.pt_plan.specs.declared.inside.Inside.{Inside}

-- how many unknowns there are
abbrev pub nodes_of : Inside → ℕ
nodes_of x = length x.places + x.inputs + x.outputs

-- the child of each place, where the first of the children has number i
abbrev pub owners : (i : ℕ) (places : List ℕ) → List ℕ
owners i [] = []
owners i (p ∷ places) = replicate p i ++ owners (suc i) places

-- where channel k ends: at a child, or at an own output
abbrev pub end_of : Inside → ℕ → ℕ
end_of x k = get_or (owners 0 x.places) k (length x.places + x.inputs + (k - total x.places))

-- how many tokens a repetition of this end takes from channel k
abbrev pub taken_at : Inside → ℕ → ℕ
taken_at x k = get_or x.needs k 1

-- where a channel from this source begins
abbrev pub start_of : Inside → Source → ℕ
start_of x (Own port) = length x.places + port
start_of x (Output child port) = child

-- how many tokens a repetition of this start puts on a channel
abbrev pub put_at : Inside → Source → ℕ
put_at x (Own port) = 1
put_at x (Output child port) = rate_at x.rates.items child port

abbrev pub edge_at : Inside → ℕ → Source → Edge
edge_at x k source = record { from = start_of x source; produced = put_at x source; to = end_of x k; consumed = taken_at x k }

-- channel k with its first tokens
abbrev pub channel_at : Inside → ℕ → Source → SchedEdge
channel_at x k source = record { edge = edge_at x k source; initial = get_or x.first k 0 }

-- the channels from number k on
abbrev pub channels_from : Inside → ℕ → List Source → List SchedEdge
channels_from x k [] = []
channels_from x k (source ∷ sources) = channel_at x k source ∷ channels_from x (suc k) sources

abbrev pub channels_of : Inside → List SchedEdge
channels_of x = channels_from x 0 x.sources.items

abbrev pub edge_in : SchedEdge → Edge
edge_in channel = channel.edge

abbrev pub edges_of : Inside → List Edge
edges_of x = map edge_in (channels_of x)

-- a channel between two of n children
abbrev pub is_between : ℕ → SchedEdge → Bool
is_between n channel = nat_lt channel.edge.from n && nat_lt channel.edge.to n

-- the channels between children. Those of own ports are left out of the order of firings, since all inputs of an iteration are there before it begins, and its outputs have room.
abbrev pub between : Inside → List SchedEdge
between x = filter (is_between (length x.places)) (channels_of x)
