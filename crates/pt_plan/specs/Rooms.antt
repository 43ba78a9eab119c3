-- The room of each channel, as the planner makes it.
use Rattle.std.specs.Prelude.{ℕ, ◌+◌, List, [], ◌∷◌, drop, slice_index, if◌then◌else◌}
use Rattle.pt_rates.specs.Balance.{tokens_on}
use Rattle.pt_sched.specs.declared.edge.SchedEdge.{SchedEdge}
use Rattle.pt_plan.specs.Channels.{is_between}

-- a length for each channel between two of n children, and else the first tokens with those that an iteration puts there
abbrev pub rooms_of : (n : ℕ) (q : List ℕ) → List SchedEdge → (lengths : List ℕ) → List ℕ
rooms_of n q [] lengths = []
rooms_of n q (channel ∷ channels) lengths =
    (if is_between n channel then slice_index lengths 0 else channel.initial + tokens_on q channel.edge)
    ∷ rooms_of n q channels (if is_between n channel then drop 1 lengths else lengths)
