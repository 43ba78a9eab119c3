-- The plan of an SDF composite: the repetition vector of its balance equations, where an order of one iteration exists.
use Rattle.std.specs.Prelude.{◌≡◌, ℕ, ◌+◌, ◌*◌, ◌<◌, ◌≤◌, List, ◌++◌, length, map, sum, All, slice_index, slice_index_or, Bool, true, false}
use Rattle.pt_meaning.specs.Net.{Net}
use Rattle.pt_meaning.specs.Sdf.{SdfPlan}
use Rattle.pt_rates.specs.Balance.{IsRepetitionVector, tokens_on}
use Rattle.pt_rates.specs.declared.edge.Edge.{Edge}
use Rattle.pt_sched.specs.Runs.{IsSchedule, IsGreatestLength}
use Rattle.pt_sched.specs.declared.edge.SchedEdge.{SchedEdge}
use Rattle.pt_core.specs.Source.{source_of}
use Rattle.pt_core.specs.declared.source.Source.{Source}
use Rattle.pt_plan.specs.Channels.{nodes_of, start_of, put_at, channels_of, edges_of, between, is_between}
use Rattle.pt_plan.specs.Unfed.{own, unfed, sources_of}
use Rattle.pt_plan.specs.declared.inside.Inside.{Inside}

-- the channels of the inside, and those of its own inputs that feed nothing
abbrev pub net_of : Inside → Net
net_of x = record { sources = map source_of (sources_of x); places = x.places }

-- the repetitions of the children, then of the own inputs, then of the own outputs
abbrev pub repetitions_of : SdfPlan → List ℕ
repetitions_of p = p.repetitions ++ (p.takes ++ p.gives)

-- The plan has the inside's rates and its net, with a channel for each own input that feeds nothing, and a number for each child and each own port, which are the repetition vector. An order fires each child as often as its repetition and never lacks a token.
pub record IsPlanOf (x : Inside) (p : SdfPlan) : Type 0 where
  pub net : p.net ≡ net_of x
  pub rates : p.rates ≡ x.rates.items
  pub repetitions : length p.repetitions ≡ length x.places
  pub takes : length p.takes ≡ x.inputs
  pub gives : length p.gives ≡ x.outputs
  pub solution : IsRepetitionVector (nodes_of x) (edges_of x) (repetitions_of p)
  pub schedule : (order : List ℕ) × IsSchedule (between x) p.repetitions order

-- an iteration has at most 1,000,000 firings, each token at an own port counted too, and moves at most 1,000,000 tokens on each channel (by the profile)
pub record IsWithinLimits (x : Inside) (p : SdfPlan) : Type 0 where
  pub firings : sum (repetitions_of p) ≤ 1000000
  pub tokens : All (λ (edge : Edge). tokens_on (repetitions_of p) edge ≤ 1000000) (edges_of x)

-- the greatest number of tokens on a channel: between children by the order, and else with all that an iteration puts there
abbrev pub IsRoom : Bool → SchedEdge → (order q : List ℕ) → ℕ → Type 0
IsRoom true channel order q n = IsGreatestLength channel order n
IsRoom false channel order q n = n ≡ channel.initial + tokens_on q channel.edge

-- how many tokens an iteration puts on a channel from this source
abbrev pub put_by : Inside → (q : List ℕ) → Source → ℕ
put_by x q source = slice_index q (start_of x source) * put_at x source

-- a number for each channel of the plan: for those of the inside as above, and for one that ends nowhere all that an iteration puts there
pub record AreRooms (x : Inside) (order q room : List ℕ) : Type 0 where
  pub counted : length room ≡ length (sources_of x)
  pub each : (k : ℕ) (other : SchedEdge) → k < length x.sources.items → let channel = slice_index_or (channels_of x) k other in IsRoom (is_between (length x.places) channel) channel order q (slice_index room k)
  pub behind : (k : ℕ) → k < length (unfed x) → slice_index room (length x.sources.items + k) ≡ put_by x q (own (slice_index (unfed x) k))
