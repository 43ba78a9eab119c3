-- The channels of a well formed inside meet what the solver and the scheduler ask for.
use Rattle.std.proofs.Common.{◌≡◌, ℕ, suc, ◌+◌, ◌-◌, ◌<◌, ◌≤◌, inl, inr, true, ◌&&◌, List, [], ◌∷◌, length, get_or, replicate, All, sym, subst, arith}
use Rattle.std.specs.Prelude.{nat_lt}
use Rattle.std.proofs.lemmas.Bool.{cases_lt}
use Rattle.std.proofs.lemmas.Bool.Decides.{nat_tests}
use Rattle.std.proofs.lemmas.List.{get_or_past, get_or-map, length-map}
use Rattle.std.proofs.lemmas.List.Elements.{All-nil, All-append, All-replicate, All-weaker, All-map, All-filter, filter_passes}
use Rattle.pt_meaning.specs.Running.{total}
use Rattle.pt_rates.specs.Balance.{IsChannel, tokens_on}
use Rattle.pt_rates.specs.declared.edge.Edge.{Edge}
use Rattle.pt_sched.specs.Channels.{IsSchedEdge}
use Rattle.pt_sched.specs.declared.edge.SchedEdge.{SchedEdge}
use Rattle.pt_core.specs.declared.source.Source.{Source}
use Rattle.pt_core.specs.declared.source.Source.TheVariants.{Own, Output}
use Rattle.pt_plan.specs.Channels.{nodes_of, owners, end_of, taken_at, start_of, put_at, edge_in, channel_at, channels_of, edges_of, is_between, between}
use Rattle.pt_plan.specs.Inside.{IsRate, IsThere, IsInside}
use Rattle.pt_plan.specs.declared.inside.Inside.{Inside}
use Rattle.pt_plan.proofs.Numbering.{owners-long, channels-long, channel-number}

-- owners are children
pub owners-below : (o : ℕ) (places : List ℕ) → All (λ i. i < o + length places) (owners o places)
owners-below o [] = All-nil (λ i. i < o + 0)
owners-below o (p ∷ places) =
    let least : o < o + suc (length places) = omega arith in
    All-append (λ i. i < o + suc (length places)) (replicate p o) (owners (suc o) places) (All-replicate (λ i. i < o + suc (length places)) p o least)
    (All-weaker (λ i. i < suc o + length places) (λ i. i < o + suc (length places)) (λ i h. omega arith) (owners (suc o) places) (owners-below (suc o) places))

module _ (x : Inside) (h : IsInside x) where
  pub end-below : (k : ℕ) → k < length x.sources.items → end_of x k < nodes_of x
  end-below k short = elim (cases_lt k (total x.places)) [
    | inl place ↦ let below : end_of x k < 0 + length x.places = owners-below 0 x.places k (length x.places + x.inputs + (k - total x.places)) (omega (arith, owners-long 0 x.places, place)) in omega arith
    | inr own ↦ omega (arith, h.channels, get_or_past (owners 0 x.places) k (length x.places + x.inputs + (k - total x.places)) (omega (arith, owners-long 0 x.places, own)))
  ]

  pub taken-rate : (k : ℕ) → IsRate (taken_at x k)
  taken-rate k = elim (cases_lt k (length x.needs)) [
    | inl place ↦ h.needs k 1 place
    | inr own ↦ let one : get_or x.needs k 1 ≡ 1 = get_or_past x.needs k 1 own in subst IsRate (sym one) (omega arith, omega arith)
  ]

  pub start-below : (source : Source) → IsThere x source → start_of x source < nodes_of x
  start-below (Own port) there = omega (arith, there)
  start-below (Output child port) there = omega (arith, there.0)

  pub put-rate : (source : Source) → IsThere x source → IsRate (put_at x source)
  put-rate (Own port) there = (omega arith, omega arith)
  put-rate (Output child port) there = h.rates child [] (omega (arith, there.0, h.rated)) port 0 there.1

  pub is-channel : (k : ℕ) (source : Source) → k < length x.sources.items → IsThere x source → IsSchedEdge (nodes_of x) (channel_at x k source)
  is-channel k source short there = record {
    between = record { starts = start-below source there; ends = end-below k short; puts = put-rate source there; takes = taken-rate k };
    first = h.firsts k 0 (omega (arith, short, h.started));
  }

  pub all-channels : All (IsSchedEdge (nodes_of x)) (channels_of x)
  all-channels k d long =
      let short : k < length x.sources.items = omega (arith, long, channels-long x 0 x.sources.items) in
      subst (IsSchedEdge (nodes_of x)) (sym (channel-number x k d (Own 0) short)) (is-channel k (get_or x.sources.items k (Own 0)) short (h.there k (Own 0) short))

  pub all-edges : All (IsChannel (nodes_of x)) (edges_of x)
  all-edges = All-map (IsChannel (nodes_of x)) edge_in (channels_of x) (λ k d long. (all-channels k d long).between)

  from-below : (a b n : ℕ) → (nat_lt a n && nat_lt b n) ≡ true → a < n
  from-below a b n e = grind (arith, nat_tests)

  to-below : (a b n : ℕ) → (nat_lt a n && nat_lt b n) ≡ true → b < n
  to-below a b n e = grind (arith, nat_tests)

  among-children : (channel : SchedEdge) → IsSchedEdge (nodes_of x) channel → is_between (length x.places) channel ≡ true → IsSchedEdge (length x.places) channel
  among-children channel c e = record {
    between = record { starts = from-below channel.edge.from channel.edge.to (length x.places) e; ends = to-below channel.edge.from channel.edge.to (length x.places) e; puts = c.between.puts; takes = c.between.takes };
    first = c.first;
  }

  pub between-channels : All (IsSchedEdge (length x.places)) (between x)
  between-channels k d long = among-children (get_or (between x) k d) (All-filter (is_between (length x.places)) (IsSchedEdge (nodes_of x)) (channels_of x) all-channels k d long) (filter_passes (is_between (length x.places)) (channels_of x) k d long)

pub channel-tokens : (x : Inside) (q : List ℕ) → All (λ (edge : Edge). tokens_on q edge ≤ 1000000) (edges_of x) → All (λ (channel : SchedEdge). tokens_on q channel.edge ≤ 1000000) (channels_of x)
channel-tokens x q h k d long = subst (λ (edge : Edge). tokens_on q edge ≤ 1000000) (get_or-map edge_in (channels_of x) k d d.edge long) (h k d.edge (omega (arith, long, length-map (channels_of x) edge_in)))
