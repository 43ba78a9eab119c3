-- From the repetition vector and a schedule to a lawful plan.
use Rattle.std.proofs.Common.{◌≡◌, ℕ, zero, suc, ◌+◌, ◌*◌, ◌-◌, ◌<◌, ◌≤◌, true, ◌&&◌, List, [], ◌∷◌, ◌++◌, length, get_or, take, map, All, Contains, refl, ap, ap₂, sym, subst, ◌∙◌, arith, zero-add}
use Rattle.std.specs.Prelude.{nat_lt}
use Rattle.std.proofs.lemmas.Bool.Decides.{nat_tests}
use Rattle.std.proofs.lemmas.List.{get_or_append_left, get_or-append-add, get_or_default, get_or-map, length-map}
use Rattle.std.proofs.lemmas.List.Elements.{All-contains, All-map}
use Rattle.pt_meaning.specs.Streams.{Streams, at}
use Rattle.pt_meaning.specs.Net as net
use Rattle.pt_meaning.specs.Sdf.{SdfPlan, number_at}
use Rattle.pt_meaning.specs.Running.{total}
use Rattle.pt_rates.specs.Balance.{IsBalancedAt, IsSolution}
use Rattle.pt_sched.specs.Runs.{firings, put_on, taken_from, IsSchedule}
use Rattle.pt_sched.specs.declared.edge.SchedEdge.{SchedEdge}
use Rattle.pt_sched.proofs.Listing.{no_channel}
use Rattle.pt_sdf_parts.specs.ByNeed.{place_of}
use Rattle.pt_sdf_parts.specs.Lawful.{occurs, rate_at, IsNamed, NeverLacks, IsSupplied, IsLawful}
use Rattle.pt_core.specs.Source.{source_of}
use Rattle.pt_core.specs.declared.source.Source.{Source}
use Rattle.pt_core.specs.declared.source.Source.TheVariants.{Own, Output}
use Rattle.pt_plan.specs.Channels.{nodes_of, end_of, taken_at, edge_at, edge_in, channel_at, channels_of, edges_of, is_between, between}
use Rattle.pt_plan.specs.Inside.{IsThere, IsInside}
use Rattle.pt_plan.specs.Unfed.{unfed, own, sources_of, no_tokens, first_of}
use Rattle.pt_plan.specs.declared.inside.Inside.{Inside}
use Rattle.pt_plan.proofs.Numbering.{place-inside, owner-at, channels-long, channel-number}
use Rattle.pt_plan.proofs.Orders.{occurs-firings, run-tokens, run-children, kept}
use Rattle.pt_plan.proofs.UnfedLaws.{unfed-few, sources-long, first-long, sources-there}

number-in : (xs : List ℕ) (n : ℕ) → n < length xs → number_at xs n ≡ get_or xs n 0
number-in [] n h = absurd (omega arith)
number-in (x ∷ xs) zero h = refl
number-in (x ∷ xs) (suc n) h = number-in xs n (omega arith)

length-at : {T : Type 0} (first : Streams T) (n : ℕ) → length (at first n) ≡ get_or (map (λ (xs : List T). length xs) first) n 0
length-at [] n = refl
length-at (xs ∷ first) zero = refl
length-at (xs ∷ first) (suc n) = length-at first n

both-below : (a b n : ℕ) → a < n → b < n → (nat_lt a n && nat_lt b n) ≡ true
both-below a b n ha hb = grind (arith, nat_tests)

module _ (x : Inside) (h : IsInside x) (reps takes gives order : List ℕ) (lr : length reps ≡ length x.places) (lt : length takes ≡ x.inputs) where
  abbrev pub plan_with : List Source → SdfPlan
  plan_with sources = record { net = record { sources = map source_of sources; places = x.places }; repetitions = reps; takes = takes; gives = gives; rates = x.rates.items }

  abbrev pub plan : SdfPlan
  plan = plan_with (sources_of x)

  abbrev q : List ℕ
  q = reps ++ (takes ++ gives)

  rep-at : (i : ℕ) → i < length x.places → get_or q i 0 ≡ get_or reps i 0
  rep-at i short = get_or_append_left reps (takes ++ gives) 0 i (omega (arith, lr))

  take-at : (port : ℕ) → port < x.inputs → get_or q (length x.places + port) 0 ≡ get_or takes port 0
  take-at port short = ap (λ n. get_or q (n + port) 0) (sym lr) ∙ get_or-append-add reps (takes ++ gives) port 0 ∙ get_or_append_left takes gives 0 port (omega (arith, lt))

  named : (source : Source) → IsThere x source → IsNamed plan (source_of source)
  named (Own port) there = omega (arith, there, lt)
  named (Output child port) there = there

  module _ (solved : IsSolution (nodes_of x) (edges_of x) q) (schedule : IsSchedule (between x) reps order) where
    abbrev source_at : ℕ → Source
    source_at k = get_or x.sources.items k (Own 0)

    long : (k : ℕ) → k < length x.sources.items → k < length (channels_of x)
    long k short = omega (arith, short, channels-long x 0 x.sources.items)

    balanced : (k : ℕ) → k < length x.sources.items → IsBalancedAt q (edge_at x k (source_at k))
    balanced k short = subst (IsBalancedAt q) (get_or-map edge_in (channels_of x) k no_channel no_channel.edge (long k short) ∙ ap edge_in (channel-number x k no_channel (Own 0) short)) (solved.balanced k no_channel.edge (omega (arith, long k short, length-map (channels_of x) edge_in)))

    listed : (k : ℕ) → k < length x.sources.items → is_between (length x.places) (channel_at x k (source_at k)) ≡ true → Contains (between x) (channel_at x k (source_at k))
    listed k short passes =
        let is : get_or (channels_of x) k no_channel ≡ channel_at x k (source_at k) = channel-number x k no_channel (Own 0) short in
        subst (λ (c : SchedEdge). Contains (between x) c) is (kept (is_between (length x.places)) (channels_of x) k no_channel (long k short) (ap (is_between (length x.places)) is ∙ passes))

    module _ (i k : ℕ) (hi : i < length x.places) (hk : k < get_or x.places i 0) where
      abbrev c : ℕ
      c = place_of x.places i + k

      inside : c < total x.places
      inside = place-inside x.places i k hi hk

      end-is : end_of x c ≡ i
      end-is = owner-at 0 x.places i k (length x.places + x.inputs + (c - total x.places)) hi hk ∙ zero-add i

      need-is : taken_at x c ≡ get_or x.needs c 0
      need-is = get_or_default x.needs c 1 0 (omega (arith, inside, h.needed))

      taken-is : get_or q (end_of x c) 0 * taken_at x c ≡ get_or reps i 0 * get_or x.needs c 0
      taken-is = ap₂ (λ a b. a * b) (ap (λ n. get_or q n 0) end-is ∙ rep-at i hi) need-is

      -- the firing at place n of the order has its tokens on this channel
      never-lacks : (j port : ℕ) → j < length x.places → Contains (between x) (channel_at x c (Output j port)) → (first : ℕ) → first ≡ get_or x.first c 0 → NeverLacks order first i (get_or x.needs c 0) j (rate_at x.rates.items j port)
      never-lacks j port hj member first e n short next =
          let before : List ℕ = take n order in
          let rate : ℕ = rate_at x.rates.items j port in
          let tokens = All-contains (λ (channel : SchedEdge). channel.edge.to ≡ get_or order n 0 → taken_from channel (firings before) + channel.edge.consumed ≤ put_on channel (firings before)) (between x) (channel_at x c (Output j port)) (run-tokens (between x) reps schedule.run n short) member (end-is ∙ sym next) in
          let left : firings before (end_of x c) * taken_at x c + taken_at x c ≡ occurs i before * get_or x.needs c 0 + get_or x.needs c 0 = ap₂ (λ a b. a * b + b) (ap (firings before) end-is ∙ sym (occurs-firings i before)) need-is in
          let right : get_or x.first c 0 + firings before j * rate ≡ first + occurs j before * rate = ap₂ (λ a b. a + b * rate) (sym e) (sym (occurs-firings j before)) in
          omega (arith, tokens, left, right)

      by_source : (source : Source) → IsThere x source → IsBalancedAt q (edge_at x c source) → (is_between (length x.places) (channel_at x c source) ≡ true → Contains (between x) (channel_at x c source)) → (first : ℕ) → first ≡ get_or x.first c 0 → IsSupplied plan order first i (get_or x.needs c 0) (source_of source)
      by_source (Own port) there even member first e =
          let b : get_or takes port 0 * 1 ≡ get_or reps i 0 * get_or x.needs c 0 = ap (λ n. n * 1) (sym (take-at port there)) ∙ even ∙ taken-is in
          omega (arith, b, number-in takes port (omega (arith, there, lt)))
      by_source (Output j port) there even member first e =
          let b : get_or reps j 0 * rate_at x.rates.items j port ≡ get_or reps i 0 * get_or x.needs c 0 = ap (λ n. n * rate_at x.rates.items j port) (sym (rep-at j there.0)) ∙ even ∙ taken-is in
          let passes : is_between (length x.places) (channel_at x c (Output j port)) ≡ true = both-below j (end_of x c) (length x.places) there.0 (omega (arith, end-is, hi)) in
          (omega (arith, b), never-lacks j port there.0 (member passes) first e)

      supplied : (first : ℕ) → first ≡ get_or x.first c 0 → IsSupplied plan order first i (get_or x.needs c 0) (get_or plan.net.sources c (net.Own 0))
      supplied first e =
          let short : c < length x.sources.items = omega (arith, inside, h.channels) in
          let among : c < length (sources_of x) = omega (arith, short, sources-long x) in
          let is : get_or (map source_of (sources_of x)) c (net.Own 0) ≡ source_of (source_at c) = get_or-map source_of (sources_of x) c (Own 0) (net.Own 0) among ∙ ap source_of (get_or_append_left x.sources.items (map own (unfed x)) (Own 0) c short) in
          subst (λ s. IsSupplied plan order first i (get_or x.needs c 0) s) (sym is) (by_source (source_at c) (h.there c (Own 0) short) (balanced c short) (listed c short) first e)

    -- the first tokens of a place are those of the inside
    first-at : (i k : ℕ) → i < length x.places → k < get_or x.places i 0 → get_or (first_of x) (place_of x.places i + k) 0 ≡ get_or x.first (place_of x.places i + k) 0
    first-at i k hi hk = get_or_append_left x.first (map no_tokens (unfed x)) 0 (place_of x.places i + k) (omega (arith, inside i k hi hk, h.channels, h.started))

    pub lawful : {T : Type 0} (room : List ℕ) (first : Streams T) → length gives ≡ x.outputs → length room ≡ length (sources_of x) → map (λ (xs : List T). length xs) first ≡ first_of x → IsLawful plan x.needs order room first
    lawful {T} room first lg roomy held =
        let many : length (map source_of (sources_of x)) ≡ length (sources_of x) = length-map (sources_of x) source_of in
        record {
          repetitions = lr;
          rates = h.rated;
          needed = h.needed;
          channels = omega (arith, many, sources-long x, h.channels, lg);
          started = omega (arith, many, sources-long x, first-long x, length-map first (λ (xs : List T). length xs), ap (λ (ns : List ℕ). length ns) held, h.started);
          rooms = omega (arith, many, roomy);
          few = omega (arith, many, sources-long x, unfed-few x.sources.items x.inputs, h.few);
          named = All-map (IsNamed plan) source_of (sources_of x) (λ k d short. named (get_or (sources_of x) k d) (sources-there x h.there k d short));
          children = subst (λ n. All (λ child. child < n) order) lr (run-children (between x) reps schedule.run);
          often = λ i hi. occurs-firings i order ∙ schedule.complete i;
          supplied = λ i k hi hk. supplied i k hi hk (length (at first (place_of x.places i + k))) (length-at first (place_of x.places i + k) ∙ ap (λ (ns : List ℕ). get_or ns (place_of x.places i + k) 0) held ∙ first-at i k hi hk);
        }

    -- the same of the plan with these channels
    pub lawful-with : {T : Type 0} (sources : List Source) (room : List ℕ) (first : Streams T) → sources ≡ sources_of x → length gives ≡ x.outputs → length room ≡ length (sources_of x) → map (λ (xs : List T). length xs) first ≡ first_of x → IsLawful (plan_with sources) x.needs order room first
    lawful-with sources room first e lg roomy held = subst (λ (v : List Source). IsLawful (plan_with v) x.needs order room first) (sym e) (lawful room first lg roomy held)
