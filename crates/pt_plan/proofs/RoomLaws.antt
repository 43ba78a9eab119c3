-- The room of each channel, from the lengths of those between children.
use Rattle.std.proofs.Common.{◌≡◌, ℕ, zero, suc, ◌+◌, ◌<◌, cond, Bool, true, false, List, [], ◌∷◌, ◌++◌, length, get_or, drop, map, filter, refl, ap, ap₂, sym, subst, ◌∙◌, arith, length-append}
use Rattle.std.proofs.lemmas.List.{length-map, get_or_append_left, get_or-append-add, get_or-map}
use Rattle.pt_rates.specs.Balance.{tokens_on}
use Rattle.pt_sched.specs.Runs.{IsGreatestLength, AreGreatestLengths}
use Rattle.pt_sched.specs.declared.edge.SchedEdge.{SchedEdge}
use Rattle.pt_plan.specs.Channels.{channels_of, is_between, between}
use Rattle.pt_plan.specs.PlanOf.{IsRoom, put_by, AreRooms}
use Rattle.pt_plan.specs.Rooms.{rooms_of}
use Rattle.pt_plan.specs.Unfed.{own, unfed}
use Rattle.pt_plan.specs.declared.inside.Inside.{Inside}
use Rattle.pt_plan.proofs.Numbering.{channels-long}
use Rattle.pt_plan.proofs.UnfedLaws.{sources-long}

pub after-one : (lengths : List ℕ) (k : ℕ) → get_or (drop 1 lengths) k 0 ≡ get_or lengths (suc k) 0
after-one [] k = refl
after-one (n ∷ lengths) k = refl

pub rooms-long : (n : ℕ) (q : List ℕ) (channels : List SchedEdge) (lengths : List ℕ) → length (rooms_of n q channels lengths) ≡ length channels
rooms-long n q [] lengths = refl
rooms-long n q (channel ∷ channels) lengths = ap (λ k. suc k) (rooms-long n q channels (cond (is_between n channel) (drop 1 lengths) lengths))

module _ (n : ℕ) (q order : List ℕ) where
  abbrev AreLengths : List SchedEdge → List ℕ → Type 0
  AreLengths channels lengths = (k : ℕ) (d : SchedEdge) → k < length channels → IsGreatestLength (get_or channels k d) order (get_or lengths k 0)

  abbrev room_at : Bool → SchedEdge → List ℕ → ℕ
  room_at b channel lengths = cond b (get_or lengths 0 0) (channel.initial + tokens_on q channel.edge)

  step : (b : Bool) (channel : SchedEdge) (inner : List SchedEdge) (lengths : List ℕ) → AreLengths (cond b (channel ∷ inner) inner) lengths → IsRoom b channel order q (room_at b channel lengths) × AreLengths inner (cond b (drop 1 lengths) lengths)
  step true channel inner lengths h = (h 0 channel (omega arith), λ k d short. subst (λ m. IsGreatestLength (get_or inner k d) order m) (sym (after-one lengths k)) (h (suc k) d (omega arith)))
  step false channel inner lengths h = (refl, h)

  pub rooms-are : (channels : List SchedEdge) (lengths : List ℕ) → AreLengths (filter (is_between n) channels) lengths → (k : ℕ) (d : SchedEdge) → k < length channels → IsRoom (is_between n (get_or channels k d)) (get_or channels k d) order q (get_or (rooms_of n q channels lengths) k 0)
  rooms-are [] lengths h k d short = absurd (omega arith)
  rooms-are (channel ∷ channels) lengths h zero d short = (step (is_between n channel) channel (filter (is_between n) channels) lengths h).0
  rooms-are (channel ∷ channels) lengths h (suc k) d short = rooms-are channels (cond (is_between n channel) (drop 1 lengths) lengths) (step (is_between n channel) channel (filter (is_between n) channels) lengths h).1 k d (omega arith)

pub are-rooms : (x : Inside) (order q room lengths : List ℕ) → room ≡ rooms_of (length x.places) q (channels_of x) lengths ++ map (λ port. put_by x q (own port)) (unfed x) → AreGreatestLengths (between x) order lengths → AreRooms x order q room
are-rooms x order q room lengths e h =
    let first : List ℕ = rooms_of (length x.places) q (channels_of x) lengths in
    let rest : List ℕ = map (λ port. put_by x q (own port)) (unfed x) in
    let long : length first ≡ length x.sources.items = rooms-long (length x.places) q (channels_of x) lengths ∙ channels-long x 0 x.sources.items in
    subst (AreRooms x order q) (sym e) (record {
      counted = length-append first rest ∙ ap₂ (λ a b. a + b) long (length-map (unfed x) (λ port. put_by x q (own port))) ∙ sym (sources-long x);
      each = λ k d short.
          let channel : SchedEdge = get_or (channels_of x) k d in
          subst (λ n. IsRoom (is_between (length x.places) channel) channel order q n) (sym (get_or_append_left first rest 0 k (omega (arith, short, long))))
          (rooms-are (length x.places) q order (channels_of x) lengths h.greatest k d (omega (arith, short, channels-long x 0 x.sources.items)));
      behind = λ k short. ap (λ n. get_or (first ++ rest) (n + k) 0) (sym long) ∙ get_or-append-add first rest k 0 ∙ get_or-map (λ port. put_by x q (own port)) (unfed x) k 0 0 short;
    })
