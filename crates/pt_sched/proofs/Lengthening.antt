-- Raising the greatest lengths after some firings, channel by channel.
use Rattle.std.proofs.Common.{◌≡◌, ℕ, ◌+◌, ◌<◌, ◌≤◌, inl, inr, max, List, ◌++◌, length, replicate, get_or, set, sym, subst, ◌∙◌, arith}
use Rattle.std.proofs.lemmas.Bool.{cases_eq}
use Rattle.std.proofs.lemmas.List.{length-set, get_or-set_same, get_or-set_other, get_or_default}
use Rattle.pt_rates.proofs.Left.{IsLeft, left-start, left-more}
use Rattle.pt_sched.specs.Lists.{AreAt}
use Rattle.pt_sched.specs.Runs.{firings, length_after, IsGreatestLength, AreGreatestLengths}
use Rattle.pt_sched.specs.declared.edge.SchedEdge.{SchedEdge}
use Rattle.pt_sched.specs.declared.lists.Side.TheVariants.{Start}
use Rattle.pt_sched.proofs.Greatest.{greatest-kept, greatest-more, greatest-same, no_longer, last-bound}
use Rattle.pt_sched.proofs.Listing.{no_channel}

-- a channel after some more firings: its greatest length counts it, or is still to be raised
pub data Raised (channel : SchedEdge) (order : List ℕ) (child times : ℕ) (outs : List ℕ) (index number most : ℕ) : Type 0 where
  raised : IsGreatestLength channel (order ++ replicate times child) most → Raised channel order child times outs index number most
  waits : IsGreatestLength channel order most → IsLeft outs index number → Raised channel order child times outs index number most

pub record AreRaised (channels : List SchedEdge) (order : List ℕ) (child times : ℕ) (outs : List ℕ) (index : ℕ) (lengths : List ℕ) : Type 0 where
  pub counted : length lengths ≡ length channels
  pub each : (k : ℕ) → k < length channels → Raised (get_or channels k no_channel) order child times outs index k (get_or lengths k 0)

pub raised-start : (channels : List SchedEdge) (order : List ℕ) (child times : ℕ) (outs lengths : List ℕ) → AreAt Start channels child outs → AreGreatestLengths channels order lengths → AreRaised channels order child times outs 0 lengths
raised-start channels order child times outs lengths at h = record {
  counted = h.counted;
  each = λ k short.
      let channel : SchedEdge = get_or channels k no_channel in
      let most : ℕ = get_or lengths k 0 in
      let greatest : IsGreatestLength channel order most = h.greatest k no_channel short in
      elim (cases_eq channel.edge.from child) [
        | inl e ↦ waits greatest (left-start outs k (at.every k no_channel short e))
        | inr d ↦ raised (greatest-kept channel order child times most greatest (omega (arith, no_longer channel order child times d, last-bound channel order child times most greatest)))
      ];
}

pub raised-step : (channels : List SchedEdge) (order : List ℕ) (child times : ℕ) (outs : List ℕ) (index : ℕ) (lengths : List ℕ) (number most : ℕ) → number ≡ get_or outs index 0 → number < length channels → most ≡ max (get_or lengths number 0) (length_after (get_or channels number no_channel) (firings (order ++ replicate times child))) → AreRaised channels order child times outs index lengths → AreRaised channels order child times outs (index + 1) (set lengths number most)
raised-step channels order child times outs index lengths number most at inside is h = record {
  counted = length-set lengths number most ∙ h.counted;
  each = λ k short. elim (cases_eq k number) [
    | inl e ↦ subst (λ m. Raised (get_or channels m no_channel) order child times outs (index + 1) m (get_or (set lengths number most) m 0)) (sym e) (raised (here (h.each number inside)))
    | inr d ↦ subst (Raised (get_or channels k no_channel) order child times outs (index + 1) k) (sym (get_or-set_other lengths number k most 0 d)) (elsewhere k d (h.each k short))
  ];
}
  where
    value : most ≡ max (get_or lengths number 0) (length_after (get_or channels number no_channel) (firings (order ++ replicate times child))) → get_or (set lengths number most) number 0 ≡ max (get_or lengths number 0) (length_after (get_or channels number no_channel) (firings (order ++ replicate times child)))
    value e = get_or-set_same lengths number most 0 (omega (arith, inside, h.counted)) ∙ e

    here : Raised (get_or channels number no_channel) order child times outs index number (get_or lengths number 0) → IsGreatestLength (get_or channels number no_channel) (order ++ replicate times child) (get_or (set lengths number most) number 0)
    here (raised g) = subst (IsGreatestLength (get_or channels number no_channel) (order ++ replicate times child)) (sym (value is)) (greatest-same (get_or channels number no_channel) (order ++ replicate times child) (get_or lengths number 0) g)
    here (waits g left) = subst (IsGreatestLength (get_or channels number no_channel) (order ++ replicate times child)) (sym (value is)) (greatest-more (get_or channels number no_channel) order child times (get_or lengths number 0) g)

    elsewhere : (k : ℕ) → (k ≡ number → ⊥) → Raised (get_or channels k no_channel) order child times outs index k (get_or lengths k 0) → Raised (get_or channels k no_channel) order child times outs (index + 1) k (get_or lengths k 0)
    elsewhere k d (raised g) = raised g
    elsewhere k d (waits g left) = elim (left-more outs index k left) [
      | inl e ↦ absurd (d (sym e ∙ sym at))
      | inr more ↦ waits g more
    ]

pub raised-all : (channels : List SchedEdge) (order : List ℕ) (child times : ℕ) (outs : List ℕ) (index : ℕ) (lengths : List ℕ) → length outs ≤ index → AreRaised channels order child times outs index lengths → AreGreatestLengths channels (order ++ replicate times child) lengths
raised-all channels order child times outs index lengths over h = record {
  counted = h.counted;
  greatest = λ k d short. subst (λ c. IsGreatestLength c (order ++ replicate times child) (get_or lengths k 0)) (get_or_default channels k no_channel d short) (all k (h.each k short));
}
  where
    all : (k : ℕ) → Raised (get_or channels k no_channel) order child times outs index k (get_or lengths k 0) → IsGreatestLength (get_or channels k no_channel) (order ++ replicate times child) (get_or lengths k 0)
    all k (raised g) = g
    all k (waits g left) = absurd (omega (arith, left.behind, left.inside))
