-- A wake as a pair of numbers, so that pairs are in the order of wakes: none is behind all others.
use Rattle.std.specs.Prelude.{◌≡◌, ℕ, Bool, ◌+◌, ◌*◌, ◌≤◌, Option, Some, None, nat_lt, if◌then◌else◌}
use Rattle.std.proofs.Common.{ltb, sym, ap, ◌∙◌, inl, inr}
use Rattle.std.proofs.lemmas.Bool.{cases_Bool, ltb-false}
use Rattle.pt_meaning.specs.Tag.{Tag}
use Rattle.pt_wakes.specs.declared.tags.Wake.TheInside.{Inside}

-- the numbers below 2^32 are the microsteps of tags
abbrev pub past_steps : ℕ
past_steps = 4294967296

-- 2^64 - 1, the greatest number of a pair
abbrev pub greatest : ℕ
greatest = 18446744073709551615

-- the wake that a pair stands for
abbrev pub wake_in : Inside → Option Tag
wake_in w = if nat_lt w.step past_steps then Some (record { time = w.time; step = w.step }) else None

-- the pair of a wake
abbrev pub pair_of : Option Tag → Inside
pair_of None = record { time = greatest; step = greatest }
pair_of (Some t) = record { time = t.time; step = t.step }

-- where it stands for none, both numbers are the greatest
pub record IsPair (w : Inside) : Type 0 where
  pub time : past_steps ≤ w.step → w.time ≡ greatest
  pub step : past_steps ≤ w.step → w.step ≡ greatest

-- so a pair is that of its wake
pub pair-again : (w : Inside) → IsPair w → pair_of (wake_in w) ≡ w
pair-again w p = elim (cases_Bool (ltb w.step past_steps)) [
  | inl e ↦ ap (λ (b : Bool). pair_of (let o : Option Tag = if b then Some (record { time = w.time; step = w.step }) else None in o)) e
  | inr e ↦ ap (λ (b : Bool). pair_of (let o : Option Tag = if b then Some (record { time = w.time; step = w.step }) else None in o)) e ∙ (λ i. record { time = sym (p.time (ltb-false w.step past_steps e)) i; step = sym (p.step (ltb-false w.step past_steps e)) i })
]

-- two numbers below 2^64 as one, by which pairs are compared
abbrev pub joined : ℕ → ℕ → ℕ
joined time step = time * 18446744073709551616 + step
