-- An event that is due has an index among the offsets, and is in a round that begins by the last tick.
use Rattle.std.proofs.Common.{◌≡◌, ℕ, zero, suc, ◌+◌, ◌^◌, ◌<◌, ◌≤◌, List, [], ◌∷◌, length, Bool, true, false, ◌&&◌, refl, sym, ap, subst, ◌∙◌, arith, if◌then◌else◌}
use Rattle.std.specs.Prelude.{Option, Some, None, IsSome, option_map, option_to_list, slice_get, nat_le}
use Rattle.std.proofs.lemmas.Bool.{false≢true}
use Rattle.std.proofs.lemmas.Bool.Decides.{nat_tests}
use Rattle.pt_meaning.specs.Tag.{Tag, is_due, within_limits}
use Rattle.pt_meaning.specs.Basics.{Streams}
use Rattle.pt_value.specs.declared.token.Token.{Token}
use Rattle.pt_value.specs.Token.{value_of, token_of, token_of-value_of}
use Rattle.pt_firing.specs.Step.{Makes}
use Rattle.pt_firing.specs.declared.outputs.Outputs.{Outputs}
use Rattle.pt_firing.specs.declared.step.Step.TheVariants.{Done}
use Rattle.pt_lib_timed.specs.declared.discrete_clock.DiscreteClock.{DiscreteClock}
use Rattle.pt_value.specs.Value.{Value}
use Rattle.pt_lib_timed.specs.Signal.{beginning, shows}
use Rattle.pt_lib_timed.specs.DiscreteClock.{offset_of, event_at, next, moved, step}

pub due-index : (round : ℕ) (vs : List Value) (i : ℕ) → IsSome (event_at round (offset_of (slice_get vs i))) → i < length vs
due-index round [] i is = absurd (false≢true is)
due-index round (v ∷ vs) zero is = omega arith
due-index round (v ∷ vs) (suc i) is = let more : i < length vs = due-index round vs i is in omega arith

-- a tag within the limits has its time by the last tick
within-time : (tag : Tag) → IsSome (within_limits tag) → tag.time ≤ 2 ^ 62
within-time tag is = by_test (nat_le tag.time (2 ^ 62)) refl is
  where
    by_test : (b : Bool) → nat_le tag.time (2 ^ 62) ≡ b → IsSome (if b && nat_le tag.step (2 ^ 31) then Some tag else None) → tag.time ≤ 2 ^ 62
    by_test true e h = first_of (grind (arith, nat_tests), cc)
    by_test false e h = absurd (false≢true h)

pub due-round : (round : ℕ) (o : Option ℕ) → IsSome (event_at round o) → round ≤ 2 ^ 62
due-round round None is = absurd (false≢true is)
due-round round (Some offset) is = let t : round + offset ≤ 2 ^ 62 = within-time (beginning (round + offset)) is in omega arith

-- a copy of the token at an index is that of the value there
pub copied-value : {R : Type 0} (now : R → Token) (o : Option R) (v : Option Value) → option_map (λ r. value_of (now r)) o ≡ v → option_map now o ≡ option_map token_of v
copied-value now None v e = ap (λ w. option_map token_of w) e
copied-value now (Some r) v e = ap Some (sym (token_of-value_of (now r))) ∙ ap (λ w. option_map token_of w) e

-- a clock whose event is due gives it, and goes on
pub clock-gives : (tag : Tag) (a after : DiscreteClock) (X : Streams Token) (value : Option Token) (out : Outputs) → is_due tag (next a) ≡ true → value ≡ option_map token_of (slice_get a.values a.index) → out ≡ option_to_list value ∷ [] → after ≡ moved a → Makes (step tag a X) a (Done out) after
clock-gives tag a after X value out due given gave went =
    let steps : step tag a X ≡ shows (moved a) (option_map token_of (slice_get a.values a.index)) = ap (λ (b : Bool). if b then shows (moved a) (option_map token_of (slice_get a.values a.index)) else shows a None) due in
    subst (λ r. Makes r a (Done out) after) (sym steps) (gave ∙ ap (λ v. option_to_list v ∷ []) given, went)
