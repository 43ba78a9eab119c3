-- Laws of tokens that arrive: they are due after the tag at which they do, and come behind the others one by one.
use Rattle.std.proofs.Common.{◌≡◌, ℕ, zero, suc, ◌+◌, ◌-◌, ◌^◌, ◌≤◌, List, [], ◌∷◌, ◌++◌, length, Bool, true, false, ◌&&◌, Option, Some, None, refl, sym, ap, subst, ◌∙◌, append_assoc, add-one, arith, if◌then◌else◌}
use Rattle.std.specs.Prelude.{◌↔◌, IsSome, IfSome, option_map, nat_le, slice_get}
use Rattle.std.proofs.lemmas.Bool.{false≢true, leb-true, leb-false}
use Rattle.pt_meaning.specs.Tag.{Tag, tag_le, tag_after, within_limits}
use Rattle.pt_meaning.specs.Streams.{Streams, at}
use Rattle.pt_meaning.specs.Machine.{Partial, Unknown, partial_at}
use Rattle.pt_time.specs.Within.{IsWithin}
use Rattle.pt_time.specs.Within as counted
use Rattle.pt_value.specs.declared.token.Token.{Token}
use Rattle.pt_lib_timed.proofs.TagOrder.{tag_le-trans, up_to, tag_le-from}
use Rattle.pt_lib_timed.specs.Pending.{Event, due, before, arriving}
use Rattle.pt_lib_timed.specs.PendingStore.{behind}
use Rattle.pt_lib_timed.specs.Register.{last_of}
use Rattle.pt_lib_timed.proofs.PendingLaws.{due-later}

-- ---- the tag after a delay

-- a tag that is there exactly where it is within the limits
pub limits-is : (tag : Tag) (o : Option Tag) → (IsSome o ↔ IsWithin tag) → IfSome o (λ t. t ≡ tag) → o ≡ within_limits tag
limits-is tag o fits value = by_time (nat_le tag.time (2 ^ 62)) refl (nat_le tag.step (2 ^ 31)) refl
  where
    none : (p : Option Tag) → (IsSome p → ⊥) → p ≡ None
    none None never = refl
    none (Some t) never = absurd (never refl)

    some : (p : Option Tag) → IsSome p → IfSome p (λ t. t ≡ tag) → p ≡ Some tag
    some None is v = absurd (false≢true is)
    some (Some t) is v = ap Some v

    by_time : (b : Bool) → nat_le tag.time (2 ^ 62) ≡ b → (c : Bool) → nat_le tag.step (2 ^ 31) ≡ c → o ≡ (if b && c then Some tag else None)
    by_time true d true e = some o (fits.1 (record { ticks = leb-true tag.time (2 ^ 62) d; microsteps = leb-true tag.step (2 ^ 31) e })) value
    by_time true d false e = none o (λ is. absurd (omega (arith, (fits.0 is).microsteps, leb-false tag.step (2 ^ 31) e)))
    by_time false d c e = none o (λ is. absurd (omega (arith, (fits.0 is).ticks, leb-false tag.time (2 ^ 62) d)))

same-after : (from : Tag) (delay : ℕ) → counted.tag_after from delay ≡ tag_after from delay
same-after from zero = ap (λ n. record { time = from.time; step = n }) (add-one from.step)
same-after from (suc d) = refl

pub end-is : (from : Tag) (delay : ℕ) (o : Option Tag) → (IsSome o ↔ IsWithin (counted.tag_after from delay)) → IfSome o (λ t. t ≡ counted.tag_after from delay) → o ≡ within_limits (tag_after from delay)
end-is from delay o fits value = subst (λ t. o ≡ within_limits t) (same-after from delay) (limits-is (counted.tag_after from delay) o fits value)

-- it is later
after-up : (from : Tag) (delay : ℕ) → tag_le from (tag_after from delay) ≡ true
after-up from zero = tag_le-from from (tag_after from zero) (record { time = omega arith; step = λ k. omega arith })
after-up from (suc d) = tag_le-from from (tag_after from (suc d)) (record { time = omega arith; step = λ k. absurd (omega (arith, k)) })

not-back : (from : Tag) (delay : ℕ) → tag_le (tag_after from delay) from ≡ true → ⊥
not-back from zero h = let u = up_to (tag_after from zero) from h in let s : suc from.step ≤ from.step = u.step (omega arith) in absurd (omega (arith, s))
not-back from (suc d) h = let u = up_to (tag_after from (suc d)) from h in let t : from.time + suc d ≤ from.time = u.time in absurd (omega (arith, t))

after-not-due : (tag from : Tag) (delay : ℕ) → tag_le tag from ≡ true → tag_le (tag_after from delay) tag ≡ false
after-not-due tag from delay h = by_test (tag_le (tag_after from delay) tag) refl
  where
    by_test : (b : Bool) → tag_le (tag_after from delay) tag ≡ b → tag_le (tag_after from delay) tag ≡ false
    by_test true e = absurd (not-back from delay (tag_le-trans (tag_after from delay) tag from e h))
    by_test false e = e

-- within the limits it is the tag itself
limited : (tag end : Tag) → within_limits tag ≡ Some end → tag ≡ end
limited tag end h = by_test (nat_le tag.time (2 ^ 62) && nat_le tag.step (2 ^ 31)) h
  where
    by_test : (b : Bool) → (if b then Some tag else None) ≡ Some end → tag ≡ end
    by_test true e = cc
    by_test false e = cc

-- ---- those that arrive aren't due

pub none-arrived : (tag : Tag) (in_turn : Bool) (from : Tag) (delay : ℕ) (xs : List Token) (es : List Event) → tag_le tag from ≡ true → arriving in_turn from delay xs ≡ Some es → due tag es ≡ []
none-arrived tag in_turn from delay [] es h e = let same : [] ≡ es = cc in ap (λ v. due tag v) (sym same)
none-arrived tag in_turn from delay (x ∷ xs) es h e = by_end (within_limits (tag_after from delay)) refl e (λ onward rest. none-arrived tag in_turn onward delay xs rest)
  where
    onward : (b : Bool) (end : Tag) → tag_le tag end ≡ true → tag_le tag (if b then end else from) ≡ true
    onward true end k = k
    onward false end k = h

    by_rest : (end : Tag) → tag_after from delay ≡ end → (o : Option (List Event)) → arriving in_turn (if in_turn then end else from) delay xs ≡ o → option_map (λ rest. (end, x) ∷ rest) o ≡ Some es →
        ((rest : List Event) → tag_le tag (if in_turn then end else from) ≡ true → arriving in_turn (if in_turn then end else from) delay xs ≡ Some rest → due tag rest ≡ []) → due tag es ≡ []
    by_rest end is None k m more = cc
    by_rest end is (Some rest) k m more =
        let same : (end, x) ∷ rest ≡ es = cc in
        let later : tag_le end tag ≡ false = subst (λ t. tag_le t tag ≡ false) is (after-not-due tag from delay h) in
        let from_end : tag_le tag end ≡ true = subst (λ t. tag_le tag t ≡ true) is (tag_le-trans tag from (tag_after from delay) h (after-up from delay)) in
        ap (λ v. due tag v) (sym same) ∙ due-later tag (end, x) rest later ∙ more rest (onward in_turn end from_end) k

    by_end : (o : Option Tag) → within_limits (tag_after from delay) ≡ o → before x o (λ end. arriving in_turn (if in_turn then end else from) delay xs) ≡ Some es →
        ((next : Tag) (rest : List Event) → tag_le tag next ≡ true → arriving in_turn next delay xs ≡ Some rest → due tag rest ≡ []) → due tag es ≡ []
    by_end None k m more = cc
    by_end (Some end) k m more = by_rest end (limited (tag_after from delay) end k) (arriving in_turn (if in_turn then end else from) delay xs) refl m (more (if in_turn then end else from))

-- ---- one by one

pub none-behind : (ps : List Event) (o : Option (List Event)) → behind ps o ≡ None → o ≡ None
none-behind ps None e = refl
none-behind ps (Some es) e = cc

pub some-behind : (ps qs : List Event) (o : Option (List Event)) → Some qs ≡ behind ps o → (es : List Event) × (o ≡ Some es) × (qs ≡ ps ++ es)
some-behind ps qs None e = cc
some-behind ps qs (Some es) e = let same : qs ≡ ps ++ es = cc in (es, refl, same)

one-behind : (ps : List Event) (e : Event) (o : Option (List Event)) → behind ps (option_map (λ es. e ∷ es) o) ≡ behind (ps ++ e ∷ []) o
one-behind ps e None = refl
one-behind ps e (Some es) = ap Some (sym (append_assoc ps (e ∷ []) es))

-- where there is no such tag
pub late-here : (in_turn : Bool) (from : Tag) (delay : ℕ) (x : Token) (xs : List Token) → within_limits (tag_after from delay) ≡ None → arriving in_turn from delay (x ∷ xs) ≡ None
late-here in_turn from delay x xs h = ap (λ o. before x o (λ end. arriving in_turn (if in_turn then end else from) delay xs)) h

-- and where there is
pub more-behind : (in_turn : Bool) (from : Tag) (delay : ℕ) (x : Token) (xs : List Token) (end : Tag) (ps : List Event) → within_limits (tag_after from delay) ≡ Some end → behind ps (arriving in_turn from delay (x ∷ xs)) ≡ behind (ps ++ (end, x) ∷ []) (arriving in_turn (if in_turn then end else from) delay xs)
more-behind in_turn from delay x xs end ps h =
    ap (λ o. behind ps (before x o (λ end. arriving in_turn (if in_turn then end else from) delay xs))) h ∙ one-behind ps (end, x) (arriving in_turn (if in_turn then end else from) delay xs)

-- behind the last place nothing comes
pub at-past : (X : Streams Token) (n : ℕ) → length X ≤ n → [] ≡ at X n
at-past [] n e = refl
at-past (xs ∷ X) zero e = absurd (omega arith)
at-past (xs ∷ X) (suc n) e = at-past X n (omega arith)

pub known-past : (vs : List (Partial Token)) (n : ℕ) → length vs ≤ n → Unknown ≡ partial_at vs n
known-past [] n e = refl
known-past (v ∷ vs) zero e = absurd (omega arith)
known-past (v ∷ vs) (suc n) e = known-past vs n (omega arith)

-- the last of some tokens, by its index
last-index : (ts : List Token) (n : ℕ) → n + 1 ≡ length ts → slice_get ts n ≡ last_of ts
last-index [] n e = refl
last-index (t ∷ []) zero e = refl
last-index (t ∷ []) (suc n) e = absurd (omega (arith, e))
last-index (t ∷ u ∷ ts) zero e = absurd (omega (arith, e))
last-index (t ∷ u ∷ ts) (suc n) e = last-index (u ∷ ts) n (omega (arith, e))

pub last-is : (ts : List Token) → slice_get ts (length ts - 1) ≡ last_of ts
last-is [] = refl
last-is (t ∷ ts) = last-index (t ∷ ts) (length (t ∷ ts) - 1) (omega arith)
