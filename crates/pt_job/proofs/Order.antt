-- Events in order: by the test from the front, and place by place.
use Rattle.std.proofs.Common.{◌≡◌, ℕ, zero, suc, ◌+◌, ◌<◌, ◌≤◌, List, [], ◌∷◌, length, map, get_or, Bool, true, false, not, ◌&&◌, Option, Some, None, refl, sym, ap, subst, ◌∙◌, arith, inl, inr}
use Rattle.std.specs.Prelude.{nat_le}
use Rattle.std.proofs.lemmas.Bool.{both_ways, and_parts, and_from}
use Rattle.std.proofs.lemmas.Bool.Decides.{nat_tests}
use Rattle.std.proofs.lemmas.Option.{none-some, same_Some, slice_get-get_or, slice_get-map}
use Rattle.std.specs.List.{slice_get}
use Rattle.std.specs.Option.{option_map}
use Rattle.pt_meaning.specs.Tag.{Tag, tag_le, greatest_time, greatest_step}
use Rattle.pt_meaning.specs.Schedule.{is_after}
use Rattle.pt_document.specs.declared.job.Event.{Event}
use Rattle.pt_agenda.specs.Events as agenda
use Rattle.pt_agenda.specs.Events.{Ascend, tags_in}
use Rattle.pt_agenda.proofs.EventLaws.{tag-total, tag-trans, from-not}
use Rattle.pt_job.specs.Inputs.{tag_of, AreInOrder, comes_after, in_order_after, are_in_order}
use Rattle.pt_job.proofs.Members.{unmapped}

le-true : (a b : ℕ) → nat_le a b ≡ true → a ≤ b
le-true a b h = grind (arith, nat_tests, h)

true-le : (a b : ℕ) → a ≤ b → nat_le a b ≡ true
true-le a b h = grind (arith, nat_tests, h)

-- what is after a tag that is after another one, is after that too
later-still : (a b c : Tag) → tag_le b a ≡ false → tag_le c b ≡ false → tag_le c a ≡ false
later-still a b c h k = by-test (tag_le c a) refl
  where
    by-test : (t : Bool) → tag_le c a ≡ t → tag_le c a ≡ false
    by-test true e = absurd (both_ways (tag_le c b) k (tag-trans c a b e (tag-total b a h)))
    by-test false e = e

-- ---- one event

pub record IsWithin (e : Event) : Type 0 where
  pub time : e.time ≤ greatest_time
  pub step : e.step ≤ greatest_step

bounds : (last : Option Tag) (e : Event) → comes_after last e ≡ true → IsWithin e × (is_after last (tag_of e) ≡ true)
bounds last e h =
    let a = and_parts (nat_le e.time greatest_time) (nat_le e.step greatest_step && is_after last (tag_of e)) h in
    let b = and_parts (nat_le e.step greatest_step) (is_after last (tag_of e)) a.1 in
    (record { time = le-true e.time greatest_time a.0; step = le-true e.step greatest_step b.0 }, b.1)

from-bounds : (last : Option Tag) (e : Event) → (e.time ≤ greatest_time) × (e.step ≤ greatest_step) → is_after last (tag_of e) ≡ true → comes_after last e ≡ true
from-bounds last e h k =
    and_from (nat_le e.time greatest_time) (nat_le e.step greatest_step && is_after last (tag_of e)) (true-le e.time greatest_time h.0)
    (and_from (nat_le e.step greatest_step) (is_after last (tag_of e)) (true-le e.step greatest_step h.1) k)

-- ---- from the test

first-after : (last : Option Tag) (e : Event) (es : List Event) → in_order_after last (e ∷ es) ≡ true → (comes_after last e ≡ true) × (in_order_after (Some (tag_of e)) es ≡ true)
first-after last e es h = and_parts (comes_after last e) (in_order_after (Some (tag_of e)) es) h

each-within : (last : Option Tag) (es : List Event) → in_order_after last es ≡ true → (k : ℕ) (e : Event) → slice_get es k ≡ Some e → IsWithin e
each-within last [] h k e at = absurd (none-some e at)
each-within last (x ∷ es) h zero e at = subst (λ v. IsWithin v) (same_Some x e at) (bounds last x (first-after last x es h).0).0
each-within last (x ∷ es) h (suc k) e at = each-within (Some (tag_of x)) es (first-after last x es h).1 k e at

each-later : (t : Tag) (es : List Event) → in_order_after (Some t) es ≡ true → (k : ℕ) (e : Event) → slice_get es k ≡ Some e → tag_le (tag_of e) t ≡ false
each-later t [] h k e at = absurd (none-some e at)
each-later t (x ∷ es) h zero e at = subst (λ (v : Event). tag_le (tag_of v) t ≡ false) (same_Some x e at) (from-not-true (tag_le (tag_of x) t) (bounds (Some t) x (first-after (Some t) x es h).0).1)
  where
    from-not-true : (b : Bool) → not b ≡ true → b ≡ false
    from-not-true b k = from-not b k
each-later t (x ∷ es) h (suc k) e at =
    let p = first-after (Some t) x es h in
    later-still t (tag_of x) (tag_of e) (from-not (tag_le (tag_of x) t) (bounds (Some t) x p.0).1) (each-later (tag_of x) es p.1 k e at)

rises : (last : Option Tag) (es : List Event) → in_order_after last es ≡ true → (i j : ℕ) (e f : Event) → i < j → slice_get es i ≡ Some e → slice_get es j ≡ Some f → tag_le (tag_of f) (tag_of e) ≡ false
rises last [] h i j e f l at there = absurd (none-some e at)
rises last (x ∷ es) h zero zero e f l at there = absurd (omega (arith, l))
rises last (x ∷ es) h zero (suc j) e f l at there = subst (λ (v : Event). tag_le (tag_of f) (tag_of v) ≡ false) (same_Some x e at) (each-later (tag_of x) es (first-after last x es h).1 j f there)
rises last (x ∷ es) h (suc i) zero e f l at there = absurd (omega (arith, l))
rises last (x ∷ es) h (suc i) (suc j) e f l at there = rises (Some (tag_of x)) es (first-after last x es h).1 i j e f (omega (arith, l)) at there

pub is-in-order : (es : List Event) → are_in_order es ≡ true → AreInOrder es
is-in-order es h = record {
  bounded = λ k e at. let w = each-within None es h k e at in (w.time, w.step);
  rising = λ i j e f l at there. rises None es h i j e f l at there;
}

-- an event has few microsteps
pub few-steps : (es : List Event) (k : ℕ) (e : Event) → are_in_order es ≡ true → slice_get es k ≡ Some e → e.step ≤ greatest_step
few-steps es k e h at = (each-within None es h k e at).step

-- ---- from the places

later-places : (e : Event) (es : List Event) → AreInOrder (e ∷ es) → AreInOrder es
later-places e es o = record {
  bounded = λ k f at. o.bounded (suc k) f at;
  rising = λ i j f g l at there. o.rising (suc i) (suc j) f g (omega (arith, l)) at there;
}

test-passes : (last : Option Tag) (es : List Event) → AreInOrder es → ((k : ℕ) (e : Event) → slice_get es k ≡ Some e → is_after last (tag_of e) ≡ true) → in_order_after last es ≡ true
test-passes last [] o after = refl
test-passes last (e ∷ es) o after =
    and_from (comes_after last e) (in_order_after (Some (tag_of e)) es)
    (from-bounds last e (o.bounded 0 e refl) (after 0 e refl))
    (test-passes (Some (tag_of e)) es (later-places e es o) (λ k f at. ap not (o.rising 0 (suc k) e f (omega arith) refl at)))

pub passes : (es : List Event) → AreInOrder es → are_in_order es ≡ true
passes es o = test-passes None es o (λ k e at. refl)

-- ---- events with tokens

tag-there : (list : List agenda.Event) (es : List Event) → tags_in list ≡ map tag_of es → (k : ℕ) (d : agenda.Event) → k < length list → (e : Event) × (slice_get es k ≡ Some e) × (tag_of e ≡ (get_or list k d).0)
tag-there list es same k d l =
    unmapped tag_of es k (get_or list k d).0
    (ap (λ (ts : List Tag). slice_get ts k) (sym same) ∙ slice_get-map (λ (e : agenda.Event). e.0) list k ∙ ap (option_map (λ (e : agenda.Event). e.0)) (slice_get-get_or list k d l))

-- events that have the tags of some in order ascend
pub ascends : (list : List agenda.Event) (es : List Event) → tags_in list ≡ map tag_of es → are_in_order es ≡ true → Ascend list
ascends list es same h i j d l m =
    let e = tag-there list es same i d (omega (arith, l, m)) in
    let f = tag-there list es same j d m in
    ap (λ t. tag_le t (get_or list i d).0) (sym f.2) ∙ ap (λ t. tag_le (tag_of f.0) t) (sym e.2) ∙ rises None es h i j e.0 f.0 l e.1 f.1
