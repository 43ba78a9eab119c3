-- The orders of the two heaps are those of the entries, the other way round.
use Rattle.std.proofs.Common.{◌≡◌, ℕ, ◌<◌, ◌≤◌, true, false, List, [], ◌∷◌, All, refl, sym, ap, subst, ◌∙◌, arith, Ordering}
use Rattle.std.proofs.lemmas.Bool.{false≢true}
use Rattle.std.proofs.lemmas.Cmp.{nat_list_cmp_total, ranked, by_ranked}
use Rattle.std.proofs.lemmas.List.Elements.{All-from_recursion, All-weaker}
use Rattle.std.specs.BinaryHeap.{IsUpperBound}
use Rattle.std.specs.Cmp.Lexicographic.{slice_cmp}
use Rattle.std.specs.declared.cmp.Ordering.TheVariants.{Less, Equal, Greater}
use Rattle.std.specs.Ordering.{is_lt, is_le, nat_cmp, ordering_then}
use Rattle.std.specs.declared.cmp.Reverse.{Reverse}
use Rattle.pt_meaning.specs.Tag.{Tag, tag_le}
use Rattle.pt_events.specs.Entries.{Entry, tag_key, depth_key, by_tag, by_depth}
use Rattle.pt_events.specs.Stores.{later_entry, due_entry, later_cmp, due_cmp}
use Rattle.pt_events.specs.declared.stores.ByTag.{ByTag}
use Rattle.pt_events.specs.declared.stores.ByDepth.{ByDepth}
use Rattle.pt_events.proofs.Orders.{not_less, tag_le-from}

then_assoc : (a b c : Ordering) → ordering_then (ordering_then a b) c ≡ ordering_then a (ordering_then b c)
then_assoc Less b c = refl
then_assoc Equal b c = refl
then_assoc Greater b c = refl

then-Equal : (a : Ordering) → ordering_then a Equal ≡ a
then-Equal Less = refl
then-Equal Equal = refl
then-Equal Greater = refl

later_cmp-is : (x y : Reverse ByTag) → later_cmp x y ≡ slice_cmp nat_cmp (tag_key (later_entry y)) (tag_key (later_entry x))
later_cmp-is x y =
    let t : Ordering = nat_cmp y.0.tag.time x.0.tag.time in
    let s : Ordering = nat_cmp y.0.tag.step x.0.tag.step in
    let d : Ordering = nat_cmp y.0.depth x.0.depth in
    let a : Ordering = nat_cmp y.0.actor x.0.actor in
    then_assoc t s (ordering_then d a) ∙ ap (λ o. ordering_then t (ordering_then s (ordering_then d o))) (sym (then-Equal a))

due_cmp-is : (x y : Reverse ByDepth) → due_cmp x y ≡ slice_cmp nat_cmp (depth_key (due_entry y)) (depth_key (due_entry x))
due_cmp-is x y =
    let t : Ordering = nat_cmp y.0.tag.time x.0.tag.time in
    let s : Ordering = nat_cmp y.0.tag.step x.0.tag.step in
    let d : Ordering = nat_cmp y.0.depth x.0.depth in
    let a : Ordering = nat_cmp y.0.actor x.0.actor in
    ap (λ o. ordering_then d (ordering_then a (ordering_then t o))) (sym (then-Equal s))

-- what isn't less in a heap's order comes first in that of the keys
turned : (o : Ordering) (xs ys : List ℕ) → o ≡ slice_cmp nat_cmp ys xs → is_lt o ≡ false → is_le (slice_cmp nat_cmp xs ys) ≡ true
turned o xs ys e h = not_less (slice_cmp nat_cmp xs ys) (subst (λ r. is_lt r ≡ false) (e ∙ nat_list_cmp_total.antisymm ys xs) h)

pub later-first : (x : Reverse ByTag) (xs : List (Reverse ByTag)) → IsUpperBound later_cmp x xs → All (λ y. by_tag (later_entry x) (later_entry y) ≡ true) xs
later-first x xs h = All-weaker (λ y. is_lt (later_cmp x y) ≡ false) (λ y. by_tag (later_entry x) (later_entry y) ≡ true) (λ y l. turned (later_cmp x y) (tag_key (later_entry x)) (tag_key (later_entry y)) (later_cmp-is x y) l) xs (All-from_recursion (λ y. is_lt (later_cmp x y) ≡ false) xs h)

pub due-first : (x : Reverse ByDepth) (xs : List (Reverse ByDepth)) → IsUpperBound due_cmp x xs → All (λ y. by_depth (due_entry x) (due_entry y) ≡ true) xs
due-first x xs h = All-weaker (λ y. is_lt (due_cmp x y) ≡ false) (λ y. by_depth (due_entry x) (due_entry y) ≡ true) (λ y l. turned (due_cmp x y) (depth_key (due_entry x)) (depth_key (due_entry y)) (due_cmp-is x y) l) xs (All-from_recursion (λ y. is_lt (due_cmp x y) ≡ false) xs h)

-- entries in the order of the queue have their tags in order
first_two : (a b c : Ordering) → is_le (ordering_then a (ordering_then b c)) ≡ true → is_le (ordering_then a b) ≡ true
first_two Less b c h = refl
first_two Equal Less c h = refl
first_two Equal Equal c h = refl
first_two Equal Greater c h = h
first_two Greater b c h = h

time_first : (a b : Tag) → is_le (ordering_then (nat_cmp a.time b.time) (nat_cmp a.step b.step)) ≡ true → tag_le a b ≡ true
time_first a b h = by_ranked (a.time < b.time) (a.time ≡ b.time) (b.time < a.time) (nat_cmp a.time b.time) (ranked a.time b.time (nat_cmp a.time b.time) refl)
    (λ _ l. tag_le-from a b (record { time = omega (arith, l); step = λ k. absurd (omega (arith, l, k)) }))
    (λ e t. tag_le-from a b (record { time = omega (arith, t); step = λ _. steps (subst (λ o. is_le (ordering_then o (nat_cmp a.step b.step)) ≡ true) e h) }))
    (λ e _. absurd (false≢true (subst (λ o. is_le (ordering_then o (nat_cmp a.step b.step)) ≡ true) e h)))
  where
    steps : is_le (nat_cmp a.step b.step) ≡ true → a.step ≤ b.step
    steps k = by_ranked (a.step < b.step) (a.step ≡ b.step) (b.step < a.step) (nat_cmp a.step b.step) (ranked a.step b.step (nat_cmp a.step b.step) refl)
        (λ _ l. omega (arith, l))
        (λ _ t. omega (arith, t))
        (λ e _. absurd (false≢true (subst (λ o. is_le o ≡ true) e k)))

pub tags-in_order : (x y : Entry) → by_tag x y ≡ true → tag_le x.tag y.tag ≡ true
tags-in_order x y h = time_first x.tag y.tag (first_two (nat_cmp x.tag.time y.tag.time) (nat_cmp x.tag.step y.tag.step) (slice_cmp nat_cmp (x.depth ∷ x.actor ∷ []) (y.depth ∷ y.actor ∷ [])) h)
