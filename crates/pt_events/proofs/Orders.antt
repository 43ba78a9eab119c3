-- Total orders as tests, and that those of entries and of tags are such.
use Rattle.std.proofs.Common.{◌≡◌, ℕ, ◌<◌, ◌≤◌, Bool, true, false, ◌&&◌, ◌||◌, eqb, ltb, leb, [], ◌∷◌, refl, sym, ap, subst, ◌∙◌, arith, Ordering, inl, inr}
use Rattle.std.proofs.lemmas.Bool.{false≢true, ltb-true, ltb-false, leb-true, leb-false, eqb-true, cases_Bool, le-leb, eq-eqb}
use Rattle.std.proofs.lemmas.Cmp.{upto, ranked, by_ranked}
use Rattle.std.proofs.lemmas.Cmp.{nat_list_cmp_total}
use Rattle.std.specs.Cmp.{IsTotalOrder}
use Rattle.std.specs.Cmp.Lexicographic.{slice_cmp}
use Rattle.std.specs.declared.cmp.Ordering.TheVariants.{Less, Equal, Greater}
use Rattle.std.specs.Ordering.{is_le, is_gt, is_lt, nat_cmp, ordering_then, ordering_reverse}
use Rattle.pt_meaning.specs.Tag.{Tag, tag_le}
use Rattle.pt_events.specs.Entries.{Entry, tag_key, depth_key, by_tag, by_depth}

-- a total order, as the test whether one element may come before another
pub record IsOrder {X : Type 0} (before : X → X → Bool) : Type 0 where
  pub total : (x y : X) → before x y ≡ false → before y x ≡ true
  pub trans : (x y z : X) → before x y ≡ true → before y z ≡ true → before x z ≡ true
  pub antisymm : (x y : X) → before x y ≡ true → before y x ≡ true → x ≡ y

pub itself : {X : Type 0} {before : X → X → Bool} (o : IsOrder before) (x : X) → before x x ≡ true
itself {before = before} o x = elim (cases_Bool (before x x)) [ inl e ↦ e | inr e ↦ o.total x x e ]

-- where an answer and its reverse stand
not_gt : (o : Ordering) → is_le o ≡ true → is_gt o ≡ false
not_gt Less h = refl
not_gt Equal h = refl
not_gt Greater h = absurd (false≢true h)

from_not_gt : (o : Ordering) → is_gt o ≡ false → is_le o ≡ true
from_not_gt Less h = refl
from_not_gt Equal h = refl
from_not_gt Greater h = absurd (false≢true (sym h))

turned : (o : Ordering) → is_le (ordering_reverse o) ≡ false → is_le o ≡ true
turned Less h = refl
turned Equal h = refl
turned Greater h = absurd (false≢true (sym h))

pub not_less : (o : Ordering) → is_lt (ordering_reverse o) ≡ false → is_le o ≡ true
not_less Less h = refl
not_less Equal h = refl
not_less Greater h = absurd (false≢true (sym h))

both : (o : Ordering) → is_le (ordering_reverse o) ≡ true → is_le o ≡ true → ordering_reverse o ≡ Equal
both Less h k = absurd (false≢true h)
both Equal h k = refl
both Greater h k = absurd (false≢true k)

module _ {K X : Type 0} (R : K → K → Ordering) (o : IsTotalOrder R) (key : X → K) (same : (x y : X) → R (key x) (key y) ≡ Equal → x ≡ y) where
  -- an order of keys is one of the elements, where equal keys are those of equal elements
  pub order_by : IsOrder (λ x y. is_le (R (key x) (key y)))
  order_by = record {
    total = λ x y h. turned (R (key y) (key x)) (subst (λ r. is_le r ≡ false) (o.antisymm (key x) (key y)) h);
    trans = λ x y z h k. from_not_gt (R (key x) (key z)) (upto o (key x) (key y) (key z) (not_gt (R (key x) (key y)) h) (not_gt (R (key y) (key z)) k));
    antisymm = λ x y h k. same x y (o.antisymm (key x) (key y) ∙ both (R (key y) (key x)) (subst (λ r. is_le r ≡ true) (o.antisymm (key x) (key y)) h) k);
  }

-- equal numbers, and equal lists of four numbers
nat_same : (x y : ℕ) → nat_cmp x y ≡ Equal → x ≡ y
nat_same x y e = by_ranked (x < y) (x ≡ y) (y < x) (nat_cmp x y) (ranked x y (nat_cmp x y) refl) (λ l _. absurd (other l)) (λ _ s. s) (λ g _. absurd (above g))
  where
    other : nat_cmp x y ≡ Less → ⊥
    other l = let no : Less ≡ Equal = sym l ∙ e in cc

    above : nat_cmp x y ≡ Greater → ⊥
    above g = let no : Greater ≡ Equal = sym g ∙ e in cc

then_both : (a b : Ordering) → ordering_then a b ≡ Equal → (a ≡ Equal) × (b ≡ Equal)
then_both Less b e = cc
then_both Equal b e = (refl, e)
then_both Greater b e = cc

record AreSame (a b c d x y z w : ℕ) : Type 0 where
  first : a ≡ x
  second : b ≡ y
  third : c ≡ z
  fourth : d ≡ w

four_same : (a b c d x y z w : ℕ) → slice_cmp nat_cmp (a ∷ b ∷ c ∷ d ∷ []) (x ∷ y ∷ z ∷ w ∷ []) ≡ Equal → AreSame a b c d x y z w
four_same a b c d x y z w e =
    let p = then_both (nat_cmp a x) (slice_cmp nat_cmp (b ∷ c ∷ d ∷ []) (y ∷ z ∷ w ∷ [])) e in
    let q = then_both (nat_cmp b y) (slice_cmp nat_cmp (c ∷ d ∷ []) (z ∷ w ∷ [])) p.1 in
    let r = then_both (nat_cmp c z) (slice_cmp nat_cmp (d ∷ []) (w ∷ [])) q.1 in
    let s = then_both (nat_cmp d w) (slice_cmp nat_cmp [] []) r.1 in
    record { first = nat_same a x p.0; second = nat_same b y q.0; third = nat_same c z r.0; fourth = nat_same d w s.0 }

entry_same : (x y : Entry) → x.tag.time ≡ y.tag.time → x.tag.step ≡ y.tag.step → x.depth ≡ y.depth → x.actor ≡ y.actor → x ≡ y
entry_same x y t s d a = λ i. record { tag = record { time = t i; step = s i }; depth = d i; actor = a i }

pub by_tag-order : IsOrder by_tag
by_tag-order = order_by (slice_cmp nat_cmp) nat_list_cmp_total tag_key (λ x y e.
    let h = four_same x.tag.time x.tag.step x.depth x.actor y.tag.time y.tag.step y.depth y.actor e in
    entry_same x y h.first h.second h.third h.fourth)

pub by_depth-order : IsOrder by_depth
by_depth-order = order_by (slice_cmp nat_cmp) nat_list_cmp_total depth_key (λ x y e.
    let h = four_same x.depth x.actor x.tag.time x.tag.step y.depth y.actor y.tag.time y.tag.step e in
    entry_same x y h.third h.fourth h.first h.second)

-- the order of tags, in numbers
pub record IsUpTo (a b : Tag) : Type 0 where
  pub time : a.time ≤ b.time
  pub step : b.time ≤ a.time → a.step ≤ b.step

pub up_to : (a b : Tag) → tag_le a b ≡ true → IsUpTo a b
up_to a b h = record {
  time = elim (cases_Bool (ltb a.time b.time)) [
    | inl l ↦ omega (arith, ltb-true a.time b.time l)
    | inr n ↦ omega (arith, (equal n).0)
  ];
  step = λ k. elim (cases_Bool (ltb a.time b.time)) [
    | inl l ↦ absurd (omega (arith, ltb-true a.time b.time l))
    | inr n ↦ (equal n).1
  ];
}
  where
    equal : ltb a.time b.time ≡ false → (a.time ≡ b.time) × (a.step ≤ b.step)
    equal n =
        let rest : (eqb a.time b.time && leb a.step b.step) ≡ true = subst (λ t. (t || (eqb a.time b.time && leb a.step b.step)) ≡ true) n h in
        elim (cases_Bool (eqb a.time b.time)) [
          | inl e ↦ (eqb-true a.time b.time e, leb-true a.step b.step (subst (λ t. (t && leb a.step b.step) ≡ true) e rest))
          | inr d ↦ absurd (false≢true (subst (λ t. (t && leb a.step b.step) ≡ true) d rest))
        ]

pub tag_le-from : (a b : Tag) → IsUpTo a b → tag_le a b ≡ true
tag_le-from a b h = elim (cases_Bool (ltb a.time b.time)) [
  | inl l ↦ ap (λ t. t || (eqb a.time b.time && leb a.step b.step)) l
  | inr n ↦
      let e : a.time ≡ b.time = omega (arith, h.time, ltb-false a.time b.time n) in
      let s : a.step ≤ b.step = h.step (omega (arith, e)) in
      ap (λ t. t || (eqb a.time b.time && leb a.step b.step)) n ∙ ap (λ t. t && leb a.step b.step) (eq-eqb a.time b.time e) ∙ le-leb a.step b.step s
]

pub not_up_to : (a b : Tag) → tag_le a b ≡ false → IsUpTo b a
not_up_to a b h = elim (cases_Bool (ltb b.time a.time)) [
  | inl l ↦ record { time = omega (arith, ltb-true b.time a.time l); step = λ k. absurd (omega (arith, k, ltb-true b.time a.time l)) }
  | inr n ↦ elim (cases_Bool (leb b.step a.step)) [
    | inl s ↦ record { time = above n; step = λ k. leb-true b.step a.step s }
    | inr t ↦ absurd (false≢true (sym h ∙ tag_le-from a b (record { time = ltb-false b.time a.time n; step = λ k. omega (arith, leb-false b.step a.step t) })))
  ]
]
  where
    above : ltb b.time a.time ≡ false → b.time ≤ a.time
    above n = elim (cases_Bool (ltb a.time b.time)) [
      | inl l ↦ absurd (false≢true (sym h ∙ ap (λ t. t || (eqb a.time b.time && leb a.step b.step)) l))
      | inr m ↦ ltb-false a.time b.time m
    ]

pub tag_le-order : IsOrder tag_le
tag_le-order = record {
  total = λ a b h. tag_le-from b a (not_up_to a b h);
  trans = λ a b c h k.
      let p = up_to a b h in
      let q = up_to b c k in
      tag_le-from a c (record { time = omega (arith, p.time, q.time); step = λ m. omega (arith, p.step (omega (arith, m, q.time)), q.step (omega (arith, m, p.time))) });
  antisymm = λ a b h k.
      let p = up_to a b h in
      let q = up_to b a k in
      let t : a.time ≡ b.time = omega (arith, p.time, q.time) in
      let s : a.step ≡ b.step = omega (arith, p.step q.time, q.step p.time) in
      λ i. record { time = t i; step = s i };
}
