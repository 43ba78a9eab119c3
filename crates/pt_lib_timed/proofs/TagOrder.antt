-- The order of tags is total and transitive.
use Rattle.std.proofs.Common.{◌≡◌, ◌≤◌, true, false, ◌&&◌, ◌||◌, eqb, ltb, leb, inl, inr, sym, ap, subst, ◌∙◌, arith}
use Rattle.std.proofs.lemmas.Bool.{false≢true, ltb-true, ltb-false, leb-true, leb-false, eqb-true, cases_Bool, le-leb, eq-eqb}
use Rattle.pt_meaning.specs.Tag.{Tag, tag_le}

-- the order of tags, in numbers
pub record IsUpTo (a b : Tag) : Type 0 where
  pub time : a.time ≤ b.time
  pub step : b.time ≤ a.time → a.step ≤ b.step

pub up_to : (a b : Tag) → tag_le a b ≡ true → IsUpTo a b
up_to a b h = record {
  time = elim (cases_Bool (ltb a.time b.time)) [
    | inl l ↦ omega (arith, ltb-true a.time b.time l)
    | inr n ↦ omega (arith, (equal n).0)
  ];
  step = λ k. elim (cases_Bool (ltb a.time b.time)) [
    | inl l ↦ absurd (omega (arith, ltb-true a.time b.time l))
    | inr n ↦ (equal n).1
  ];
}
  where
    equal : ltb a.time b.time ≡ false → (a.time ≡ b.time) × (a.step ≤ b.step)
    equal n =
        let rest : (eqb a.time b.time && leb a.step b.step) ≡ true = subst (λ t. (t || (eqb a.time b.time && leb a.step b.step)) ≡ true) n h in
        elim (cases_Bool (eqb a.time b.time)) [
          | inl e ↦ (eqb-true a.time b.time e, leb-true a.step b.step (subst (λ t. (t && leb a.step b.step) ≡ true) e rest))
          | inr d ↦ absurd (false≢true (subst (λ t. (t && leb a.step b.step) ≡ true) d rest))
        ]

pub tag_le-from : (a b : Tag) → IsUpTo a b → tag_le a b ≡ true
tag_le-from a b h = elim (cases_Bool (ltb a.time b.time)) [
  | inl l ↦ ap (λ t. t || (eqb a.time b.time && leb a.step b.step)) l
  | inr n ↦
      let e : a.time ≡ b.time = omega (arith, h.time, ltb-false a.time b.time n) in
      let s : a.step ≤ b.step = h.step (omega (arith, e)) in
      ap (λ t. t || (eqb a.time b.time && leb a.step b.step)) n ∙ ap (λ t. t && leb a.step b.step) (eq-eqb a.time b.time e) ∙ le-leb a.step b.step s
]

pub not_up_to : (a b : Tag) → tag_le a b ≡ false → IsUpTo b a
not_up_to a b h = elim (cases_Bool (ltb b.time a.time)) [
  | inl l ↦ record { time = omega (arith, ltb-true b.time a.time l); step = λ k. absurd (omega (arith, k, ltb-true b.time a.time l)) }
  | inr n ↦ elim (cases_Bool (leb b.step a.step)) [
    | inl s ↦ record { time = above n; step = λ k. leb-true b.step a.step s }
    | inr t ↦ absurd (false≢true (sym h ∙ tag_le-from a b (record { time = ltb-false b.time a.time n; step = λ k. omega (arith, leb-false b.step a.step t) })))
  ]
]
  where
    above : ltb b.time a.time ≡ false → b.time ≤ a.time
    above n = elim (cases_Bool (ltb a.time b.time)) [
      | inl l ↦ absurd (false≢true (sym h ∙ ap (λ t. t || (eqb a.time b.time && leb a.step b.step)) l))
      | inr m ↦ ltb-false a.time b.time m
    ]

pub tag_le-total : (a b : Tag) → tag_le a b ≡ false → tag_le b a ≡ true
tag_le-total a b h = tag_le-from b a (not_up_to a b h)

pub tag_le-trans : (a b c : Tag) → tag_le a b ≡ true → tag_le b c ≡ true → tag_le a c ≡ true
tag_le-trans a b c h k =
    let p = up_to a b h in
    let q = up_to b c k in
    tag_le-from a c (record { time = omega (arith, p.time, q.time); step = λ m. omega (arith, p.step (omega (arith, m, q.time)), q.step (omega (arith, m, p.time))) })

pub tag_le-self : (a : Tag) → tag_le a a ≡ true
tag_le-self a = tag_le-from a a (record { time = omega arith; step = λ m. omega arith })
