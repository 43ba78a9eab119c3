-- The lesser of wakes: in what order it is taken makes no difference.
use Rattle.std.proofs.Common.{◌≡◌, ◌≤◌, true, false, cond, ◌&&◌, ◌||◌, eqb, ltb, leb, Option, Some, None, refl, sym, ap, subst, ◌∙◌, arith, inl, inr}
use Rattle.std.proofs.lemmas.Bool.{false≢true, ltb-true, ltb-false, leb-true, leb-false, eqb-true, cases_Bool, le-leb, eq-eqb}
use Rattle.pt_meaning.specs.Tag.{Tag, tag_le, earlier, is_due}

-- the order of tags, in numbers
pub record IsUpTo (a b : Tag) : Type 0 where
  pub time : a.time ≤ b.time
  pub step : b.time ≤ a.time → a.step ≤ b.step

pub up_to : (a b : Tag) → tag_le a b ≡ true → IsUpTo a b
up_to a b h = elim (cases_Bool (ltb a.time b.time)) [
  | inl l ↦ let t = ltb-true a.time b.time l in record { time = omega (arith, t); step = λ k. absurd (omega (arith, t, k)) }
  | inr n ↦
      let rest : (eqb a.time b.time && leb a.step b.step) ≡ true = subst (λ t. (t || (eqb a.time b.time && leb a.step b.step)) ≡ true) n h in
      elim (cases_Bool (eqb a.time b.time)) [
        | inl e ↦
            let t = eqb-true a.time b.time e in
            let s = leb-true a.step b.step (subst (λ t. (t && leb a.step b.step) ≡ true) e rest) in
            record { time = omega (arith, t); step = λ k. s }
        | inr d ↦ absurd (false≢true (subst (λ t. (t && leb a.step b.step) ≡ true) d rest))
      ]
]

pub from_numbers : (a b : Tag) → IsUpTo a b → tag_le a b ≡ true
from_numbers a b h = elim (cases_Bool (ltb a.time b.time)) [
  | inl l ↦ ap (λ t. t || (eqb a.time b.time && leb a.step b.step)) l
  | inr n ↦
      let e : a.time ≡ b.time = omega (arith, h.time, ltb-false a.time b.time n) in
      let s : a.step ≤ b.step = h.step (omega (arith, e)) in
      ap (λ t. t || (eqb a.time b.time && leb a.step b.step)) n ∙ ap (λ t. t && leb a.step b.step) (eq-eqb a.time b.time e) ∙ le-leb a.step b.step s
]

tag-total : (a b : Tag) → tag_le a b ≡ false → tag_le b a ≡ true
tag-total a b h = elim (cases_Bool (ltb b.time a.time)) [
  | inl l ↦ ap (λ t. t || (eqb b.time a.time && leb b.step a.step)) l
  | inr n ↦ elim (cases_Bool (leb b.step a.step)) [
    | inl s ↦ from_numbers b a (record { time = above (ltb-false b.time a.time n); step = λ k. leb-true b.step a.step s })
    | inr t ↦ absurd (false≢true (sym h ∙ from_numbers a b (record { time = ltb-false b.time a.time n; step = λ k. omega (arith, leb-false b.step a.step t) })))
  ]
]
  where
    above : a.time ≤ b.time → b.time ≤ a.time
    above le = elim (cases_Bool (ltb a.time b.time)) [
      | inl l ↦ absurd (false≢true (sym h ∙ ap (λ t. t || (eqb a.time b.time && leb a.step b.step)) l))
      | inr m ↦ ltb-false a.time b.time m
    ]

pub tag-trans : (a b c : Tag) → tag_le a b ≡ true → tag_le b c ≡ true → tag_le a c ≡ true
tag-trans a b c h k =
    let p = up_to a b h in
    let q = up_to b c k in
    from_numbers a c (record { time = omega (arith, p.time, q.time); step = λ m. omega (arith, p.step (omega (arith, m, q.time)), q.step (omega (arith, m, p.time))) })

tag-antisymm : (a b : Tag) → tag_le a b ≡ true → tag_le b a ≡ true → a ≡ b
tag-antisymm a b h k =
    let p = up_to a b h in
    let q = up_to b a k in
    let t : a.time ≡ b.time = omega (arith, p.time, q.time) in
    let s : a.step ≡ b.step = omega (arith, p.step q.time, q.step p.time) in
    λ i. record { time = t i; step = s i }

-- the lesser is known from the test
pub first_one : (a b : Tag) → tag_le a b ≡ true → earlier (Some a) (Some b) ≡ Some a
first_one a b h = ap (λ t. cond t (Some a) (Some b)) h

pub second_one : (a b : Tag) → tag_le a b ≡ false → earlier (Some a) (Some b) ≡ Some b
second_one a b h = ap (λ t. cond t (Some a) (Some b)) h

pub earlier-none : (a : Option Tag) → earlier a None ≡ a
earlier-none None = refl
earlier-none (Some a) = refl

pub earlier-self : (a : Option Tag) → earlier a a ≡ a
earlier-self None = refl
earlier-self (Some a) = elim (cases_Bool (tag_le a a)) [
  | inl e ↦ first_one a a e
  | inr e ↦ second_one a a e
]

pub earlier-comm : (a b : Option Tag) → earlier a b ≡ earlier b a
earlier-comm None b = sym (earlier-none b)
earlier-comm (Some a) None = refl
earlier-comm (Some a) (Some b) = elim (cases_Bool (tag_le a b)) [
  | inl e ↦ elim (cases_Bool (tag_le b a)) [
    | inl f ↦ first_one a b e ∙ ap Some (tag-antisymm a b e f) ∙ sym (first_one b a f)
    | inr f ↦ first_one a b e ∙ sym (second_one b a f)
  ]
  | inr e ↦ second_one a b e ∙ sym (first_one b a (tag-total a b e))
]

pub earlier-assoc : (a b c : Option Tag) → earlier (earlier a b) c ≡ earlier a (earlier b c)
earlier-assoc None b c = refl
earlier-assoc (Some a) None c = refl
earlier-assoc (Some a) (Some b) None = earlier-none (earlier (Some a) (Some b))
earlier-assoc (Some a) (Some b) (Some c) = elim (cases_Bool (tag_le a b)) [
  | inl e ↦ elim (cases_Bool (tag_le b c)) [
    | inl f ↦ ap (λ x. earlier x (Some c)) (first_one a b e) ∙ first_one a c (tag-trans a b c e f) ∙ sym (first_one a b e) ∙ sym (ap (earlier (Some a)) (first_one b c f))
    | inr f ↦ ap (λ x. earlier x (Some c)) (first_one a b e) ∙ sym (ap (earlier (Some a)) (second_one b c f))
  ]
  | inr e ↦ elim (cases_Bool (tag_le b c)) [
    | inl f ↦ ap (λ x. earlier x (Some c)) (second_one a b e) ∙ first_one b c f ∙ sym (second_one a b e) ∙ sym (ap (earlier (Some a)) (first_one b c f))
    | inr f ↦ ap (λ x. earlier x (Some c)) (second_one a b e) ∙ second_one b c f ∙ sym (later e f) ∙ sym (ap (earlier (Some a)) (second_one b c f))
  ]
]
  where
    same : tag_le a b ≡ false → tag_le b c ≡ false → tag_le a c ≡ true → Some a ≡ Some c
    same e f g = absurd (false≢true (sym e ∙ tag-trans a c b g (tag-total b c f)))

    later : tag_le a b ≡ false → tag_le b c ≡ false → earlier (Some a) (Some c) ≡ Some c
    later e f = elim (cases_Bool (tag_le a c)) [
      | inl g ↦ first_one a c g ∙ same e f g
      | inr g ↦ second_one a c g
    ]

-- each of two wakes is at or after the lesser
pub earlier-first : (a b : Option Tag) → earlier (earlier a b) a ≡ earlier a b
earlier-first a b = earlier-comm (earlier a b) a ∙ sym (earlier-assoc a a b) ∙ ap (λ x. earlier x b) (earlier-self a)

pub earlier-second : (a b : Option Tag) → earlier (earlier a b) b ≡ earlier a b
earlier-second a b = earlier-assoc a b b ∙ ap (earlier a) (earlier-self b)

-- a lesser wake is due where the other is
pub due-below : (tag : Tag) (a b : Option Tag) → earlier a b ≡ a → is_due tag a ≡ false → is_due tag b ≡ false
due-below tag None b e f = ap (is_due tag) e
due-below tag (Some a) None e f = refl
due-below tag (Some a) (Some b) e f = elim (cases_Bool (tag_le b tag)) [
  | inl g ↦ elim (cases_Bool (tag_le a b)) [
    | inl h ↦ absurd (false≢true (sym f ∙ tag-trans a b tag h g))
    | inr h ↦ ap (is_due tag) (sym (second_one a b h) ∙ e) ∙ f
  ]
  | inr g ↦ g
]

-- where neither of two wakes is due, the lesser isn't
pub due-neither : (tag : Tag) (a b : Option Tag) → is_due tag a ≡ false → is_due tag b ≡ false → is_due tag (earlier a b) ≡ false
due-neither tag None b f g = g
due-neither tag (Some a) None f g = f
due-neither tag (Some a) (Some b) f g = elim (cases_Bool (tag_le a b)) [
  | inl e ↦ ap (is_due tag) (first_one a b e) ∙ f
  | inr e ↦ ap (is_due tag) (second_one a b e) ∙ g
]

pub tag-self : (a : Tag) → tag_le a a ≡ true
tag-self a = elim (cases_Bool (tag_le a a)) [
  | inl e ↦ e
  | inr e ↦ tag-total a a e
]
