-- What has been of the events of an input, and what is to come.
use Rattle.std.proofs.Common.{◌≡◌, ℕ, zero, suc, ◌+◌, ◌-◌, ◌<◌, ◌≤◌, List, [], ◌∷◌, length, get_or, Bool, true, false, not, ◌&&◌, eqb, Option, Some, None, refl, sym, ap, ap₂, subst, ◌∙◌, arith, inl, inr}
use Rattle.std.proofs.lemmas.Bool.{false≢true, cases_Bool, cases_lt, eqb-true}
use Rattle.pt_meaning.specs.Tag.{Tag, tag_le}
use Rattle.pt_meaning.specs.Schedule.{is_after, next_event, is_tag, event_at}
use Rattle.std.proofs.lemmas.Bool.Decides.{nat_tests}
use Rattle.std.specs.List.Sorted.{IsPartitionedBy}
use Rattle.pt_agenda.specs.Events.{Event, Ascend, ArePast}

-- ---- the first event to come

rest-past : (after : Tag → Bool) (e : Event) (es : List Event) (n : ℕ) → ArePast after (e ∷ es) (suc n) → ArePast after es n
rest-past after e es n p = record {
  within = omega (arith, p.within);
  past = λ k d l. p.past (suc k) d (omega (arith, l));
  to_come = λ k d a b. p.to_come (suc k) d (omega (arith, a)) (omega (arith, b));
}

pub next-is : (last : Option Tag) (es : List Event) (n : ℕ) (d : Event) → n < length es → ArePast (is_after last) es n → next_event last es ≡ Some (get_or es n d).0
next-is last [] n d l p = absurd (omega (arith, l))
next-is last ((t, x) ∷ es) zero d l p = rw (p.to_come 0 d (omega arith) l) refl
next-is last ((t, x) ∷ es) (suc n) d l p = rw (p.past 0 d (omega arith)) (next-is last es n d (omega (arith, l)) (rest-past (is_after last) (t, x) es n p))

pub none-is-next : (last : Option Tag) (es : List Event) (n : ℕ) → length es ≤ n → ArePast (is_after last) es n → next_event last es ≡ None
none-is-next last [] n l p = refl
none-is-next last ((t, x) ∷ es) zero l p = absurd (omega (arith, l))
none-is-next last ((t, x) ∷ es) (suc n) l p = rw (p.past 0 (t, x) (omega arith)) (none-is-next last es n (omega (arith, l)) (rest-past (is_after last) (t, x) es n p))

-- where nothing has been, all is to come
pub all-to-come : (es : List Event) → ArePast (is_after None) es 0
all-to-come es = record { within = omega arith; past = λ k d l. absurd (omega (arith, l)); to_come = λ k d a b. refl }

pub from-not : (b : Bool) → not b ≡ true → b ≡ false
from-not true h = absurd (false≢true h)
from-not false h = refl

pub from-not-false : (b : Bool) → not b ≡ false → b ≡ true
from-not-false true h = refl
from-not-false false h = absurd (false≢true (sym h))

-- what stands at a place of a list doesn't depend on what stands past its end
pub same-at : (es : List Event) (k : ℕ) (d e : Event) → k < length es → get_or es k d ≡ get_or es k e
same-at [] k d e l = absurd (omega (arith, l))
same-at (x ∷ xs) zero d e l = refl
same-at (x ∷ xs) (suc k) d e l = same-at xs k d e (omega (arith, l))

-- ---- the order of tags

pub tag-total : (a b : Tag) → tag_le a b ≡ false → tag_le b a ≡ true
tag-total a b h = grind (arith, nat_tests, h)

pub tag-trans : (a b c : Tag) → tag_le a b ≡ true → tag_le b c ≡ true → tag_le a c ≡ true
tag-trans a b c h k = grind (arith, nat_tests, h, k)

-- of events that ascend no one up to a tag comes after one that isn't
pub parted : (tag : Tag) (es : List Event) → Ascend es → IsPartitionedBy (λ (e : Event). tag_le e.0 tag) es
parted tag es rise i j d l m h = elim (cases_lt i j) [
  | inl b ↦ tag-trans (get_or es i d).0 (get_or es j d).0 tag (tag-total (get_or es j d).0 (get_or es i d).0 (rise i j d b m)) h
  | inr b ↦ let e : i ≡ j = omega (arith, b, l) in subst (λ v. tag_le (get_or es v d).0 tag ≡ true) (sym e) h
]

-- ---- the tokens at a tag

-- a tag isn't the same as one that isn't at or before it, on either side
itself : (a : Tag) → tag_le a a ≡ true
itself a = grind (arith, nat_tests)

same : (a b : Tag) → is_tag a b ≡ true → a ≡ b
same a b h = elim (cases_Bool (eqb a.time b.time)) [
  | inl e ↦
      let s : eqb a.step b.step ≡ true = subst (λ v. (v && eqb a.step b.step) ≡ true) e h in
      let t : a.time ≡ b.time = eqb-true a.time b.time e in
      let u : a.step ≡ b.step = eqb-true a.step b.step s in
      ap₂ (λ t s. record { time = t; step = s }) t u
  | inr n ↦ absurd (false≢true (subst (λ v. (v && eqb a.step b.step) ≡ true) n h))
]

pub other-than : (a b : Tag) → tag_le a b ≡ false → is_tag a b ≡ false
other-than a b h = elim (cases_Bool (is_tag a b)) [
  | inl e ↦ absurd (false≢true (sym h ∙ ap (λ v. tag_le v b) (same a b e) ∙ itself b))
  | inr n ↦ n
]

pub none-at : (tag : Tag) (es : List Event) → ((k : ℕ) (d : Event) → k < length es → is_tag (get_or es k d).0 tag ≡ false) → event_at tag es ≡ []
none-at tag [] h = refl
none-at tag ((t, x) ∷ es) h = rw (h 0 (t, x) (omega arith)) (none-at tag es (λ k d l. h (suc k) d (omega (arith, l))))

pub one-at : (tag : Tag) (es : List Event) (n : ℕ) (d : Event) → n < length es → is_tag (get_or es n d).0 tag ≡ true → ((k : ℕ) (d : Event) → (k ≡ n → ⊥) → k < length es → is_tag (get_or es k d).0 tag ≡ false) → event_at tag es ≡ (get_or es n d).1 ∷ []
one-at tag [] n d l e h = absurd (omega (arith, l))
one-at tag ((t, x) ∷ es) zero d l e h = rw e (ap (λ v. x ∷ v) (none-at tag es (λ k d l. h (suc k) d (λ z. omega (arith, z)) (omega (arith, l)))))
one-at tag ((t, x) ∷ es) (suc n) d l e h = rw (h 0 (t, x) (λ z. omega (arith, z)) (omega arith)) (one-at tag es n d (omega (arith, l)) e (λ k d o l. h (suc k) d (λ z. o (omega (arith, z))) (omega (arith, l))))

-- which of the events is at the tag up to which they have been: the last of these, or none
module _ (tag : Tag) (es : List Event) (n : ℕ) (rise : Ascend es) (p : ArePast (is_after (Some tag)) es n) where
  up-to : (k : ℕ) (d : Event) → k < n → tag_le (get_or es k d).0 tag ≡ true
  up-to k d l = from-not-false (tag_le (get_or es k d).0 tag) (p.past k d l)

  beyond : (k : ℕ) (d : Event) → n ≤ k → k < length es → is_tag (get_or es k d).0 tag ≡ false
  beyond k d a b = other-than (get_or es k d).0 tag (from-not (tag_le (get_or es k d).0 tag) (p.to_come k d a b))

  -- an event before one that is up to the tag isn't at it
  earlier-than : (k m : ℕ) (d : Event) → k < m → m < n → is_tag (get_or es k d).0 tag ≡ false
  earlier-than k m d a b = elim (cases_Bool (is_tag (get_or es k d).0 tag)) [
    | inl e ↦ absurd (false≢true (sym (rise k m d a (omega (arith, b, p.within))) ∙ ap (λ v. tag_le (get_or es m d).0 v) (same (get_or es k d).0 tag e) ∙ up-to m d b))
    | inr n ↦ n
  ]

  pub last-at : (m : ℕ) (d : Event) → m + 1 ≡ n → is_tag (get_or es m d).0 tag ≡ true → event_at tag es ≡ (get_or es m d).1 ∷ []
  last-at m d h e = one-at tag es m d (omega (arith, h, p.within)) e others
    where
      others : (k : ℕ) (d : Event) → (k ≡ m → ⊥) → k < length es → is_tag (get_or es k d).0 tag ≡ false
      others k d o l = elim (cases_lt k m) [ inl b ↦ earlier-than k m d b (omega (arith, h)) | inr b ↦ beyond k d (omega (arith, b, h, o)) l ]

  -- where the last of these isn't at it, none is
  pub none-is-at : ((m : ℕ) (d : Event) → m + 1 ≡ n → is_tag (get_or es m d).0 tag ≡ false) → event_at tag es ≡ []
  none-is-at others = none-at tag es each
    where
      each : (k : ℕ) (d : Event) → k < length es → is_tag (get_or es k d).0 tag ≡ false
      each k d l = elim (cases_lt (k + 1) n) [
        | inl b ↦ earlier-than k (n - 1) d (omega (arith, b)) (omega (arith, b))
        | inr b ↦ elim (cases_lt k n) [ inl c ↦ others k d (omega (arith, b, c)) | inr c ↦ beyond k d c l ]
      ]

-- ---- a walk along the events

-- two that stand next to each other and don't ascend
pub no-ascent : (es : List Event) (n : ℕ) (d e : Event) → 0 < n → n < length es → tag_le (get_or es n d).0 (get_or es (n - 1) e).0 ≡ true → Ascend es → ⊥
no-ascent es n d e some l h rise =
    let same = same-at es (n - 1) d e (omega (arith, l)) in
    false≢true (sym (rise (n - 1) n d (omega (arith, some)) l) ∙ ap (λ (w : Event). tag_le (get_or es n d).0 w.0) same ∙ h)

-- the first n events ascend
abbrev pub AscendTo : List Event → ℕ → Type 0
AscendTo es n = (i j : ℕ) (d : Event) → i < j → j < n → tag_le (get_or es j d).0 (get_or es i d).0 ≡ false

pub ascends-one : (es : List Event) → AscendTo es 1
ascends-one es i j d a b = absurd (omega (arith, a, b))

pub ascends-more : (es : List Event) (n : ℕ) → AscendTo es n → n < length es → (d e : Event) → tag_le (get_or es n d).0 (get_or es (n - 1) e).0 ≡ false → AscendTo es (n + 1)
ascends-more es n rise l x y h i j d a b = elim (cases_lt j n) [
  | inl c ↦ rise i j d a c
  | inr c ↦ let e : j ≡ n = omega (arith, b, c) in subst (λ v. tag_le (get_or es v d).0 (get_or es i d).0 ≡ false) (sym e) (elim (cases_lt i (n - 1)) [
    | inl f ↦ later (get_or es i d).0 (get_or es (n - 1) d).0 (get_or es n d).0 (rise i (n - 1) d f (omega (arith, f))) next
    | inr f ↦ let g : i ≡ n - 1 = omega (arith, a, e, f) in subst (λ v. tag_le (get_or es n d).0 (get_or es v d).0 ≡ false) (sym g) next
  ])
]
  where
    next : tag_le (get_or es n d).0 (get_or es (n - 1) d).0 ≡ false
    next = ap₂ (λ (v w : Event). tag_le v.0 w.0) (same-at es n d x l) (same-at es (n - 1) d y (omega (arith, l))) ∙ h

    later : (a b c : Tag) → tag_le b a ≡ false → tag_le c b ≡ false → tag_le c a ≡ false
    later a b c h k = grind (arith, nat_tests, h, k)
