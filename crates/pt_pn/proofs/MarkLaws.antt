-- What marks say and how many say it, as one of them is another.
use Rattle.std.proofs.Common.{◌≡◌, ◌⊎◌, inl, inr, ℕ, zero, suc, ◌+◌, ◌-◌, ◌<◌, ◌≤◌, List, [], ◌∷◌, Bool, true, false, nat_eq, length, set, get_or, replicate, refl, sym, ap, subst, ◌∙◌, arith, length-set}
use Rattle.std.proofs.lemmas.Bool.Decides.{nat_tests}
use Rattle.pt_pn.specs.declared.marks.Mark.{Mark}
use Rattle.pt_pn.specs.declared.marks.Mark.TheVariants.{Awake, Waiting, Resting}
use Rattle.pt_pn.specs.Marks.{Marked, is_settled, is_resting, settled_in, resting_in, seen_marks, one_if_not, awake_in, not_resting_in, none_marked, marked_awake, marked_waiting, marked_resting}

abbrev seen_as : (settled resting : List Bool) → Marked
seen_as S R = record { settled = S; resting = R }

-- what is seen where one of them is another, where it is the one that it was, and past the last
pub settled-set : (M : List Mark) (i : ℕ) (m : Mark) → settled_in (set M i m) ≡ set (settled_in M) i (is_settled m)
settled-set [] i m = refl
settled-set (x ∷ M) zero m = refl
settled-set (x ∷ M) (suc i) m = ap (λ v. is_settled x ∷ v) (settled-set M i m)

pub resting-set : (M : List Mark) (i : ℕ) (m : Mark) → resting_in (set M i m) ≡ set (resting_in M) i (is_resting m)
resting-set [] i m = refl
resting-set (x ∷ M) zero m = refl
resting-set (x ∷ M) (suc i) m = ap (λ v. is_resting x ∷ v) (resting-set M i m)

pub settled-is : (M : List Mark) (i : ℕ) (m : Mark) → get_or M i Awake ≡ m → set (settled_in M) i (is_settled m) ≡ settled_in M
settled-is [] i m e = refl
settled-is (x ∷ M) zero m e = ap (λ v. is_settled v ∷ settled_in M) (sym e)
settled-is (x ∷ M) (suc i) m e = ap (λ v. is_settled x ∷ v) (settled-is M i m e)

pub resting-is : (M : List Mark) (i : ℕ) (m : Mark) → get_or M i Awake ≡ m → set (resting_in M) i (is_resting m) ≡ resting_in M
resting-is [] i m e = refl
resting-is (x ∷ M) zero m e = ap (λ v. is_resting v ∷ resting_in M) (sym e)
resting-is (x ∷ M) (suc i) m e = ap (λ v. is_resting x ∷ v) (resting-is M i m e)

pub settled-past : (M : List Mark) (i : ℕ) (b : Bool) → length M ≤ i → set (settled_in M) i b ≡ settled_in M
settled-past [] i b h = refl
settled-past (x ∷ M) zero b h = absurd (omega (arith, h))
settled-past (x ∷ M) (suc i) b h = ap (λ v. is_settled x ∷ v) (settled-past M i b (omega (arith, h)))

pub resting-past : (M : List Mark) (i : ℕ) (b : Bool) → length M ≤ i → set (resting_in M) i b ≡ resting_in M
resting-past [] i b h = refl
resting-past (x ∷ M) zero b h = absurd (omega (arith, h))
resting-past (x ∷ M) (suc i) b h = ap (λ v. is_resting x ∷ v) (resting-past M i b (omega (arith, h)))

-- how many are so where one of them, which was another, is this one
pub awake-set : (M : List Mark) (i : ℕ) (was m : Mark) → i < length M → get_or M i Awake ≡ was → awake_in (set M i m) + one_if_not (is_settled was) ≡ awake_in M + one_if_not (is_settled m)
awake-set [] i was m h e = absurd (omega (arith, h))
awake-set (x ∷ M) zero was m h e = let r = ap (λ v. one_if_not (is_settled v)) e in omega (arith, r)
awake-set (x ∷ M) (suc i) was m h e = let r = awake-set M i was m (omega (arith, h)) e in omega (arith, r)

pub not-resting-set : (M : List Mark) (i : ℕ) (was m : Mark) → i < length M → get_or M i Awake ≡ was → not_resting_in (set M i m) + one_if_not (is_resting was) ≡ not_resting_in M + one_if_not (is_resting m)
not-resting-set [] i was m h e = absurd (omega (arith, h))
not-resting-set (x ∷ M) zero was m h e = let r = ap (λ v. one_if_not (is_resting v)) e in omega (arith, r)
not-resting-set (x ∷ M) (suc i) was m h e = let r = not-resting-set M i was m (omega (arith, h)) e in omega (arith, r)

pub few-awake : (M : List Mark) → awake_in M ≤ length M
few-awake [] = omega arith
few-awake (Awake ∷ M) = let r = few-awake M in omega (arith, r)
few-awake (Waiting ∷ M) = let r = few-awake M in omega (arith, r)
few-awake (Resting ∷ M) = let r = few-awake M in omega (arith, r)

pub few-not-resting : (M : List Mark) → not_resting_in M ≤ length M
few-not-resting [] = omega arith
few-not-resting (Awake ∷ M) = let r = few-not-resting M in omega (arith, r)
few-not-resting (Waiting ∷ M) = let r = few-not-resting M in omega (arith, r)
few-not-resting (Resting ∷ M) = let r = few-not-resting M in omega (arith, r)

-- where none is awake, each is settled, and where there is none that doesn't rest, each rests
none-awake : (M : List Mark) → awake_in M ≡ 0 → (i : ℕ) → i < length (settled_in M) → get_or (settled_in M) i false ≡ true
none-awake [] z i h = absurd (omega (arith, h))
none-awake (Awake ∷ M) z i h = absurd (omega (arith, z))
none-awake (Waiting ∷ M) z zero h = refl
none-awake (Waiting ∷ M) z (suc i) h = none-awake M (omega (arith, z)) i (omega (arith, h))
none-awake (Resting ∷ M) z zero h = refl
none-awake (Resting ∷ M) z (suc i) h = none-awake M (omega (arith, z)) i (omega (arith, h))

all-rest : (M : List Mark) → not_resting_in M ≡ 0 → (i : ℕ) → i < length (resting_in M) → get_or (resting_in M) i false ≡ true
all-rest [] z i h = absurd (omega (arith, h))
all-rest (Awake ∷ M) z i h = absurd (omega (arith, z))
all-rest (Waiting ∷ M) z i h = absurd (omega (arith, z))
all-rest (Resting ∷ M) z zero h = refl
all-rest (Resting ∷ M) z (suc i) h = all-rest M (omega (arith, z)) i (omega (arith, h))

is-zero : (k : ℕ) → nat_eq k 0 ≡ true → k ≡ 0
is-zero k z = grind (arith, nat_tests)

-- so many that are all awake
pub awake-all : (n : ℕ) → n ≡ awake_in (replicate n Awake)
awake-all zero = refl
awake-all (suc n) = let r = awake-all n in omega (arith, r)

pub not-resting-all : (n : ℕ) → n ≡ not_resting_in (replicate n Awake)
not-resting-all zero = refl
not-resting-all (suc n) = let r = not-resting-all n in omega (arith, r)

settled-none : (n : ℕ) → settled_in (replicate n Awake) ≡ replicate n false
settled-none zero = refl
settled-none (suc n) = ap (λ v. false ∷ v) (settled-none n)

resting-none : (n : ℕ) → resting_in (replicate n Awake) ≡ replicate n false
resting-none zero = refl
resting-none (suc n) = ap (λ v. false ∷ v) (resting-none n)

both : (a x b y : List Bool) → a ≡ x → b ≡ y → seen_as a b ≡ seen_as x y
both a x b y e f = ap (λ v. seen_as v b) e ∙ ap (λ v. seen_as x v) f

pub none-are : (n : ℕ) → seen_marks (replicate n Awake) ≡ none_marked n
none-are n = both (settled_in (replicate n Awake)) (replicate n false) (resting_in (replicate n Awake)) (replicate n false) (settled-none n) (resting-none n)

-- what the calls leave, where the marks are seen so
module _ (M : List Mark) (s : Marked) (v : seen_marks M ≡ s) where
  pub all-settled : (k : ℕ) → k ≡ awake_in M → nat_eq k 0 ≡ true → (i : ℕ) → i < length s.settled → get_or s.settled i false ≡ true
  all-settled k e z = subst (λ (t : Marked). (i : ℕ) → i < length t.settled → get_or t.settled i false ≡ true) v (none-awake M (sym e ∙ is-zero k z))

  pub all-resting : (k : ℕ) → k ≡ not_resting_in M → nat_eq k 0 ≡ true → (i : ℕ) → i < length s.resting → get_or s.resting i false ≡ true
  all-resting k e z = subst (λ (t : Marked). (i : ℕ) → i < length t.resting → get_or t.resting i false ≡ true) v (all-rest M (sym e ∙ is-zero k z))

  -- one is another
  pub woken : (i : ℕ) → seen_marks (set M i Awake) ≡ marked_awake i s
  woken i = both (settled_in (set M i Awake)) (set (settled_in M) i false) (resting_in (set M i Awake)) (set (resting_in M) i false) (settled-set M i Awake) (resting-set M i Awake) ∙ ap (λ t. marked_awake i t) v

  pub now-waits : (i : ℕ) → get_or M i Awake ≡ Awake → seen_marks (set M i Waiting) ≡ marked_waiting i s
  now-waits i e = both (settled_in (set M i Waiting)) (set (settled_in M) i true) (resting_in (set M i Waiting)) (resting_in M) (settled-set M i Waiting) (resting-set M i Waiting ∙ resting-is M i Awake e) ∙ ap (λ t. marked_waiting i t) v

  pub now-rests : (i : ℕ) → seen_marks (set M i Resting) ≡ marked_resting i s
  now-rests i = both (settled_in (set M i Resting)) (set (settled_in M) i true) (resting_in (set M i Resting)) (set (resting_in M) i true) (settled-set M i Resting) (resting-set M i Resting) ∙ ap (λ t. marked_resting i t) v

  -- one is what it was
  pub awake-already : (i : ℕ) → get_or M i Awake ≡ Awake → s ≡ marked_awake i s
  awake-already i e = sym v ∙ both (settled_in M) (set (settled_in M) i false) (resting_in M) (set (resting_in M) i false) (sym (settled-is M i Awake e)) (sym (resting-is M i Awake e)) ∙ ap (λ t. marked_awake i t) v

  pub waits-already : (i : ℕ) → get_or M i Awake ≡ Waiting → s ≡ marked_waiting i s
  waits-already i e = sym v ∙ both (settled_in M) (set (settled_in M) i true) (resting_in M) (resting_in M) (sym (settled-is M i Waiting e)) refl ∙ ap (λ t. marked_waiting i t) v

  pub waits-resting : (i : ℕ) → get_or M i Awake ≡ Resting → s ≡ marked_waiting i s
  waits-resting i e = sym v ∙ both (settled_in M) (set (settled_in M) i true) (resting_in M) (resting_in M) (sym (settled-is M i Resting e)) refl ∙ ap (λ t. marked_waiting i t) v

  pub rests-already : (i : ℕ) → get_or M i Awake ≡ Resting → s ≡ marked_resting i s
  rests-already i e = sym v ∙ both (settled_in M) (set (settled_in M) i true) (resting_in M) (set (resting_in M) i true) (sym (settled-is M i Resting e)) (sym (resting-is M i Resting e)) ∙ ap (λ t. marked_resting i t) v

  -- there is none of that number
  pub past-awake : (i : ℕ) → length M ≤ i → s ≡ marked_awake i s
  past-awake i h = sym v ∙ both (settled_in M) (set (settled_in M) i false) (resting_in M) (set (resting_in M) i false) (sym (settled-past M i false h)) (sym (resting-past M i false h)) ∙ ap (λ t. marked_awake i t) v

  pub past-waiting : (i : ℕ) → length M ≤ i → s ≡ marked_waiting i s
  past-waiting i h = sym v ∙ both (settled_in M) (set (settled_in M) i true) (resting_in M) (resting_in M) (sym (settled-past M i true h)) refl ∙ ap (λ t. marked_waiting i t) v

  pub past-resting : (i : ℕ) → length M ≤ i → s ≡ marked_resting i s
  past-resting i h = sym v ∙ both (settled_in M) (set (settled_in M) i true) (resting_in M) (set (resting_in M) i true) (sym (settled-past M i true h)) (sym (resting-past M i true h)) ∙ ap (λ t. marked_resting i t) v

-- what they leave of the counts, where one of them was this one
module _ (M : List Mark) (a k : ℕ) (e : (a ≡ awake_in M) × (k ≡ not_resting_in M)) (i : ℕ) (h : i < length M) where
  abbrev Counted : (a k : ℕ) → List Mark → Type 0
  Counted a k M = (a ≡ awake_in M) × (k ≡ not_resting_in M)

  pub few-more : (get_or M i Awake ≡ Waiting) ⊎ (get_or M i Awake ≡ Resting) → a + 1 ≤ length M
  few-more (inl q) = let r = awake-set M i Waiting Awake h q in let f = few-awake (set M i Awake) in let l = length-set M i Awake in let x = e.0 in omega (arith, r, f, l, x)
  few-more (inr q) = let r = awake-set M i Resting Awake h q in let f = few-awake (set M i Awake) in let l = length-set M i Awake in let x = e.0 in omega (arith, r, f, l, x)

  pub few-more-resting : get_or M i Awake ≡ Resting → k + 1 ≤ length M
  few-more-resting q = let r = not-resting-set M i Resting Awake h q in let f = few-not-resting (set M i Awake) in let l = length-set M i Awake in let x = e.1 in omega (arith, r, f, l, x)

  pub some-awake : get_or M i Awake ≡ Awake → 1 ≤ a
  some-awake q = let r = awake-set M i Awake Waiting h q in let x = e.0 in omega (arith, r, x)

  pub one-not-resting : (get_or M i Awake ≡ Awake) ⊎ (get_or M i Awake ≡ Waiting) → 1 ≤ k
  one-not-resting (inl q) = let r = not-resting-set M i Awake Resting h q in let x = e.1 in omega (arith, r, x)
  one-not-resting (inr q) = let r = not-resting-set M i Waiting Resting h q in let x = e.1 in omega (arith, r, x)

  pub waiting-woken : get_or M i Awake ≡ Waiting → Counted (a + 1) k (set M i Awake)
  waiting-woken q = let r = awake-set M i Waiting Awake h q in let t = not-resting-set M i Waiting Awake h q in let x = e.0 in let y = e.1 in (omega (arith, r, x), omega (arith, t, y))

  pub resting-woken : get_or M i Awake ≡ Resting → Counted (a + 1) (k + 1) (set M i Awake)
  resting-woken q = let r = awake-set M i Resting Awake h q in let t = not-resting-set M i Resting Awake h q in let x = e.0 in let y = e.1 in (omega (arith, r, x), omega (arith, t, y))

  pub awake-waits : get_or M i Awake ≡ Awake → Counted (a - 1) k (set M i Waiting)
  awake-waits q = let r = awake-set M i Awake Waiting h q in let t = not-resting-set M i Awake Waiting h q in let x = e.0 in let y = e.1 in (omega (arith, r, x), omega (arith, t, y))

  pub awake-rests : get_or M i Awake ≡ Awake → Counted (a - 1) (k - 1) (set M i Resting)
  awake-rests q = let r = awake-set M i Awake Resting h q in let t = not-resting-set M i Awake Resting h q in let x = e.0 in let y = e.1 in (omega (arith, r, x), omega (arith, t, y))

  pub waiting-rests : get_or M i Awake ≡ Waiting → Counted a (k - 1) (set M i Resting)
  waiting-rests q = let r = awake-set M i Waiting Resting h q in let t = not-resting-set M i Waiting Resting h q in let x = e.0 in let y = e.1 in (omega (arith, r, x), omega (arith, t, y))
