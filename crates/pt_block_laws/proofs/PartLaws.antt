-- The parts of a row that firings one after another have to do with, put together; and firings from one on.
use Rattle.std.proofs.Common.{◌≡◌, ℕ, zero, suc, ◌+◌, ◌*◌, ◌<◌, List, [], ◌∷◌, ◌++◌, length, take, drop, map, refl, sym, ap, ap₂, subst, ◌∙◌, arith, append-nil}
use Rattle.pt_meaning.specs.Tag.{Tag}
use Rattle.pt_meaning.specs.Streams.{Streams, at, joined}
use Rattle.pt_meaning.specs.Machine.{Stepping, Facts}
use Rattle.pt_laws.proofs.Order.{at-joined}
use Rattle.pt_laws.proofs.Indexed.{drop-more}
use Rattle.pt_block_laws.specs.Firings.{Firings, rest, later, gathered, before, IsMade, AreMade}
use Rattle.pt_block_laws.specs.Block.{part, empty}

-- ---- firings from one on

module _ {T S : Type 0} where
  pub later-state : (b k : ℕ) (f : Firings T S) → (later b f).state k ≡ f.state (b + k)
  later-state zero k f = let e : k ≡ 0 + k = omega arith in ap (λ n. f.state n) e
  later-state (suc b) k f = let e : suc (b + k) ≡ suc b + k = omega arith in later-state b k (rest f) ∙ ap (λ n. f.state n) e

  pub later-takes : (b k : ℕ) (f : Firings T S) → (later b f).takes k ≡ f.takes (b + k)
  later-takes zero k f = let e : k ≡ 0 + k = omega arith in ap (λ n. f.takes n) e
  later-takes (suc b) k f = let e : suc (b + k) ≡ suc b + k = omega arith in later-takes b k (rest f) ∙ ap (λ n. f.takes n) e

  pub later-gives : (b k : ℕ) (f : Firings T S) → (later b f).gives k ≡ f.gives (b + k)
  later-gives zero k f = let e : k ≡ 0 + k = omega arith in ap (λ n. f.gives n) e
  later-gives (suc b) k f = let e : suc (b + k) ≡ suc b + k = omega arith in later-gives b k (rest f) ∙ ap (λ n. f.gives n) e

  pub later-inside : (b k : ℕ) (f : Firings T S) → (later b f).inside k ≡ f.inside (b + k)
  later-inside zero k f = let e : k ≡ 0 + k = omega arith in ap (λ n. f.inside n) e
  later-inside (suc b) k f = let e : suc (b + k) ≡ suc b + k = omega arith in later-inside b k (rest f) ∙ ap (λ n. f.inside n) e

module _ {T S : Type 0} (facts : Facts T S) (step : Stepping T S) (tag : Tag) (needs rates : List ℕ) where
  one-later : (b k : ℕ) (f : Firings T S) → IsMade facts step tag needs rates f (b + k) → IsMade facts step tag needs rates (later b f) k
  one-later zero k f m = let e : 0 + k ≡ k = omega arith in subst (λ n. IsMade facts step tag needs rates f n) e m
  one-later (suc b) k f m =
      let e : suc b + k ≡ suc (b + k) = omega arith in
      let n = subst (λ v. IsMade facts step tag needs rates f v) e m in
      one-later b k (rest f) (record { need = n.need; takes = n.takes; gives = n.gives; done = n.done })

  pub made-later : (b n : ℕ) (f : Firings T S) → AreMade facts step tag needs rates (b + n) f → AreMade facts step tag needs rates n (later b f)
  made-later b n f a k l = one-later b k f (a (b + k) (omega (arith, l)))

-- ---- parts of rows

split-take : {A : Type 0} (n m : ℕ) (xs : List A) → take n xs ++ take m (drop n xs) ≡ take (n + m) xs
split-take zero m xs = let e : m ≡ 0 + m = omega arith in ap (λ k. take k xs) e
split-take {A} (suc n) m [] = nothing m ∙ nothing' (suc n + m)
  where
    nothing : (m : ℕ) → take {A = A} m [] ≡ []
    nothing zero = refl
    nothing (suc m) = refl

    nothing' : (m : ℕ) → [] ≡ take {A = A} m []
    nothing' zero = refl
    nothing' (suc m) = refl
split-take (suc n) m (x ∷ xs) = let e : suc (n + m) ≡ suc n + m = omega arith in ap (λ v. x ∷ v) (split-take n m xs) ∙ ap (λ k. take k (x ∷ xs)) e

pub at-gathered : {T : Type 0} (k p : ℕ) (g : ℕ → Streams T) → at (gathered (suc k) g) p ≡ at (g 0) p ++ at (gathered k (λ j. g (suc j))) p
at-gathered k p g = at-joined (g 0) (gathered k (λ j. g (suc j))) p

-- what q firings from number b on have to do with
pub parts-gathered : {T : Type 0} (n q b p : ℕ) (row : List T) (g : ℕ → Streams T) → ((k : ℕ) → k < q → at (g k) p ≡ part n (b + k) row) → at (gathered q g) p ≡ take (q * n) (drop (b * n) row)
parts-gathered n zero b p row g h = let z : 0 * n ≡ 0 = omega arith in rw z refl
parts-gathered n (suc q) b p row g h =
    let first : b + 0 ≡ b = omega arith in
    let more : (suc b) * n ≡ b * n + n = omega arith in
    let all : n + q * n ≡ (suc q) * n = omega arith in
    let others = parts-gathered n q (suc b) p row (λ j. g (suc j)) (λ k l. h (suc k) (omega (arith, l)) ∙ ap (λ v. part n v row) (let e : b + suc k ≡ suc b + k = omega arith in e)) in
    at-gathered q p g ∙
    ap₂ (λ x y. x ++ y) (h 0 (omega arith) ∙ ap (λ v. part n v row) first) (others ∙ ap (λ v. take (q * n) (drop v row)) more ∙ ap (λ v. take (q * n) v) (drop-more (b * n) n row)) ∙
    split-take n (q * n) (drop (b * n) row) ∙
    ap (λ v. take v (drop (b * n) row)) all

-- with nothing behind them
pub before-empty : {A T : Type 0} (k p : ℕ) (g : ℕ → Streams T) (xs : List A) → at (before k g (empty xs)) p ≡ at (gathered k g) p
before-empty zero p g xs = at-empty p xs
  where
    at-empty : {A T : Type 0} (p : ℕ) (xs : List A) → at {T = T} (empty xs) p ≡ []
    at-empty p [] = refl
    at-empty zero (x ∷ xs) = refl
    at-empty (suc p) (x ∷ xs) = at-empty p xs
before-empty (suc k) p g xs = at-joined (g 0) (before k (λ j. g (suc j)) (empty xs)) p ∙ ap (λ v. at (g 0) p ++ v) (before-empty k p (λ j. g (suc j)) xs) ∙ sym (at-gathered k p g)
