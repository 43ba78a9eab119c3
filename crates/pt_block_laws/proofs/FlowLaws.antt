-- Firings one after another are a stream function on what they take together.
use Rattle.std.proofs.Common.{◌≡◌, ℕ, zero, suc, List, [], ◌∷◌, ◌++◌, true, nat_le, length, take, drop, Some, refl, sym, ap, ap₂, subst, ◌∙◌, ◌≤◌, arith, le-leb}
use Rattle.std.proofs.Math.Seq.{take-append_seam, drop-append_seam}
use Rattle.pt_meaning.specs.Tag.{Tag}
use Rattle.pt_meaning.specs.Streams.{Streams, joined}
use Rattle.pt_meaning.specs.Machine.{Need, Counts, Front, Takes, front, counted, if_long, Outcome, Done, Stepping, Facts}
use Rattle.pt_meaning.specs.Flow.{Flow, Capped, flow, after_firing, on_outcome, on_front}
use Rattle.pt_meaning.specs.Rounds.{rated, rated_outcome, if_rated}
use Rattle.pt_meaning.specs.Kahn.{lengths}
use Rattle.pt_block_laws.specs.Firings.{Firings, rest, gathered, before, IsMade, AreMade, logged}

longer : {T : Type 0} (xs ys : List T) → length xs ≤ length (xs ++ ys)
longer [] ys = omega arith
longer (x ∷ xs) ys = let h = longer xs ys in omega (arith, h)

-- a firing takes the first tokens of each place, as many as it needs
pub counted-joined : {T : Type 0} (G X : Streams T) → length X ≡ length G → counted (lengths G) (joined G X) ≡ Takes G X
counted-joined [] [] e = refl
counted-joined [] (xs ∷ X) e = absurd (omega (arith, e))
counted-joined (g ∷ G) [] e = absurd (omega (arith, e))
counted-joined {T} (g ∷ G) (xs ∷ X) e =
    let long : nat_le (length g) (length (g ++ xs)) ≡ true = le-leb (length g) (length (g ++ xs)) (longer g xs) in
    rw (counted-joined G X (omega (arith, e)), long)
    (ap₂ (λ (a b : List T). Takes (a ∷ G) (b ∷ X)) (take-append_seam g xs) (drop-append_seam g xs))

-- as many places stay
pub joined-length : {T : Type 0} (G X : Streams T) → length X ≡ length G → length (joined G X) ≡ length X
joined-length [] X e = refl
joined-length (g ∷ G) [] e = absurd (omega (arith, e))
joined-length (g ∷ G) (xs ∷ X) e = let h = joined-length G X (omega (arith, e)) in omega (arith, h)

lengths-length : {T : Type 0} (X : Streams T) → length (lengths X) ≡ length X
lengths-length [] = refl
lengths-length (xs ∷ X) = let h = lengths-length X in omega (arith, h)

-- what so many firings come to, with the tokens behind what they take
abbrev pub done_flow : {T S : Type 0} → Facts T S → Tag → ℕ → Firings T S → Streams T → Flow T S
done_flow facts tag k f X = record { outputs = gathered k f.gives; state = f.state k; left = X; fired = k; log = logged facts tag k f; stop = Capped }

-- those behind the first
abbrev made-rest : {T S : Type 0} (facts : Facts T S) (step : Stepping T S) (tag : Tag) (needs rates : List ℕ) (k : ℕ) (f : Firings T S) → AreMade facts step tag needs rates (suc k) f → AreMade facts step tag needs rates k (rest f)
made-rest facts step tag needs rates k f a j l =
    let m = a (suc j) (omega (arith, l)) in
    record { need = m.need; takes = m.takes; gives = m.gives; done = m.done }

module _ {T S : Type 0} (facts : Facts T S) (step : Stepping T S) (tag : Tag) (needs rates : List ℕ) where
  width : (k : ℕ) (f : Firings T S) → IsMade facts step tag needs rates f k → length (f.takes k) ≡ length needs
  width k f m = sym (lengths-length (f.takes k)) ∙ ap (λ v. length v) m.takes

  pub before-length : (k : ℕ) (f : Firings T S) (X : Streams T) → AreMade facts step tag needs rates k f → length X ≡ length needs → length (before k f.takes X) ≡ length needs
  before-length zero f X a e = e
  before-length (suc k) f X a e =
      let h = before-length k (rest f) X (made-rest facts step tag needs rates k f a) e in
      joined-length (f.takes 0) (before k (rest f).takes X) (h ∙ sym (width 0 f (a 0 (omega arith)))) ∙ h

  pub flow-made : (k : ℕ) (f : Firings T S) (X : Streams T) → AreMade facts step tag needs rates k f → length X ≡ length needs →
      flow facts (rated facts (Some rates) step) tag k (f.state 0) (before k f.takes X) ≡ done_flow facts tag k f X
  unfolding flow
  flow-made zero f X a e = refl
  flow-made (suc k) f X a e =
      let others = made-rest facts step tag needs rates k f a in
      let m = a 0 (omega arith) in
      let h = before-length k (rest f) X others e in
      let there : front (facts.need (f.state 0)) (joined (f.takes 0) (before k (rest f).takes X)) ≡ Takes (f.takes 0) (before k (rest f).takes X) =
      ap (λ n. front n (joined (f.takes 0) (before k (rest f).takes X))) (m.need ∙ ap (λ n. Counts n) (sym m.takes)) ∙ counted-joined (f.takes 0) (before k (rest f).takes X) (h ∙ sym (width 0 f m))
      in
      let done : rated facts (Some rates) step tag (f.state 0) (f.takes 0) ≡ Done (f.state 1) (f.gives 0) (f.inside 0) = rw (m.done, m.gives) refl in
      rw (there, done, flow-made k (rest f) X others e) refl
