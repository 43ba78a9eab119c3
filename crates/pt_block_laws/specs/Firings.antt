-- What a child of a dataflow composite does in firings one after another, and what these take and give together.
use Rattle.std.specs.Prelude.{◌≡◌, ℕ, zero, suc, ◌<◌, List, [], ◌∷◌, Some, true}
use Rattle.pt_meaning.specs.Tag.{Tag}
use Rattle.pt_meaning.specs.Streams.{Streams, joined}
use Rattle.pt_meaning.specs.Log.{Log, silent, log_then, own}
use Rattle.pt_meaning.specs.Machine.{Counts, Done, Stepping, Facts}
use Rattle.pt_meaning.specs.Rounds.{has_rates}
use Rattle.pt_meaning.specs.Kahn.{lengths}

-- The state before each firing, what the firing takes and gives, and what is logged within it.
pub record Firings (T S : Type 0) : Type 0 where
  pub state : ℕ → S
  pub takes : ℕ → Streams T
  pub gives : ℕ → Streams T
  pub inside : ℕ → Log T

-- those behind the first
abbrev pub rest : {T S : Type 0} → Firings T S → Firings T S
rest f = record { state = λ k. f.state (suc k); takes = λ k. f.takes (suc k); gives = λ k. f.gives (suc k); inside = λ k. f.inside (suc k) }

-- those behind the first n
abbrev pub later : {T S : Type 0} → ℕ → Firings T S → Firings T S
later zero f = f
later (suc n) f = later n (rest f)

-- what the first k of some streams come to, one after another
abbrev pub gathered : {T : Type 0} → ℕ → (ℕ → Streams T) → Streams T
gathered zero g = []
gathered (suc k) g = joined (g 0) (gathered k (λ j. g (suc j)))

-- the same, with these behind them
abbrev pub before : {T : Type 0} → ℕ → (ℕ → Streams T) → Streams T → Streams T
before zero g X = X
before (suc k) g X = joined (g 0) (before k (λ j. g (suc j)) X)

module _ {T S : Type 0} (facts : Facts T S) (step : Stepping T S) (tag : Tag) where
  -- firing k is made: it takes what the child needs, so many tokens of each place, and gives so many on each port
  pub record IsMade (needs rates : List ℕ) (f : Firings T S) (k : ℕ) : Type 0 where
    pub need : facts.need (f.state k) ≡ Counts needs
    pub takes : lengths (f.takes k) ≡ needs
    pub gives : has_rates rates (f.gives k) ≡ true
    pub done : step tag (f.state k) (f.takes k) ≡ Done (f.state (suc k)) (f.gives k) (f.inside k)

  -- each of the first n is
  abbrev pub AreMade : (needs rates : List ℕ) → ℕ → Firings T S → Type 0
  AreMade needs rates n f = (k : ℕ) → k < n → IsMade needs rates f k

module _ {T S : Type 0} (facts : Facts T S) (tag : Tag) where
  -- what the first k log, each with its own record
  abbrev pub logged : ℕ → Firings T S → Log T
  logged zero f = silent
  logged (suc k) f = log_then (log_then (f.inside 0) (own (record { number = facts.made (f.state 0); tag = tag; inputs = f.takes 0; outputs = f.gives 0 }))) (logged k (rest f))
