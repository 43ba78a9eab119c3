-- By hand: two children that pass on what they take, each to the other.
use Rattle.std.proofs.Common.{◌≡◌, ◌+◌, ℕ, zero, suc, List, [], ◌∷◌, true, None, inl, refl, subst}
use Rattle.pt_meaning.specs.Basics.{Tag, Streams, at, silent}
use Rattle.pt_meaning.specs.Machine.{Counts, Done, Stepping, Facts}
use Rattle.pt_meaning.specs.Net.{Source, Output, Net}
use Rattle.pt_meaning.specs.Closed.{Has, first_channel}
use Rattle.pt_kinds.specs.Directors.{KeepsChannels}
use Rattle.pt_kinds.specs.Moves.{On, MayCome, stood, given, MayGive, arrives, fires, tells, begins, MayTake, takes, OnlyMoves}

-- channel 0 leads from child 1 to child 0, channel 1 from child 0 to child 1, and channel 2 from child 1 to the own output
abbrev circle : Net
circle = record { sources = Output 1 0 ∷ Output 0 0 ∷ Output 1 0 ∷ []; places = 1 ∷ 1 ∷ [] }

-- a state is the number of firings, and nothing is told early
abbrev facts : Facts ℕ ℕ
facts = record { need = λ s. Counts (1 ∷ []); next = λ s. None; made = λ s. s; early = λ tag s vs. []; whole = λ s. true; reset = λ s. s }

abbrev pass_on : Stepping ℕ ℕ
pass_on tag s X = Done (suc s) X silent

abbrev start : Tag
start = record { time = 0; step = 0 }

abbrev kids : List ℕ
kids = 0 ∷ 0 ∷ []

abbrev nothing : Streams ℕ
nothing = [] ∷ [] ∷ [] ∷ []

-- Where nothing stands on the channels, nothing comes to them: neither child gives a token for the reason that the other gave it.
nothing-stands : (c x : ℕ) → Has x (at nothing c) → ⊥
nothing-stands zero x h = h
nothing-stands (suc zero) x h = h
nothing-stands (suc (suc zero)) x h = h
nothing-stands (suc (suc (suc c))) x h = h

mutual
  nothing-comes : (c x : ℕ) → MayCome facts pass_on start circle kids (On nothing) [] c x → ⊥
  nothing-comes c x (stood d y h) = nothing-stands c x h
  nothing-comes c x (given d s y e g) = nothing-given s x g

  nothing-given : (s : Source) (x : ℕ) → MayGive facts pass_on start circle kids (On nothing) [] s x → ⊥
  nothing-given s x (arrives port y h) = h
  nothing-given s x (fires i port w z X out l y t e h) =
      let same : out ≡ X = cc in
      nothing-taken i w X port x t (subst (λ (Y : Streams ℕ). Has x (at Y port)) same h)
  nothing-given s x (tells i port w vs xs y k e h) = absurd (cc)

  nothing-taken : (i s : ℕ) (X : Streams ℕ) (q x : ℕ) → MayTake facts pass_on start circle kids (On nothing) [] i s X → Has x (at X q) → ⊥
  nothing-taken i s X q x (takes j w Y m l come) h = nothing-comes (first_channel circle.places i + q) x (come q x h)

-- so a firing that gives a token here doesn't only move tokens
gives-of-nothing : OnlyMoves facts pass_on start circle kids (On nothing) [] On (KeepsChannels circle nothing) 1 (Done (record { held = nothing; kids = kids }) ((5 ∷ []) ∷ []) silent) → ⊥
gives-of-nothing m = nothing-comes 2 5 (m.done.gave 0 5 (inl refl))

-- a first token goes round
abbrev one_token : Streams ℕ
one_token = (7 ∷ []) ∷ [] ∷ [] ∷ []

one-token-taken : (q x : ℕ) → Has x (at ((7 ∷ []) ∷ []) q) → MayCome facts pass_on start circle kids (On one_token) [] (0 + q) x
one-token-taken zero x h = stood 0 x h
one-token-taken (suc q) x h = absurd h

one-token-passes : MayCome facts pass_on start circle kids (On one_token) [] 1 7
one-token-passes = given 1 (Output 0 0) 7 refl (fires 0 0 0 1 ((7 ∷ []) ∷ []) ((7 ∷ []) ∷ []) silent 7 (takes 0 0 ((7 ∷ []) ∷ []) (begins 0 0 refl) refl one-token-taken) refl (inl refl))
