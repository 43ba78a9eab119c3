-- The children of a dataflow composite as its core sees them: each by its need alone.
use Rattle.std.specs.Prelude.{ℕ, zero, suc, List, [], ◌∷◌, None, false, take, drop}
use Rattle.pt_meaning.specs.Streams.{Streams}
use Rattle.pt_meaning.specs.Machine.{Need, Counts, Facts}
use Rattle.pt_meaning.specs.Running.{total}

-- a child whose state is its need, of which nothing else is known
abbrev pub by_need : {T : Type 0} → Facts T Need
by_need = record { need = λ n. n; next = λ n. None; made = λ n. 0; early = λ tag n vs. []; whole = λ n. false; reset = λ n. n }

-- the needs of some children
abbrev pub needs_of : {T S : Type 0} → Facts T S → List S → List Need
needs_of facts [] = []
needs_of facts (s ∷ ss) = facts.need s ∷ needs_of facts ss

-- the needs by a plan that has a number for each place: child by child, of which places tells how many places each has
abbrev pub planned : (places : List ℕ) → List ℕ → List Need
planned [] ns = []
planned (p ∷ ps) ns = Counts (take p ns) ∷ planned ps (drop p ns)

-- where the places of child i begin
abbrev pub place_of : (places : List ℕ) → ℕ → ℕ
place_of places i = total (take i places)

-- the streams from number o on, each without as many tokens as ns says
abbrev pub skip_at : {T : Type 0} → ℕ → List ℕ → Streams T → Streams T
skip_at zero [] X = X
skip_at zero (n ∷ ns) [] = []
skip_at zero (n ∷ ns) (xs ∷ X) = drop n xs ∷ skip_at zero ns X
skip_at (suc o) ns [] = []
skip_at (suc o) ns (xs ∷ X) = xs ∷ skip_at o ns X
