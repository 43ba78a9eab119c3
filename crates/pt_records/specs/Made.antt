-- Which meetings an engine made, by what it recorded of the Rendezvous composites in a node. Of other nodes it records none, and these are asked for none.
use Rattle.std.specs.Prelude.{◌≡◌, ℕ, suc, ◌<◌, List, [], ◌∷◌, nat_eq, Option, Some, None}
use Rattle.pt_meaning.specs.Log.{Path, Meeting, if_same}
use Rattle.pt_meaning.specs.Meetings.{Meets, below_child}
use Rattle.pt_records.specs.Kept.{Made, Kept, kept_at}

-- the meetings of one firing, in order
abbrev pub made_in : ℕ → Made → List Meeting
made_in n [] = []
made_in n (x ∷ xs) = if_same (nat_eq x.0 n) x.1 (made_in n xs)

abbrev pub made_if : ℕ → Option Made → List Meeting
made_if n None = []
made_if n (Some made) = made_in n made

-- the recorded meetings, by path and firing
abbrev pub meets_of : {T : Type 0} → Kept T → Meets
meets_of k p n = made_if n (k p).meetings

-- These are the meetings that were recorded for a firing. Where none are recorded the firing has none, and it is the same what stands for them.
abbrev pub IsMade : Option Made → ℕ → List Meeting → Type 0
IsMade None n ms = Unit {0}
IsMade (Some made) n ms = ms ≡ made_in n made

-- m has the recorded meetings of each firing, be it finished or under way
abbrev pub AreMade : {T : Type 0} → Meets → Kept T → Type 0
AreMade m k = (p : Path) (n : ℕ) → IsMade (k p).meetings n (m p n)

-- it has those of the finished firings
abbrev pub AreMadeBefore : {T : Type 0} → Meets → Kept T → Type 0
AreMadeBefore m k = (p : Path) (n : ℕ) → n < (k p).count → IsMade (k p).meetings n (m p n)

-- it has those of the finished firings, and of the next one of the node itself
pub record AreMadeWithin {T : Type 0} (m : Meets) (k : Kept T) : Type 0 where
  pub own : (n : ℕ) → n < suc (k []).count → IsMade (k []).meetings n (m [] n)
  pub below : (i : ℕ) → AreMadeBefore (below_child i m) (λ p. k (i ∷ p))

-- the same of each child
abbrev pub AllMade : {T : Type 0} → Meets → List (Kept T) → Type 0
AllMade m ks = (i : ℕ) → AreMade (below_child i m) (kept_at ks i)

abbrev pub AllMadeBefore : {T : Type 0} → Meets → List (Kept T) → Type 0
AllMadeBefore m ks = (i : ℕ) → AreMadeBefore (below_child i m) (kept_at ks i)

-- no meetings are recorded anywhere in the node: no composite in it is one of Rendezvous
abbrev pub IsUnmet : {T : Type 0} → Kept T → Type 0
IsUnmet k = (p : Path) → (k p).meetings ≡ None
