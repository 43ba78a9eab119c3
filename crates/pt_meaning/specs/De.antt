-- DE: a firing is the reaction to the events at one tag (the book, "Discrete-Event Models"). That a model passes several tokens of one tag in order is by the profile.
use Rattle.std.specs.Prelude.{ℕ, zero, suc, max, List, [], ◌∷◌, Bool, true, false, ◌||◌, length}
use Rattle.pt_meaning.specs.Tag.{Tag, is_due}
use Rattle.pt_meaning.specs.Streams.{Streams, joined, any_present}
use Rattle.pt_meaning.specs.Log.{Log, silent, log_then}
use Rattle.pt_meaning.specs.Machine.{Outcome, Done, Stuck, Stepping, Facts, Partial, recorded}
use Rattle.pt_meaning.specs.Net.{Inside}
use Rattle.pt_meaning.specs.Valuation.{Activity, Earliness, TickPlan, tick}

-- a child is active where a token is present or its wake is at or before the tag
abbrev pub de_active : {T S : Type 0} → Facts T S → Activity T S
de_active facts tag s X = any_present X || is_due tag (facts.next s)

-- a child that takes its lists whole may have an early answer; any other has none
abbrev pub if_whole : {T : Type 0} → Bool → List (Partial T) → List (Partial T)
if_whole true vs = vs
if_whole false vs = []

-- the early answer under DE
abbrev pub de_early : {T S : Type 0} → Facts T S → Earliness T S
de_early facts tag s vs = if_whole (facts.whole s) (facts.early tag s vs)

-- Rows: row j holds token j of each list, and none where the list is shorter. There are as many as the longest list has tokens, and one at least.
abbrev pub heads : {T : Type 0} → Streams T → Streams T
heads [] = []
heads ([] ∷ X) = [] ∷ heads X
heads ((x ∷ xs) ∷ X) = (x ∷ []) ∷ heads X

-- what is behind the first row
abbrev pub tails : {T : Type 0} → Streams T → Streams T
tails [] = []
tails ([] ∷ X) = [] ∷ tails X
tails ((x ∷ xs) ∷ X) = xs ∷ tails X

-- the length of the longest list
abbrev pub longest : {T : Type 0} → Streams T → ℕ
longest [] = 0
longest (xs ∷ X) = max (length xs) (longest X)

-- the first n rows
abbrev pub rows_from : {T : Type 0} → ℕ → Streams T → List (Streams T)
rows_from zero X = []
rows_from (suc n) X = heads X ∷ rows_from n (tails X)

-- as many rows as the longest list has tokens, and one at least
abbrev pub rows_of : {T : Type 0} → Streams T → List (Streams T)
rows_of X = rows_from (max 1 (longest X)) X

-- one outcome after another
abbrev pub follows : {T S : Type 0} → Streams T → Log T → Outcome T S → Outcome T S
follows out l (Done s more m) = Done s (joined out more) (log_then l m)
follows out l (Stuck fs m) = Stuck fs (log_then l m)

-- goes on from the state of a firing, where it was done
abbrev pub and_then : {T S : Type 0} → (S → Outcome T S) → Outcome T S → Outcome T S
and_then more (Done s out l) = follows out l (more s)
and_then more (Stuck fs l) = Stuck fs l

-- a firing for each row, in order, all at this tag
abbrev pub by_rows : {T S : Type 0} → Facts T S → Stepping T S → Tag → List (Streams T) → S → Outcome T S
by_rows facts step tag [] s = Done s [] silent
by_rows facts step tag (X ∷ Xs) s = and_then (by_rows facts step tag Xs) (recorded (facts.made s) tag X (step tag s X))

-- one firing on the whole lists, or one for each row
abbrev pub whole_or_rows : {T S : Type 0} → Bool → Facts T S → Stepping T S → Stepping T S
whole_or_rows true facts step tag s X = recorded (facts.made s) tag X (step tag s X)
whole_or_rows false facts step tag s X = by_rows facts step tag (rows_of X) s

-- what an active child fires at the tag
abbrev pub de_turn : {T S : Type 0} → Facts T S → Stepping T S → Stepping T S
de_turn facts step tag s X = whole_or_rows (facts.whole s) facts step tag s X

-- DE: the least valuation at the tag; where a channel stays unknown for want of a delay, no place is told
abbrev pub de : {T S : Type 0} → Facts T S → Stepping T S → TickPlan → ℕ → Tag → List S → Streams T → Outcome T (Inside (Streams T) S)
de facts step p k tag kids inputs = tick (de_early facts) (de_active facts) (de_turn facts step) tag p.net [] kids inputs k
