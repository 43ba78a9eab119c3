-- Queues and graphs that were worked by hand.
use Rattle.std.specs.Prelude.{◌≡◌, ℕ, List, [], ◌∷◌, map, Some, None}
use Rattle.pt_meaning.specs.Tag.{Tag}
use Rattle.pt_events.specs.Entries.{Entry}
use Rattle.pt_events.specs.Queue.{put, first, taken, left}
use Rattle.pt_events.specs.Depths.{feeders, depth_after}

-- a tag
abbrev pub at : ℕ → ℕ → Tag
at time step = record { time = time; step = step }

-- an entry
abbrev pub entry : Tag → ℕ → ℕ → Entry
entry tag depth actor = record { tag = tag; depth = depth; actor = actor }

-- Three entries: at 5.0 of depth 1 for actor 1, at 3.0 of depth 2 for actor 2, at 5.0 of depth 0 for actor 3.
abbrev pub three : List Entry
three = put (entry (at 5 0) 0 3) (put (entry (at 3 0) 2 2) (put (entry (at 5 0) 1 1) []))

-- at 5.0 all are due, and depth 0 goes first, though its tag is later than that of actor 2; a take at the earlier tag 3.0 then finds actor 2 alone, and a second one nothing
pub record ThreeEntries : Type 0 where
  pub order : three ≡ entry (at 3 0) 2 2 ∷ entry (at 5 0) 0 3 ∷ entry (at 5 0) 1 1 ∷ []
  pub first : first three ≡ Some (at 3 0)
  pub by_depth : taken (at 5 0) three ≡ Some 3
  pub back : taken (at 3 0) (left (at 5 0) three) ≡ Some 2
  pub nothing : taken (at 3 0) (left (at 3 0) (left (at 5 0) three)) ≡ None
  pub kept : left (at 3 0) (left (at 3 0) (left (at 5 0) three)) ≡ entry (at 5 0) 1 1 ∷ []
  pub again : taken (at 5 0) (left (at 3 0) (left (at 5 0) three)) ≡ Some 1
  pub empty : left (at 5 0) (left (at 3 0) (left (at 5 0) three)) ≡ []
  pub end : taken (at 5 0) [] ≡ None

-- Two clocks of depth 0, actors 4 and 5, are due at 6.0, and actor 4 twice.
abbrev pub equal : List Entry
equal = put (entry (at 6 0) 0 4) (put (entry (at 6 0) 0 5) (put (entry (at 6 0) 0 4) []))

-- each of them is taken, by number, and none is lost
pub record EqualEntries : Type 0 where
  pub one : taken (at 6 0) equal ≡ Some 4
  pub two : taken (at 6 0) (left (at 6 0) equal) ≡ Some 4
  pub three : taken (at 6 0) (left (at 6 0) (left (at 6 0) equal)) ≡ Some 5
  pub end : left (at 6 0) (left (at 6 0) (left (at 6 0) equal)) ≡ []

-- One actor has an event at 2.1 and one at 2.0.
abbrev pub microsteps : List Entry
microsteps = put (entry (at 2 1) 3 7) (put (entry (at 2 0) 3 7) [])

-- the microstep counts: at 2.0 one of them is due, at 2.1 both are, and the earlier one is taken first; at 1.9 none is
pub record Microsteps : Type 0 where
  pub first : first microsteps ≡ Some (at 2 0)
  pub before : taken (at 1 9) microsteps ≡ None
  pub one : left (at 2 0) microsteps ≡ entry (at 2 1) 3 7 ∷ []
  pub none : taken (at 2 0) (left (at 2 0) microsteps) ≡ None
  pub both : left (at 2 1) microsteps ≡ entry (at 2 1) 3 7 ∷ []
  pub later : taken (at 9 0) (left (at 2 1) microsteps) ≡ Some 7

-- what the depths of these children say of the depth of each
abbrev pub depths_from : List (ℕ × ℕ) → List ℕ → List ℕ → List ℕ
depths_from edges depths children = map (λ child. depth_after depths (feeders edges child)) children

-- 0 feeds 1, 2 and 3; 1 and 2 feed 3; 4 stands alone
abbrev pub diamond : List (ℕ × ℕ)
diamond = (0, 1) ∷ (0, 2) ∷ (1, 3) ∷ (2, 3) ∷ (0, 3) ∷ []

-- the longest way counts; a clock that feeds a delay has no edge to it
pub record DepthsOfChildren : Type 0 where
  pub diamond : depths_from diamond (0 ∷ 1 ∷ 1 ∷ 2 ∷ 0 ∷ []) (0 ∷ 1 ∷ 2 ∷ 3 ∷ 4 ∷ []) ≡ 0 ∷ 1 ∷ 1 ∷ 2 ∷ 0 ∷ []
  pub delay : depths_from [] (0 ∷ 0 ∷ []) (0 ∷ 1 ∷ []) ≡ 0 ∷ 0 ∷ []
  pub chain : depths_from ((2, 1) ∷ (1, 0) ∷ []) (2 ∷ 1 ∷ 0 ∷ []) (0 ∷ 1 ∷ 2 ∷ []) ≡ 2 ∷ 1 ∷ 0 ∷ []

-- all of these
pub record EventExamples : Type 0 where
  pub three : ThreeEntries
  pub equal : EqualEntries
  pub microsteps : Microsteps
  pub depths : DepthsOfChildren
