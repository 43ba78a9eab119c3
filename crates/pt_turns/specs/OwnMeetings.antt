-- What is recorded of a composite's own meetings in the middle of a firing, and what its director has told of them.
use Rattle.std.specs.Prelude.{◌≡◌, ℕ, List, [], ◌∷◌, Option, Some, None}
use Rattle.pt_meaning.specs.Log.{Meeting}
use Rattle.pt_meaning.specs.Meetings.{Meets}
use Rattle.pt_meaning.specs.Tree.{Past}
use Rattle.pt_records.specs.Kept.{Made, Entry}
use Rattle.pt_records.specs.Made.{IsMade}
use Rattle.pt_core.specs.Met.{made_with}
use Rattle.pt_past.specs.Meetings.{Serves}

-- the number of the firing under way, what was recorded as it began, and what is now
pub record OwnMeetings : Type 0 where
  pub number : ℕ
  pub start : Option Made
  pub now : Option Made

abbrev pub own_of : ℕ → (start now : Option Made) → OwnMeetings
own_of n start now = record { number = n; start = start; now = now }

-- what is recorded, once those are recorded too that were made in firing n so far
abbrev pub recorded_with : ℕ → Option (List Meeting) → Option Made → Option Made
recorded_with n None r = r
recorded_with n (Some ms) r = made_with n ms r

-- one more is recorded
abbrev pub one_more : Meeting → OwnMeetings → OwnMeetings
one_more m own = own_of own.number own.start (made_with own.number (m ∷ []) own.now)

-- The record served the firing as it began, and has all meetings besides that the director has told since.
pub record AreRecorded (met : Option (List Meeting)) (own : OwnMeetings) : Type 0 where
  pub serves : Serves met own.number own.start
  pub recorded : own.now ≡ recorded_with own.number met own.start

-- what is kept of a path, with these meetings
abbrev pub with_meetings : {T : Type 0} → Option Made → Entry T → Entry T
with_meetings r e = record { count = e.count; recorded = e.recorded; meetings = r }

-- The composite with this past makes that firing, what is kept of its path is as the firing found it, and the meetings that are given for it are those that are recorded of it now.
pub record IsOwnPath {T : Type 0} (m : Meets) (own : OwnMeetings) (h : Past) (e : Entry T) : Type 0 where
  pub number : h.made ≡ own.number
  pub count : e.count ≡ own.number
  pub meetings : e.meetings ≡ own.start
  pub given : IsMade own.now own.number (m [] own.number)
