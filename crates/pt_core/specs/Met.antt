-- The meetings of a firing, which the definitions take as given, by those that a director has told since it began.
use Rattle.std.specs.Prelude.{◌≡◌, ℕ, ◌≤◌, List, [], ◌∷◌, ◌++◌, map, Option, Some, None}
use Rattle.pt_meaning.specs.Log.{Meeting}
use Rattle.pt_meaning.specs.Meetings.{Meets}
use Rattle.pt_meaning.specs.Tree.{Past}
use Rattle.pt_firing.specs.declared.ask.Ask.{Ask}
use Rattle.pt_firing.specs.declared.ask.Ask.TheVariants.{Fire, Early, Reset, Get, Put, Grow, Meet, Await, Finished, Faulted, Full}
use Rattle.pt_firing.specs.Meeting.{meeting_of}
use Rattle.pt_records.specs.Kept.{Made, Entry}

-- the meetings that are recorded of a composite, once these of its firing of number n are recorded too
abbrev pub made_with : ℕ → List Meeting → Option Made → Option Made
made_with n ms None = None
made_with n ms (Some made) = Some (made ++ map (λ m. (n, m)) ms)

abbrev pub entry_with : {T : Type 0} → ℕ → List Meeting → Entry T → Entry T
entry_with n ms e = record { count = e.count; recorded = e.recorded; meetings = made_with n ms e.meetings }

-- The firing of a composite with this past is the next one after those that its entry counts, its entry records meetings, and those of the firing are these, among all that are given.
pub record AreMet {T : Type 0} (m : Meets) (h : Past) (ms : List Meeting) (e : Entry T) : Type 0 where
  pub listed : m [] h.made ≡ ms
  pub next : e.count ≤ h.made
  pub made : Made
  pub recorded : e.meetings ≡ Some made

-- So it is with a director that makes meetings. Of one that makes none nothing is asked.
abbrev pub HasMet : {T : Type 0} → Option (List Meeting) → Meets → Past → Entry T → Type 0
HasMet None m h e = Unit {0}
HasMet (Some ms) m h e = AreMet m h ms e

-- those of the firing alone, whatever is recorded
abbrev pub IsListed : Option (List Meeting) → Meets → Past → Type 0
IsListed None m h = Unit {0}
IsListed (Some ms) m h = m [] h.made ≡ ms

-- what is kept of the composite itself goes on by the meetings made
abbrev pub entry_met : {T : Type 0} → ℕ → Option (List Meeting) → Entry T → Entry T
entry_met n None e = e
entry_met n (Some ms) e = entry_with n ms e

-- no meeting is made yet
abbrev pub none_met : Option (List Meeting) → Option (List Meeting)
none_met None = None
none_met (Some ms) = Some []

-- one more is made
abbrev pub one_met : Meeting → Option (List Meeting) → Option (List Meeting)
one_met m None = None
one_met m (Some ms) = Some (ms ++ (m ∷ []))

-- the meetings made so far, once this is answered too
abbrev pub met_after : Ask → Option (List Meeting) → Option (List Meeting)
met_after (Meet m) met = one_met (meeting_of m) met
met_after (Fire child tag) met = met
met_after (Early child tag) met = met
met_after (Reset child) met = met
met_after (Get child) met = met
met_after (Put child) met = met
met_after Grow met = met
met_after Await met = met
met_after Finished met = met
met_after (Faulted kind child) met = met
met_after Full met = met
