-- The record of the meetings that a composite made: each with the number of its firing.
use Rattle.std.specs.Prelude.{◌≡◌, ℕ, ◌≤◌, List, [], Option, Some, None}
use Rattle.pt_meaning.specs.Log.{Meeting}
use Rattle.pt_firing.specs.declared.ask.Meeting as asked
use Rattle.pt_firing.specs.Meeting.{meeting_of}
use Rattle.pt_records.specs.Kept.{Made}
use Rattle.pt_records.specs.Made.{made_in}

-- a meeting as it is recorded, among the definitions
abbrev pub told : ℕ × asked.Meeting → ℕ × Meeting
told m = (m.0, meeting_of m.1)

-- The record serves the firing of number n: a director that makes meetings has one, with none of that firing or of a later one.
abbrev pub Serves : Option (List Meeting) → ℕ → Option Made → Type 0
Serves None n r = Unit {0}
Serves (Some ms) n None = ⊥
Serves (Some ms) n (Some made) = (k : ℕ) → n ≤ k → made_in k made ≡ []
