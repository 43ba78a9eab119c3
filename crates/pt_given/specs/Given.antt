-- The meaning makes the meetings that are given for it, and no others.
use Rattle.std.specs.Prelude.{◌≡◌, ℕ}
use Rattle.pt_meaning.specs.Streams.{IsPrefix}
use Rattle.pt_meaning.specs.Log.{Path, Log, meetings_in}
use Rattle.pt_meaning.specs.Meetings.{Meets}
use Rattle.pt_meaning.specs.Tree.{Rows, Node}
use Rattle.pt_meaning.specs.Lawful.{LawfulRows}
use Rattle.pt_meaning.specs.Start.{IsAtStart}
use Rattle.pt_meaning.specs.Job.{Schedule, meaning, AreLegal, IsPrefixOfMeaning}
use Rattle.pt_laws.specs.Heights.{IsFitting}
use Rattle.pt_laws.specs.StartedRuns.{ArePlans}

-- At each fuel the meetings of each firing are a beginning of those that are given for it.
abbrev pub MeetingsAreGiven : Type 0 → Type 0 → Type 0
MeetingsAreGiven T A = (rows : Rows T A) → LawfulRows rows → (m : Meets) (plan : Schedule T A) (top : Node T A) → IsFitting top → ArePlans top → IsAtStart rows top → (k : ℕ) (p : Path) (n : ℕ) → IsPrefix (meetings_in n (meaning k rows m plan top p)) (m p n)

-- So the meetings that a log tells are legal, where it is a beginning of the meaning's and no others are given.
abbrev pub AllAreLegal : Type 0 → Type 0 → Type 0
AllAreLegal T A = (rows : Rows T A) → LawfulRows rows → (m : Meets) (plan : Schedule T A) (top : Node T A) → IsFitting top → ArePlans top → IsAtStart rows top → (l : Log T) → IsPrefixOfMeaning rows m plan top l → ((p : Path) (n : ℕ) → m p n ≡ meetings_in n (l p)) → AreLegal rows m plan top
