-- Lines of meetings, worked by hand: those of one composite in one of its firings.
use Rattle.std.specs.Prelude.{◌≡◌, ℕ, List, [], ◌∷◌, codes, Some}
use Rattle.pt_trace.specs.declared.meetings.Met.{Met}
use Rattle.pt_trace.specs.declared.meetings.Met.TheVariants.{Meet, Out, Barrier}
use Rattle.pt_trace.specs.Report.{Meetings}
use Rattle.pt_trees.specs.Meetings.{lines_of}

abbrev pub at_place : ℕ → Met
at_place channel = Meet (record { child = codes "m"; port = codes "input"; channel = channel })

abbrev pub told : List Meetings
told =
    record { path = codes "C"; lines = record { firing = 0; what = at_place 1 } ∷ record { firing = 1; what = Barrier (codes "b") } ∷ record { firing = 0; what = Out (codes "o") } ∷ [] } ∷
    record { path = codes "D"; lines = record { firing = 0; what = Barrier (codes "b") } ∷ [] } ∷ []

pub record MeetingsExamples : Type 0 where
  pub first : lines_of 0 (Some (codes "C")) told ≡ at_place 1 ∷ Out (codes "o") ∷ []
  pub second : lines_of 1 (Some (codes "C")) told ≡ Barrier (codes "b") ∷ []
  -- and those of another composite
  pub other : lines_of 0 (Some (codes "D")) told ≡ Barrier (codes "b") ∷ []
