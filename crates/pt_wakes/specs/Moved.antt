-- The children whose wakes are due become due.
use Rattle.std.specs.Prelude.{List, [], ◌∷◌, Bool, ◌||◌, Option}
use Rattle.pt_meaning.specs.Tag.{Tag, is_due}
use Rattle.pt_wakes.specs.Due.{DueSet}

-- whether each child is due, or its wake is
abbrev pub woken : Tag → List (Option Tag) → List Bool → List Bool
woken tag [] due = due
woken tag (w ∷ ws) [] = []
woken tag (w ∷ ws) (b ∷ bs) = (is_due tag w || b) ∷ woken tag ws bs

abbrev pub with_woken : Tag → List (Option Tag) → DueSet → DueSet
with_woken tag wakes s = record { depths = s.depths; due = woken tag wakes s.due }
