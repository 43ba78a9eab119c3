-- Fields in the order of their names.
use Rattle.std.specs.Prelude.{ℕ, List, [], ◌∷◌, if◌then◌else◌}
use Rattle.pt_language.specs.RecordOf.{is_below}

-- the fields with one more, before the first whose name is greater
abbrev pub put : {A : Type 0} → List ℕ × A → List (List ℕ × A) → List (List ℕ × A)
put f [] = f ∷ []
put f (g ∷ gs) = if is_below f.0 g.0 then f ∷ g ∷ gs else g ∷ put f gs

-- the fields by the order of their names
abbrev pub by_name : {A : Type 0} → List (List ℕ × A) → List (List ℕ × A)
by_name [] = []
by_name (f ∷ fs) = put f (by_name fs)
