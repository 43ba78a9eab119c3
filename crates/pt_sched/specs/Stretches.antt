-- The order of firings that stretches spell out.
use Rattle.std.specs.Prelude.{ℕ, List, [], ◌∷◌, ◌++◌, replicate}
use Rattle.pt_sched.specs.declared.stretch.Stretch.{Stretch}

-- stretch by stretch: the child, and the child again as often as it says
abbrev pub spread : List Stretch → List ℕ
spread [] = []
spread (stretch ∷ order) = (stretch.child ∷ replicate stretch.again stretch.child) ++ spread order
