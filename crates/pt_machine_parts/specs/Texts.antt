-- Texts that the program borrows.
use Rattle.std.specs.Prelude.{ℕ, List, map}
use Rattle.std.specs.Borrow.{Bor}

abbrev pub Name : Type 0
Name = Bor (List ℕ)

abbrev pub texts : List Name → List (List ℕ)
texts names = map (λ (n : Name). n.now) names
