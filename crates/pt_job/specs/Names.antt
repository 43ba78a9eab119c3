-- Texts that the program borrows, and how they are looked up.
use Rattle.std.specs.Prelude.{ℕ, List, map, Bool, nat_eq}
use Rattle.std.specs.Borrow.{Bor}
use Rattle.std.specs.Cmp.Lexicographic.{pointwise}

abbrev pub Name : Type 0
Name = Bor (List ℕ)

abbrev pub name_eq : Name → Name → Bool
name_eq x y = pointwise nat_eq x.now y.now

-- the texts that are borrowed
abbrev pub texts : List Name → List (List ℕ)
texts names = map (λ (n : Name). n.now) names
