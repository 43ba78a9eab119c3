-- What a library of actors owes.
use Rattle.std.specs.Prelude.{◌≡◌, ℕ, List, [], Some, true, false, ◌||◌}
use Rattle.pt_meaning.specs.Tag.{Tag, is_due}
use Rattle.pt_meaning.specs.Streams.{Streams, at, any_present}
use Rattle.pt_meaning.specs.Machine.{Partial, Known, partial_at}
use Rattle.pt_meaning.specs.Valuation.{known}
use Rattle.pt_meaning.specs.Laws.{PartialBelow, KnownBelow}
use Rattle.pt_meaning.specs.Tree.{Rows, Gives}

-- What the rows of the library keep: early answers grow with what is known, and are kept by the step. An actor that takes its lists whole keeps them also where it is not active.
pub record LawfulRows {T A : Type 0} (rows : Rows T A) : Type 0 where
  pub grows : (tag : Tag) (a : A) (vs ws : List (Partial T)) → KnownBelow vs ws → (p : ℕ) → PartialBelow (partial_at (rows.early tag a vs) p) (partial_at (rows.early tag a ws) p)
  pub agrees : (tag : Tag) (a : A) (vs : List (Partial T)) (X : Streams T) (b : A) (out : Streams T) → known vs ≡ Some X → rows.react tag a X ≡ Gives b out → (p : ℕ) → PartialBelow (partial_at (rows.early tag a vs) p) (Known (at out p))
  pub rests : (tag : Tag) (a : A) (vs : List (Partial T)) (X : Streams T) → rows.whole a ≡ true → known vs ≡ Some X → (any_present X || is_due tag (rows.next a)) ≡ false → (p : ℕ) → PartialBelow (partial_at (rows.early tag a vs) p) (Known [])
  pub waits : (a : A) → rows.whole a ≡ true → rows.begins a ≡ false
