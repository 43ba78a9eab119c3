-- What the scheduler holds of a run.
use Rattle.std.specs.Prelude.{◌≡◌, ℕ, ◌+◌, ◌-◌, List, [], ◌∷◌, length, slice_index}
use Rattle.pt_sched.specs.Channels.{AreSmall}
use Rattle.pt_sched.specs.Runs.{IsRun, AreGreatestLengths, firings}
use Rattle.pt_sched.specs.Stretches.{spread}
use Rattle.pt_sched.specs.declared.edge.SchedEdge.{SchedEdge}
use Rattle.pt_sched.specs.declared.run.Run.{Run}

-- the counts are those of the order
abbrev pub IsCounted : List ℕ → List ℕ → Type 0
IsCounted fired order = (child : ℕ) → slice_index fired child ≡ firings order child

-- a run, its firings child by child, and the greatest lengths so far
pub record IsHeld (channels : List SchedEdge) (q : List ℕ) (run : Run) : Type 0 where
  pub order : IsRun channels q (spread run.order.items)
  pub counted : length run.fired.items ≡ length q
  pub fired : IsCounted run.fired.items (spread run.order.items)
  pub small : AreSmall run.fired.items
  pub lengths : AreGreatestLengths channels (spread run.order.items) run.lengths.items

-- the firings that are left
abbrev pub left : List ℕ → List ℕ → ℕ
left [] fired = 0
left (m ∷ q) [] = 0
left (m ∷ q) (k ∷ fired) = m - k + left q fired
