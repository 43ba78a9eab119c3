use Rattle.std.proofs.Common.{◌≡◌, List, [], ℕ, length, All}
use Rattle.pt_events.proofs.feeders.empty_lists.Given as goal

abbrev pub invariant-loop-child : goal.invariant-loop-child
invariant-loop-child l = record { counted : length l.lists.items ≡ l._child; empty : All (λ (list : List ℕ). list ≡ []) l.lists.items }
