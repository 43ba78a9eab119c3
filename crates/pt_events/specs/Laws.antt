-- What follows from the definitions.
use Rattle.std.specs.Prelude.{◌≡◌, ℕ, true, false, List, ◌∷◌, All, Contains, IsPermutation, MatchOption}
use Rattle.pt_meaning.specs.Tag.{Tag}
use Rattle.pt_events.specs.Placed.{in_order}
use Rattle.pt_events.specs.Entries.{Entry, by_tag, by_depth}
use Rattle.pt_events.specs.Queue.{is_due, next_due, put, left}
use Rattle.pt_events.specs.Depths.{AreBetween, AreDepths, IsLoop}

-- a graph has one list of depths at most
abbrev pub DepthsAreAlone : Type 0
DepthsAreAlone = (n : ℕ) (edges : List (ℕ × ℕ)) (a b : List ℕ) → AreBetween n edges → AreDepths n edges a → AreDepths n edges b → a ≡ b

-- where there are depths there is no directed loop
abbrev pub DepthsExcludeLoops : Type 0
DepthsExcludeLoops = (n : ℕ) (edges : List (ℕ × ℕ)) (depths children : List ℕ) → AreBetween n edges → AreDepths n edges depths → ¬ IsLoop edges children

-- an entry that is due, and that comes by depth, number and tag before all that are
pub record IsNextDue (tag : Tag) (queue : List Entry) (e : Entry) : Type 0 where
  pub there : Contains queue e
  pub due : is_due tag e ≡ true
  pub least : All (λ other. is_due tag other ≡ true → by_depth e other ≡ true) queue

-- what is taken is such an entry, and there is none where none is due
abbrev pub TakesTheLeast : Type 0
TakesTheLeast = (tag : Tag) (queue : List Entry) → MatchOption (next_due tag queue) (All (λ e. is_due tag e ≡ false) queue) (IsNextDue tag queue)

-- the queue of some entries in whatever order they were put
pub record EntriesCount : Type 0 where
  pub order : (entries others : List Entry) → IsPermutation entries others → in_order by_tag entries ≡ in_order by_tag others
  pub same : (entries : List Entry) → IsPermutation entries (in_order by_tag entries)
  pub put : (e : Entry) (queue : List Entry) → IsPermutation (e ∷ queue) (put e queue)
  pub left : (tag : Tag) (queue : List Entry) → MatchOption (next_due tag queue) (left tag queue ≡ queue) (λ e. IsPermutation queue (e ∷ left tag queue))
