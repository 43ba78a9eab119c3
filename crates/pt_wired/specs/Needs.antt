-- How many tokens children need at their places, in one list.
use Rattle.std.specs.Prelude.{◌≡◌, ℕ, List, ◌++◌, length, Bool, true, false, Option, Some, None, Vec}
use Rattle.std.specs.Global.{Global}
use Rattle.pt_meaning.specs.Machine.{Counts}
use Rattle.pt_meaning.specs.NodeFacts.{facts_of, need_of}
use Rattle.pt_meaning.specs.Running.{total}
use Rattle.pt_sdf_parts.specs.ByNeed.{needs_of, planned}
use Rattle.pt_library.specs.LibraryActor.{rows}
use Rattle.pt_node.specs.View.{Tree}

-- the child needs these numbers of tokens at so many places
pub record Needs (kid : Tree) (count : ℕ) (ns : List ℕ) : Type 0 where
  pub need : need_of rows kid ≡ Counts ns
  pub counted : length ns ≡ count

-- its numbers are behind the others; or it has none for so many places
abbrev pub IsAdded : Tree → ℕ → (old new : List ℕ) → Bool → Type 0
IsAdded kid count old new true = (ns : List ℕ) × Needs kid count ns × (new ≡ old ++ ns)
IsAdded kid count old new false = (ns : List ℕ) → Needs kid count ns → ⊥

-- the children need these numbers at their places
pub record NeedAll (kids : List Tree) (places ns : List ℕ) : Type 0 where
  pub needs : needs_of (facts_of rows) kids ≡ planned places ns
  pub counted : length ns ≡ total places

abbrev pub AreNeeds : List Tree → List ℕ → Option (Vec ℕ Global) → Type 0
AreNeeds kids places (Some ns) = NeedAll kids places ns.items
AreNeeds kids places None = (ns : List ℕ) → NeedAll kids places ns → ⊥
