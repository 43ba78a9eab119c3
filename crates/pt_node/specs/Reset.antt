-- A node that is brought back to its start, with all within it.
use Rattle.std.specs.Prelude.{◌≡◌, ℕ, zero, suc, List, [], ◌∷◌, Option}
use Rattle.pt_meaning.specs.Tree.{Past, forgotten, reset_of, reset_all}
use Rattle.pt_records.specs.Kept.{Made}
use Rattle.pt_node.specs.declared.body.Body.{Body}
use Rattle.pt_past.specs.Meetings.{Serves}
use Rattle.pt_node.specs.Shown.{Shown, AllShown}
use Rattle.pt_node.specs.View.{node_with, node_of, nodes_of, kept_of, kepts_of, outline_of, outlines_of, count_of, counts_of}
use Rattle.pt_node.specs.Live.{IsLive, IsReadyBody, AllFit, met_in}

-- among the definitions it is the node that a reset gives, and it may fire
pub record WasReset (old new : Shown) : Type 0 where
  pub node : node_of new ≡ reset_of (node_of old)
  pub live : IsLive new

-- the same of each of the children
pub record WereReset (old new : AllShown) : Type 0 where
  pub nodes : nodes_of new ≡ reset_all (nodes_of old)
  pub fit : AllFit new

-- the same of what a node is, whatever its past, with its children; a record of meetings serves it as before
pub record BodyReset (old : Body) (olds : AllShown) (new : Body) (news : AllShown) : Type 0 where
  pub node : (h : Past) → node_with (forgotten h) new (nodes_of news) ≡ reset_of (node_with h old (nodes_of olds))
  pub ready : IsReadyBody new news
  pub fit : AllFit news
  pub serves : (n : ℕ) (r : Option Made) → Serves (met_in old) n r → Serves (met_in new) n r

-- how often it fired, what is recorded of it, and its names are as before
pub record KeepsRecords (old new : Shown) : Type 0 where
  pub kept : kept_of new ≡ kept_of old
  pub outline : outline_of new ≡ outline_of old
  pub count : count_of new ≡ count_of old

pub record KeepRecords (old new : AllShown) : Type 0 where
  pub kepts : kepts_of new ≡ kepts_of old
  pub outlines : outlines_of new ≡ outlines_of old
  pub counts : counts_of new ≡ counts_of old

-- the first k of some children were brought back to their starts, and the others are as they were
abbrev pub ResetTo : ℕ → (olds now : List Shown) → Type 0
ResetTo k [] [] = Unit {0}
ResetTo k [] (t ∷ ts) = ⊥
ResetTo k (s ∷ ss) [] = ⊥
ResetTo zero (s ∷ ss) (t ∷ ts) = (t ≡ s) × ResetTo zero ss ts
ResetTo (suc k) (s ∷ ss) (t ∷ ts) = WasReset s t × ResetTo k ss ts
