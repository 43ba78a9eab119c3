-- The tokens of channels, each of which has a run of items apart, in front of its other tokens.
use Rattle.std.specs.Prelude.{ℕ, ◌+◌, ◌-◌, ◌^◌, ◌<◌, ◌≤◌, List, [], ◌∷◌, ◌++◌, length, map, slice_index_or}
use Rattle.pt_pool.specs.Queues.{list_at, spare_at}

module _ {N T : Type 0} (token : N → T) where
  -- the tokens of each channel: those that the items of its run are, before those in the region
  abbrev pub joined : List (List N) → List (List T) → List (List T)
  joined runs [] = []
  joined [] (list ∷ lists) = list ∷ lists
  joined (run ∷ runs) (list ∷ lists) = (map token run ++ list) ∷ joined runs lists

module _ {N : Type 0} where
  -- the spare of each channel: its reserved cells but as many as its run has items, which take no cells themselves
  abbrev pub lessened : List (List N) → List ℕ → List ℕ
  lessened runs [] = []
  lessened [] (spare ∷ spares) = spare ∷ spares
  lessened (run ∷ runs) (spare ∷ spares) = (spare - length run) ∷ lessened runs spares

  -- the run of channel c
  abbrev pub run_at : List (List N) → ℕ → List N
  run_at runs c = slice_index_or runs c []

  -- a channel with this run, so many tokens in the region and so many reserved cells has a cell for each item of its run, and
  -- its tokens can be counted
  pub record IsCovered (run : List N) (count spare : ℕ) : Type 0 where
    pub kept : length run ≤ spare
    pub counted : count + spare < 2 ^ 64

  -- the same of every channel
  abbrev pub AreCovered : {T : Type 0} → List (List N) → List (List T) → List ℕ → Type 0
  AreCovered runs lists spares = (c : ℕ) → IsCovered (run_at runs c) (length (list_at lists c)) (spare_at spares c)
