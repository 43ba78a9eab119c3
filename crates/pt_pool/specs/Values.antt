-- The values that cells hold.
use Rattle.std.specs.Prelude.{ℕ, zero, suc, ◌<◌, length, List, [], ◌∷◌, map, filter_map, slice_index_or, Option, None, IsSome, ⊤}

module _ {T : Type 0} where
  -- the values of some cells
  abbrev pub values_at : List (Option T) → List ℕ → List T
  values_at values cells = filter_map (λ cell. slice_index_or values cell None) cells

  -- each of these cells has a value
  abbrev pub AreFull : List (Option T) → List ℕ → Type 0
  AreFull values [] = ⊤
  AreFull values (cell ∷ cells) = IsSome (slice_index_or values cell None) × AreFull values cells

  -- each cell of each of these lists has one
  abbrev pub AreAllFull : List (Option T) → List (List ℕ) → Type 0
  AreAllFull values [] = ⊤
  AreAllFull values (cells ∷ rest) = AreFull values cells × AreAllFull values rest

  -- the next n cells from this one on are cells with values
  abbrev pub IsWalk : List (Option T) → List ℕ → ℕ → ℕ → Type 0
  IsWalk values next zero cell = ⊤
  IsWalk values next (suc n) cell = (cell < length values) × (cell < length next) × IsSome (slice_index_or values cell None) × IsWalk values next n (slice_index_or next cell 0)
