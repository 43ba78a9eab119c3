-- Which channels the outputs of a child feed, and which the own inputs feed. Of n children row i is that of child i, and row n that of the own inputs.
use Rattle.std.specs.Prelude.{◌≡◌, ℕ, suc, ◌+◌, ◌<◌, List, [], ◌∷◌, Bool, true, false, length, map, nat_eq, get_or, Vec}
use Rattle.std.specs.Global.{Global}
use Rattle.pt_meaning.specs.Net.{Source, Own, Output}
use Rattle.pt_reaction.specs.declared.feeds.Feed.{Feed}

-- a channel, and the port that feeds it
pub record Target : Type 0 where
  pub channel : ℕ
  pub port : ℕ

abbrev pub target_of : Feed → Target
target_of f = record { channel = f.channel; port = f.port }

abbrev pub row_of : ℕ → Source → ℕ
row_of n (Own port) = n
row_of n (Output child port) = child

abbrev pub port_of : Source → ℕ
port_of (Own port) = port
port_of (Output child port) = port

abbrev pub if_target : Bool → ℕ → ℕ → List Target → List Target
if_target true c port ts = record { channel = c; port = port } ∷ ts
if_target false c port ts = ts

-- what a row feeds among the channels from number c on
abbrev pub targets : (n row c : ℕ) → List Source → List Target
targets n row c [] = []
targets n row c (s ∷ ss) = if_target (nat_eq (row_of n s) row) c (port_of s) (targets n row (suc c) ss)

-- the lists of rows
abbrev pub rows_in : {A : Type 0} → List (Vec A Global) → List (List A)
rows_in rows = map (λ row. row.items) rows

abbrev pub no_feed : Feed
no_feed = record { channel = 0; port = 0; moves = false }

-- where a port's tokens are moved no earlier target of the row has that port
abbrev pub MovesOnce : List Feed → Type 0
MovesOnce fs = (j k : ℕ) → j < k → k < length fs → (get_or fs k no_feed).moves ≡ true → (get_or fs j no_feed).port ≡ (get_or fs k no_feed).port → ⊥

-- one row for each of n children, and one for the own inputs
pub record AreTargets (n : ℕ) (ss : List Source) (rows : List (Vec Feed Global)) : Type 0 where
  pub counted : length rows ≡ n + 1
  pub each : (r : ℕ) → r < n + 1 → map target_of (get_or (rows_in rows) r []) ≡ targets n r 0 ss

pub record AreFeeds (n : ℕ) (ss : List Source) (rows : List (Vec Feed Global)) : Type 0 where
  pub targets : AreTargets n ss rows
  pub moves : (r : ℕ) → r < n + 1 → MovesOnce (get_or (rows_in rows) r [])
