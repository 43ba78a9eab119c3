-- Which channels the outputs of a child feed, and which the own inputs feed. Of n children row i is that of child i, and row n that of the own inputs.
use Rattle.std.specs.Prelude.{◌≡◌, ℕ, zero, suc, ◌+◌, ◌/◌, ◌<◌, List, [], ◌∷◌, ◌++◌, Bool, true, false, length, map, nat_eq, get_or, set, if◌then◌else◌, Vec, Option, Some, None, min}
use Rattle.std.specs.Global.{Global}
use Rattle.pt_meaning.specs.Streams.{Streams, at}
use Rattle.pt_meaning.specs.Net.{Source, Own, Output}
use Rattle.pt_meaning.specs.Sdf.{number_at}
use Rattle.pt_sdf_parts.specs.declared.feeds.Feed.{Feed}

-- a channel, and the port that feeds it
pub record Target : Type 0 where
  pub channel : ℕ
  pub port : ℕ

abbrev pub target_of : Feed → Target
target_of f = record { channel = f.channel; port = f.port }

abbrev pub row_of : ℕ → Source → ℕ
row_of n (Own port) = n
row_of n (Output child port) = child

abbrev pub port_of : Source → ℕ
port_of (Own port) = port
port_of (Output child port) = port

abbrev pub if_target : Bool → ℕ → ℕ → List Target → List Target
if_target true c port ts = record { channel = c; port = port } ∷ ts
if_target false c port ts = ts

-- what a row feeds among the channels from number c on
abbrev pub targets : (n row c : ℕ) → List Source → List Target
targets n row c [] = []
targets n row c (s ∷ ss) = if_target (nat_eq (row_of n s) row) c (port_of s) (targets n row (suc c) ss)

-- what a row that gave these outputs puts on each channel
abbrev pub row_puts : {T : Type 0} → (n row : ℕ) → Streams T → List Source → Streams T
row_puts n row out [] = []
row_puts n row out (s ∷ ss) = (if nat_eq (row_of n s) row then at out (port_of s) else []) ∷ row_puts n row out ss

-- the outputs on the channels, one target after another from the last to the first
abbrev pub put_back : {T : Type 0} → List Target → Streams T → Streams T → Streams T
put_back [] out X = X
put_back (t ∷ ts) out X = set (put_back ts out X) t.channel (get_or (put_back ts out X) t.channel [] ++ at out t.port)

-- the lists of rows
abbrev pub rows_in : {A : Type 0} → List (Vec A Global) → List (List A)
rows_in rows = map (λ row. row.items) rows

abbrev pub no_feed : Feed
no_feed = record { channel = 0; port = 0; moves = false }

-- where a port's tokens are moved no earlier target of the row has that port
abbrev pub MovesOnce : List Feed → Type 0
MovesOnce fs = (j k : ℕ) → j < k → k < length fs → (get_or fs k no_feed).moves ≡ true → (get_or fs j no_feed).port ≡ (get_or fs k no_feed).port → ⊥

-- one row for each of n children, and one for the own inputs
pub record AreTargets (n : ℕ) (ss : List Source) (rows : List (Vec Feed Global)) : Type 0 where
  pub counted : length rows ≡ n + 1
  pub each : (r : ℕ) → r < n + 1 → map target_of (get_or (rows_in rows) r []) ≡ targets n r 0 ss

pub record AreFeeds (n : ℕ) (ss : List Source) (rows : List (Vec Feed Global)) : Type 0 where
  pub targets : AreTargets n ss rows
  pub moves : (r : ℕ) → r < n + 1 → MovesOnce (get_or (rows_in rows) r [])

-- what a target that gets a copy gets
abbrev pub copy_for : {T : Type 0} → Feed → Streams T → List T
copy_for f out = if f.moves then [] else at out f.port

-- the copies for the first k targets, from the last of them to the first
abbrev pub copies_for : {T : Type 0} → ℕ → List Feed → Streams T → List T
copies_for zero fs out = []
copies_for (suc k) fs out = copy_for (get_or fs k no_feed) out ++ copies_for k fs out

-- each channel and each port is there
pub record AreThere (channel_count port_count : ℕ) (fs : List Feed) : Type 0 where
  pub channels : (k : ℕ) → k < length fs → (get_or fs k no_feed).channel < channel_count
  pub ports : (k : ℕ) → k < length fs → (get_or fs k no_feed).port < port_count

-- no channel has two feeds
abbrev pub AreApart : List Feed → Type 0
AreApart fs = (j k : ℕ) → j < k → k < length fs → (get_or fs j no_feed).channel ≡ (get_or fs k no_feed).channel → ⊥

abbrev pub min_with : ℕ → Option ℕ → ℕ
min_with m None = m
min_with m (Some k) = min m k

-- how many iterations the channels of some targets allow
abbrev pub allowed_by : {T : Type 0} → List ℕ → List Target → Streams T → Option ℕ
allowed_by takes [] X = None
allowed_by takes (t ∷ ts) X = Some (min_with (length (get_or X t.channel []) / number_at takes t.port) (allowed_by takes ts X))
