-- Firings of a top that are made one after another, on no inputs.
use Rattle.std.specs.Prelude.{◌≡◌, ℕ, zero, suc, ◌<◌, ◌≤◌, [], Bool, true, false}
use Rattle.pt_meaning.specs.Basics.{Tag, Log, silent, log_then}
use Rattle.pt_meaning.specs.Machine.{Done}
use Rattle.pt_meaning.specs.Meetings.{Meets}
use Rattle.pt_meaning.specs.Step.{Step}
use Rattle.pt_value.specs.declared.token.Token.{Token}
use Rattle.pt_records.specs.Kept.{GrewBy}
use Rattle.pt_library.specs.LibraryActor.{rows}
use Rattle.pt_node.specs.Shown.{Shown}
use Rattle.pt_node.specs.View.{Tree, node_of, kept_of}
use Rattle.pt_node.specs.Live.{IsLive}

-- what the first n log
abbrev pub logged_by : ℕ → (logs : ℕ → Log Token) → Log Token
logged_by zero logs = silent
logged_by (suc n) logs = log_then (logged_by n logs) (logs n)

-- The top made n firings at a tag: each is a step that is done, under any meetings and at enough fuel, from the top before it to the top before the next, and what is kept went on by their logs. It may fire again.
pub record MadeInTurn (n : ℕ) (tag : Tag) (old new : Shown) : Type 0 where
  pub tops : ℕ → Tree
  pub logs : ℕ → Log Token
  pub fuel : ℕ
  pub begins : tops 0 ≡ node_of old
  pub ends : tops n ≡ node_of new
  pub steps : (m : Meets) (t : ℕ) → t < n → (k : ℕ) → fuel ≤ k → Step k rows m (tops t) tag [] ≡ Done (tops (suc t)) [] (logs t)
  pub kept : GrewBy (logged_by n logs) (kept_of old) (kept_of new)
  pub live : IsLive new

-- nothing of it is otherwise than before but what is noted of firings that aren't recorded
pub record IsAsBefore (old new : Shown) : Type 0 where
  pub node : node_of new ≡ node_of old
  pub kept : kept_of new ≡ kept_of old
  pub live : IsLive new

-- a block was made, or nothing
abbrev pub BlockTo : ℕ → Tag → Bool → Shown → Shown → Type 0
BlockTo n tag true old new = MadeInTurn n tag old new
BlockTo n tag false old new = IsAsBefore old new
