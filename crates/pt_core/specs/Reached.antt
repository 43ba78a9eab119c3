-- What holds of a node whatever it fires: the nodes that firings and resets lead to.
use Rattle.std.specs.Prelude.{◌≡◌, ℕ, List, Some}
use Rattle.pt_meaning.specs.Tag.{Tag}
use Rattle.pt_meaning.specs.Streams.{Streams, get}
use Rattle.pt_meaning.specs.Log.{Log}
use Rattle.pt_meaning.specs.Machine.{Done}
use Rattle.pt_meaning.specs.Meetings.{Meets}
use Rattle.pt_meaning.specs.Tree.{Rows, Node, reset_of}
use Rattle.pt_meaning.specs.Step.{step_at}

-- a node becomes another by firings that are done, at whatever fuel and on whatever inputs, and by resets
pub data Becomes {T A : Type 0} (rows : Rows T A) : (now later : Node T A) → Type 0 where
  Stays : (node : Node T A) → Becomes rows node node
  Fires : (node next later : Node T A) (k d : ℕ) (m : Meets) (tag : Tag) (inputs out : Streams T) (l : Log T) → step_at rows k d m tag node inputs ≡ Done next out l → Becomes rows next later → Becomes rows node later
  Resets : (node later : Node T A) → Becomes rows (reset_of node) later → Becomes rows node later

-- it holds of the node, and of each that it becomes
abbrev pub Always : {T A : Type 0} → Rows T A → (Node T A → Type 0) → Node T A → Type 0
Always {T} {A} rows P node = (later : Node T A) → Becomes rows node later → P later

-- it holds of each of the list
abbrev pub AllAlways : {T A : Type 0} → Rows T A → (ℕ → Node T A → Type 0) → List (Node T A) → Type 0
AllAlways {T} {A} rows P nodes = (i : ℕ) (node : Node T A) → get nodes i ≡ Some node → Always rows (P i) node
