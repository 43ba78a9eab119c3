-- The inside of a composite: its channels, what its director holds, and its children.
use Rattle.std.specs.Prelude.{ℕ, List, [], ◌∷◌}
use Rattle.pt_meaning.specs.Machine.{Fault}

-- where a channel begins: at an own input, or at an output of a child
pub data Source : Type 0 where
  Own : ℕ → Source
  Output : (child port : ℕ) → Source

-- Each channel ends at one place, and channels are numbered by their places: those of the children in order, then the own outputs. Last come those of SDF that end nowhere.
-- So a net is the source of each channel, and the number of places of each child.
pub record Net : Type 0 where
  pub sources : List Source
  pub places : List ℕ

-- what is within a composite: what its director holds (for dataflow the tokens of each channel), and the children
pub record Inside (H S : Type 0) : Type 0 where
  pub held : H
  pub kids : List S

-- stuck places of child i, as places of the composite
abbrev pub prefixed : ℕ → List Fault → List Fault
prefixed i [] = []
prefixed i (f ∷ fs) = record { path = i ∷ f.path; firing = f.firing; code = f.code } ∷ prefixed i fs
