-- Firings of a node that are noted and recorded together.
use Rattle.std.specs.Prelude.{◌≡◌, ℕ, ℤ, suc, ◌*◌, List, [], ◌∷◌, length, map, take, drop}
use Rattle.pt_meaning.specs.Basics.{Tag}
use Rattle.pt_value.specs.declared.token.Token.TheVariants.{Int}
use Rattle.pt_node.specs.Shown.{Shown}
use Rattle.pt_node.specs.Firing.{noted, recorded_times, recorded_in_turn}

-- Where each of some firings gave as many integers on the one port, their notes may be made together: the node is as if each had been noted and recorded, one after another.
abbrev pub NotesAddUp : Type 0
NotesAddUp = (tag : Tag) (rate : ℕ) (numbers : List ℤ) (k : ℕ) (s : Shown) → length numbers ≡ suc k * rate → recorded_times tag (suc k) (noted tag (map Int numbers ∷ []) s) ≡ recorded_in_turn tag (λ j. map Int (take rate (drop (j * rate) numbers)) ∷ []) (suc k) s
