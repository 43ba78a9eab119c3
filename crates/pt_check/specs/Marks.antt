-- Marks at the ports that some channels begin or end at.
use Rattle.std.specs.Prelude.{◌≡◌, ℕ, ◌<◌, List, [], length, map, get_or, Bool, false}
use Rattle.std.specs.List.{list_any}
use Rattle.pt_net.specs.declared.net.End.{End}
use Rattle.pt_net.specs.declared.net.NetEntity.{NetEntity}
use Rattle.pt_check.specs.Joined.{is_at}

-- for each entity, whether one of these ends is at each of its ports
abbrev pub AreMarks : List End → List (List Bool) → Type 0
AreMarks ends rows = (k i : ℕ) → i < length (get_or rows k []) → get_or (get_or rows k []) i false ≡ list_any (is_at k i) ends

-- there is a mark for each port of each of these entities
abbrev pub AreSized : List NetEntity → List (List Bool) → Type 0
AreSized es rows = map length rows ≡ map (λ e. length e.ports.items) es
