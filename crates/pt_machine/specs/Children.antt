-- What stands in a Modal entity.
use Rattle.std.specs.Prelude.{ℕ, List, map, filter, set, Bool, true, ◌||◌, codes, bytes_eq, Option, Some, None}
use Rattle.std.specs.Option.{is_some}
use Rattle.std.specs.List.{list_any}
use Rattle.pt_net.specs.declared.net.Net.{Net}
use Rattle.pt_net.specs.Net.{NetEntityTree, TransparentTree, entity_view, transparent_view}
use Rattle.pt_net.specs.Inside.{is_number}

abbrev pub stands_in : ℕ → NetEntityTree → Bool
stands_in m e = is_number m e.parent

-- the entities that stand in the one of this number, in the order of the document
abbrev pub within : List NetEntityTree → ℕ → List NetEntityTree
within es m = filter (stands_in m) es

abbrev pub is_round : ℕ → TransparentTree → Bool
is_round m c = is_number m c.parent

-- a transparent composite stands in the entity of this number
abbrev pub has_transparent : List TransparentTree → ℕ → Bool
has_transparent cs m = list_any (is_round m) cs

-- with the one marked in which something stands
abbrev pub marked : Option ℕ → List Bool → List Bool
marked None parted = parted
marked (Some m) parted = set parted m true

-- a composite with a director, or a Modal entity
abbrev pub is_opaque : NetEntityTree → Bool
is_opaque e = is_some e.director || bytes_eq e.class (codes "Modal")

-- those of a net
abbrev pub kids_in : Net → ℕ → List NetEntityTree
kids_in net m = within (map entity_view net.entities.items) m

abbrev pub is_parted : Net → ℕ → Bool
is_parted net m = has_transparent (map transparent_view net.transparent.items) m
