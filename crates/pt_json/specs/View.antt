-- The data that a value stands for, in the words of serde_json's definitions.
use Rattle.std.specs.Prelude.{ℕ, List, [], ◌∷◌, map}
use Rattle.std.specs.Borrow.{Bor}
use Rattle.serde_json.specs.Data.{Data, null, boolean, number, string, array, object, Items, Members, no_members, put}
use Rattle.serde_json.specs.View.{items_of, number_view}
use Rattle.pt_json.specs.declared.value.Value.{Value, fold-Value}
use Rattle.pt_json.specs.declared.value.Value.TheOpen.{Value-F}

-- the members go in one after another, so the last value of a name stays
unfoldable pub members_after : Members → List (Bor (List ℕ) × Data) → Members
members_after found [] = found
members_after found (m ∷ ms) = members_after (put m.0.now m.1 found) ms

-- one level, with each value inside already seen as its data
abbrev pub view_step : Value-F Data → Data
view_step Value-F.Null = null
view_step (Value-F.Bool b) = boolean b
view_step (Value-F.Number x) = number (number_view x)
view_step (Value-F.String s) = string s.now
view_step (Value-F.Array v) = array (items_of v.items)
view_step (Value-F.Object v) = object (members_after no_members v.items)

abbrev pub view : Value → Data
view = fold-Value Data view_step

abbrev pub items_view : List Value → Items
items_view vs = items_of (map view vs)

abbrev pub members_view : List (Bor (List ℕ) × Value) → Members
members_view ms = members_after no_members (map (λ m. (m.0, view m.1)) ms)
