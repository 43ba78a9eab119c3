-- The relations at each port, as tables.
use Rattle.std.specs.Prelude.{◌≡◌, ℕ, ◌<◌, ◌++◌, List, [], ◌∷◌, length, slice_index_or, slice_set}
use Rattle.pt_net.specs.declared.wire.Wire.{Wire}
use Rattle.pt_net.specs.declared.wire.Wire.TheVariants.{Outside, Inside, Bond}
use Rattle.pt_net.specs.Wires.{outside_of, inside_of}

-- the rows with one number more in the row of a port
abbrev pub appended : List (List ℕ) → ℕ → ℕ → List (List ℕ)
appended table g r = slice_set table g (slice_index_or table g [] ++ r ∷ [])

-- the rows with one wire more
abbrev pub outside_with : List (List ℕ) → Wire → List (List ℕ)
outside_with table (Outside p r) = appended table p r
outside_with table (Inside p r) = table
outside_with table (Bond a b) = table

abbrev pub inside_with : List (List ℕ) → Wire → List (List ℕ)
inside_with table (Outside p r) = table
inside_with table (Inside p r) = appended table p r
inside_with table (Bond a b) = table

-- the numbers of a wire are those of ports and relations
abbrev pub IsWithin : ℕ → ℕ → Wire → Type 0
IsWithin ports relations (Outside p r) = (p < ports) × (r < relations)
IsWithin ports relations (Inside p r) = (p < ports) × (r < relations)
IsWithin ports relations (Bond a b) = (a < relations) × (b < relations)

-- the port of a wire is one of these
abbrev pub IsPortWithin : ℕ → Wire → Type 0
IsPortWithin ports (Outside p r) = p < ports
IsPortWithin ports (Inside p r) = p < ports
IsPortWithin ports (Bond a b) = Unit {0}

-- each port has the relations to which it is linked
pub record AreTied (ports : ℕ) (wires : List Wire) (outside inside : List (List ℕ)) : Type 0 where
  pub count_outside : length outside ≡ ports
  pub count_inside : length inside ≡ ports
  pub out : (g : ℕ) → g < ports → slice_index_or outside g [] ≡ outside_of wires g
  pub within : (g : ℕ) → g < ports → slice_index_or inside g [] ≡ inside_of wires g
