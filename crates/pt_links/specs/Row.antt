-- The relations at a port, of which a single one is kept in place.
use Rattle.std.specs.Prelude.{ℕ, List, [], ◌∷◌}
use Rattle.pt_links.specs.declared.row.Held.{Held}
use Rattle.pt_links.specs.declared.row.Held.TheVariants.{Nothing, One, Many}

abbrev pub held_relations : Held → List ℕ
held_relations Nothing = []
held_relations (One r) = r ∷ []
held_relations (Many rs) = rs.items
