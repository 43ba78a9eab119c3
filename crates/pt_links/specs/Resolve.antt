-- How the texts of links are looked up.
use Rattle.std.specs.Prelude.{◌≡◌, ℕ, ◌&&◌, ◌++◌, List, Bool, true, Option, Some, nat_eq, codes, position, slice_index_or}
use Rattle.std.specs.List.{Contains}
use Rattle.std.specs.Cmp.Lexicographic.{pointwise}
use Rattle.std.specs.Option.{option_eq}
use Rattle.std.specs.Borrow.{Bor}
use Rattle.indexmap.specs.IndexMap.{get}
use Rattle.pt_document.specs.Document.{entity_name}
use Rattle.pt_links.specs.declared.resolve.Names.{Names}
use Rattle.pt_net.specs.Table.{PortAt, LinkAt, Tables}
use Rattle.pt_survey.specs.Survey.{tables_view}
use Rattle.pt_net.specs.Wires.{names_inside, names_outside, names_relation}

abbrev pub Name : Type 0
Name = Bor (List ℕ)

abbrev pub pair_eq : ℕ × Name → ℕ × Name → Bool
pair_eq x y = nat_eq x.0 y.0 && pointwise nat_eq x.1.now y.1.now

abbrev pub child_eq : Option ℕ × Name → Option ℕ × Name → Bool
child_eq x y = option_eq nat_eq x.0 y.0 && pointwise nat_eq x.1.now y.1.now

-- a port's text in the composite round its entity
abbrev pub outside_text : PortAt → List ℕ
outside_text p = entity_name p.standing.tree ++ codes "." ++ p.port.name

-- by these marks an entity may have links; what has no mark may
abbrev pub is_marked : List Bool → ℕ → Bool
is_marked marks entity = slice_index_or marks entity true

-- one of the links is in this composite
abbrev pub HasLinks : List LinkAt → ℕ → Type 0
HasLinks links c = (l : LinkAt) × Contains links l × (l.composite ≡ c)

-- the three maps have the ports and relations that a text names; of own ports those of composites with links
pub record AreNames (t : Tables) (names : Names) : Type 0 where
  pub inside : (c : ℕ) (text : Name) → HasLinks t.links c → get pair_eq names.inside.numbers (c, text) ≡ position (names_inside c text.now) t.ports
  pub outside : (c : ℕ) (text : Name) → get child_eq names.outside.numbers (Some c, text) ≡ position (names_outside c text.now) t.ports
  pub relations : (c : ℕ) (text : Name) → get pair_eq names.relations.numbers (c, text) ≡ position (names_relation c text.now) t.relations

abbrev pub IsNames : Names → Type 0
IsNames names = AreNames (tables_view names.tables.now) names
