-- Which entity of a net stands at a path of the tree that is built from it.
use Rattle.std.specs.Prelude.{◌≡◌, ℕ, ◌<◌, List, [], ◌∷◌, length, Option, Some, option_map, option_and_then, slice_get}
use Rattle.pt_meaning.specs.Basics.{Path}
use Rattle.pt_net.specs.declared.net.Net.{Net}
use Rattle.pt_net.specs.declared.net.NetEntity.{NetEntity}
use Rattle.pt_net.specs.Inside.{children_of}
use Rattle.pt_node.specs.Shown.{Shown}
use Rattle.pt_node.specs.View.{outline_of, text_at}
use Rattle.pt_trees.specs.Trees.{IsEntity}

-- the entity to which a path leads from entity k: each step goes to the child of that number, in the order of the document
abbrev pub entity_at : List NetEntity → ℕ → Path → Option ℕ
entity_at es k [] = Some k
entity_at es k (i ∷ p) = option_and_then (λ c. entity_at es c p) (slice_get (children_of es k) i)

-- the path of an entity in the document, as a text
abbrev pub text_of : List NetEntity → Option ℕ → Option (List ℕ)
text_of es k = option_and_then (λ n. option_map (λ e. e.path) (slice_get es n)) k

-- one path leads to the entity from the top
pub record HasOnePath (es : List NetEntity) (o : ℕ) : Type 0 where
  pub path : Path
  pub leads : entity_at es 0 path ≡ Some o
  pub alone : (other : Path) → entity_at es 0 other ≡ Some o → other ≡ path

-- the text at a path of the tree is that of the entity to which the path leads, and to each entity leads one
pub record IsCover (net : Net) (s : Shown) : Type 0 where
  pub texts : (p : Path) → text_at (outline_of s) p ≡ text_of net.entities.items (entity_at net.entities.items 0 p)
  pub paths : (o : ℕ) → o < length net.entities.items → HasOnePath net.entities.items o

-- no two entities have one path as a text
abbrev pub AreApart : Net → Type 0
AreApart net = (k j : ℕ) (e d : NetEntity) → IsEntity net k e → IsEntity net j d → e.path ≡ d.path → k ≡ j
