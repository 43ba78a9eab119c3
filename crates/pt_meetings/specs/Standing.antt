-- Which trees stand for the entities of a net.
use Rattle.std.specs.Prelude.{◌≡◌, ℕ, List, [], ◌∷◌, Some, slice_get}
use Rattle.pt_meaning.specs.Basics.{Path}
use Rattle.pt_net.specs.declared.net.NetEntity.{NetEntity}
use Rattle.pt_net.specs.Inside.{children_of}
use Rattle.pt_node.specs.View.{Outline, Outlines, Named, end, with, text_at}

-- The node of entity k has the entity's path, and its children are those of the first children of the entity, in order. A node of a library actor has none.
abbrev mutual
  pub StandsFor : List NetEntity → ℕ → Outline → Type 0
  StandsFor es k (Named text hs most ls os) = ((e : NetEntity) × (slice_get es k ≡ Some e) × (e.path ≡ text)) × AllStandFor es (children_of es k) os

  pub AllStandFor : List NetEntity → List ℕ → Outlines → Type 0
  AllStandFor es cs end = Unit {0}
  AllStandFor es [] (with o os) = ⊥
  AllStandFor es (c ∷ cs) (with o os) = StandsFor es c o × AllStandFor es cs os

-- no two nodes of a tree have one text as their path
abbrev pub HasOwnTexts : Outline → Type 0
HasOwnTexts o = (p q : Path) (text : List ℕ) → text_at o p ≡ Some text → text_at o q ≡ Some text → p ≡ q
