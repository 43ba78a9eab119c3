-- How far the builder has come.
use Rattle.std.specs.Prelude.{◌≡◌, ℕ, ◌<◌, ◌≤◌, ◌++◌, ◌∷◌, [], List, length}
use Rattle.pt_net.specs.Inside.{AreInsides}
use Rattle.pt_trees.specs.Trees.{AreStarted}
use Rattle.pt_trees.specs.Recorded.{AreRecordLists}
use Rattle.pt_trees.specs.Fresh.{IsFresh}
use Rattle.pt_node.specs.declared.node.Node.{Node}
use Rattle.pt_node.specs.Shown.{shown_node}
use Rattle.pt_builder.specs.declared.builder.Builder.{Builder}
use Rattle.pt_builder.specs.Starts.{starts_in}
use Rattle.pt_within.specs.Within.{AreWithin}
use Rattle.pt_trees.specs.Built.{IsBuilt, IsNested}

-- what is kept of a net is its own
pub record IsPrepared (b : Builder) : Type 0 where
  pub insides : AreInsides b.net.now.entities.items b.net.now.channels.items b.insides.children.items b.insides.places.items b.insides.sources.items
  pub records : AreRecordLists (length b.net.now.entities.items) b.net.now.recorded.items b.records.items
  pub channels : AreWithin (length b.net.now.entities.items) b.net.now.channels.items b.channels.items

-- the entity stands below so many composites, in a net whose library actors are started
pub record IsReached (b : Builder) (k depth : ℕ) : Type 0 where
  pub prepared : IsPrepared b
  pub started : AreStarted (starts_in b)
  pub nested : IsNested b.net.now k depth
  pub bound : depth ≤ 32

-- and what is within it may stand below one more
pub record HasRoom (b : Builder) (k depth : ℕ) : Type 0 where
  pub reached : IsReached b k depth
  pub there : k < length b.net.now.entities.items
  pub room : depth < 32

-- there is one node more, which is that of the entity at its start
pub record IsAdded (b : Builder) (k : ℕ) (old new : List Node) : Type 0 where
  pub node : Node
  pub is_last : new ≡ old ++ node ∷ []
  pub built : IsBuilt b.net.now (starts_in b) k (shown_node node)
  pub fresh : IsFresh (shown_node node)
