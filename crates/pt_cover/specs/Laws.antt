-- Laws of the tree that is built from the net of a job: each entity has one node.
use Rattle.std.specs.Prelude.{ℕ, List, length}
use Rattle.pt_document.specs.Document.{JobTree}
use Rattle.pt_moml.specs.Reading.{IsJobOf}
use Rattle.pt_net.specs.declared.net.Net.{Net}
use Rattle.pt_net.specs.Net.{IsNetOf}
use Rattle.pt_scopes.specs.Scopes.{net_view}
use Rattle.pt_start.specs.Nested.{IsNested}
use Rattle.pt_node.specs.Shown.{Shown}
use Rattle.pt_trees.specs.Trees.{Starts}
use Rattle.pt_trees.specs.Built.{IsBuilt}
use Rattle.pt_trees.specs.Ports.{AreNumbered}
use Rattle.pt_cover.specs.Leaves.{ActorsAreLeaves, AreStartedByClass}
use Rattle.pt_cover.specs.Told.{AreTold}
use Rattle.pt_cover.specs.Paths.{IsCover, AreApart}

-- in the job of a document only Composites and Modal entities have entities within them
abbrev pub ActorsOfDocumentsAreLeaves : Type 0
ActorsOfDocumentsAreLeaves = (bytes : List ℕ) (job : JobTree) → IsJobOf bytes job → ActorsAreLeaves job

-- in the net of such a job composites stand before what is in them
abbrev pub NetsAreNested : Type 0
NetsAreNested = (job : JobTree) (net : Net) → ActorsAreLeaves job → IsNetOf job net → IsNested (net_view net)

-- in a tree that is built from it each recorded port of the net has its number, once
abbrev pub PortsAreNumbered : Type 0
PortsAreNumbered = (job : JobTree) (net : Net) (starts : Starts) (s : Shown) → ActorsAreLeaves job → IsNetOf job net → AreStartedByClass net starts → IsBuilt net starts 0 s → AreNumbered (length net.recorded.items) s

-- and in the order of these numbers each is the port of the net, at the node of its entity
abbrev pub PortsHavePlaces : Type 0
PortsHavePlaces = (job : JobTree) (net : Net) (starts : Starts) (s : Shown) → ActorsAreLeaves job → IsNetOf job net → AreStartedByClass net starts → IsBuilt net starts 0 s → AreTold net s

-- to each entity of the net leads one path of the tree, and at that path stands the text of its own path, as a fault tells it
abbrev pub TextsAreAtPaths : Type 0
TextsAreAtPaths = (job : JobTree) (net : Net) (starts : Starts) (s : Shown) → ActorsAreLeaves job → IsNetOf job net → AreStartedByClass net starts → IsBuilt net starts 0 s → IsCover net s

-- in the net of a document such a text is that of one entity
abbrev pub PathsAreDistinct : Type 0
PathsAreDistinct = (bytes : List ℕ) (job : JobTree) (net : Net) → IsJobOf bytes job → IsNetOf job net → AreApart net
