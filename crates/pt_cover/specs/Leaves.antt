-- What has nothing within it: library actors, in a job and among what the entities of a net start as.
use Rattle.std.specs.Prelude.{◌≡◌, ℕ, Bool, true, false, IsTrue, Some}
use Rattle.pt_document.specs.Document.{EntityTree, EntityTrees, entity, no_entities, one_entity, JobTree}
use Rattle.pt_net.specs.declared.net.Net.{Net}
use Rattle.pt_net.specs.declared.net.NetEntity.{NetEntity}
use Rattle.pt_scopes.specs.Scopes.{is_composite_class}
use Rattle.pt_library.specs.declared.library_actor.LibraryActor.{LibraryActor}
use Rattle.pt_flow_base.specs.declared.params.Params.{Params}
use Rattle.pt_library.specs.LibraryActor.{start}
use Rattle.pt_trees.specs.Trees.{IsEntity, Starts, StartsAs}

-- there is an entity among these
abbrev pub has_entities : EntityTrees → Bool
has_entities no_entities = false
has_entities (one_entity e es) = true

-- of an entity and all within it, only Composites and Modal entities have entities within them
abbrev mutual
  pub HasLeafActors : EntityTree → Type 0
  HasLeafActors (entity own inner) = (IsTrue (has_entities inner) → IsTrue (is_composite_class own.class)) × HaveLeafActors inner

  pub HaveLeafActors : EntityTrees → Type 0
  HaveLeafActors no_entities = Unit {0}
  HaveLeafActors (one_entity e es) = HasLeafActors e × HaveLeafActors es

-- in a job only Composites and Modal entities have entities within them
abbrev pub ActorsAreLeaves : JobTree → Type 0
ActorsAreLeaves job = HasLeafActors job.model

-- what an entity starts as is started by parameters of its own class, as pt_start does it; so Composites and Modal entities start as nothing
abbrev pub AreStartedByClass : Net → Starts → Type 0
AreStartedByClass net starts = (k : ℕ) (e : NetEntity) (a : LibraryActor) → IsEntity net k e → StartsAs starts k a → (params : Params) × (params.class ≡ e.class) × (start params ≡ Some a)
