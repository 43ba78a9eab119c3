-- What the nodes of the code are that are built from a net: each entity under its path, with its recorded outputs and with how a report tells its channels, as it starts.
use Rattle.std.specs.Prelude.{◌≡◌, ℕ, suc, List, [], ◌∷◌, true, None}
use Rattle.std.specs.List.{Contains}
use Rattle.pt_meaning.specs.Tree as tree
use Rattle.pt_document.specs.declared.refusal.Refusal.{Refusal}
use Rattle.pt_net.specs.declared.net.Net.{Net}
use Rattle.pt_net.specs.declared.net.NetEntity.{NetEntity}
use Rattle.pt_net.specs.Inside.{children_of}
use Rattle.pt_library.specs.declared.library_actor.LibraryActor.{LibraryActor}
use Rattle.pt_node.specs.declared.body.Body.TheVariants as body
use Rattle.pt_node.specs.declared.body.Held.{Held}
use Rattle.pt_past.specs.Recorded.{RecordedPort}
use Rattle.pt_node.specs.Shown.{Shown, Branch, none}
use Rattle.pt_trees.specs.declared.directing.Directing.{Directing}
use Rattle.pt_trees.specs.declared.build_fault.BuildFault.{BuildFault}
use Rattle.pt_trees.specs.declared.build_fault.BuildFault.TheVariants.{Refused, Unbuilt, Memory}
use Rattle.pt_trees.specs.Composite.{trees_of, IsComposite}
use Rattle.pt_trees.specs.Directors.{director_of, IsDirectedBy, composing}
use Rattle.pt_trees.specs.Labels.{labels_of}
use Rattle.pt_trees.specs.Trees.{IsEntity, IsUndirected, around_in, Starts, StartsAs}
use Rattle.pt_trees.specs.Recorded.{recorded_of}
use Rattle.pt_trees.specs.declared.composite_fault.CompositeFault.{CompositeFault}
use Rattle.pt_trees.specs.declared.composite_fault.CompositeFault.TheVariants as composite_fault

-- the node of a library actor that has not fired
abbrev pub held_node : Held → (path : List ℕ) → List RecordedPort → Shown
held_node held path records = Branch (record { past = tree.unfired; body = body.Actor held; records = records; path = path; labels = []; meetings = None; live = true }) none

-- a node of a library actor, as it starts
abbrev pub actor_node : LibraryActor → (path : List ℕ) → List RecordedPort → Shown
actor_node a path records = held_node (record { start = a; actor = a }) path records

mutual
  pub data IsBuilt (net : Net) (starts : Starts) : ℕ → Shown → Type 0 where
    built_actor : (k : ℕ) (e : NetEntity) (a : LibraryActor) → IsEntity net k e → IsUndirected e → StartsAs starts k a → IsBuilt net starts k (actor_node a e.path (recorded_of net k e))
    built_composite : (k : ℕ) (e : NetEntity) (director : Directing) (kids : List Shown) (s : Shown) → IsEntity net k e → IsDirectedBy e director → AreBuilt net starts (children_of net.entities.items k) kids →
        IsComposite director (around_in net starts k e) kids e.path (recorded_of net k e) (labels_of net k e) s → IsBuilt net starts k s

  pub data AreBuilt (net : Net) (starts : Starts) : List ℕ → List Shown → Type 0 where
    none_built : AreBuilt net starts [] []
    more_built : (k : ℕ) (ks : List ℕ) (s : Shown) (ss : List Shown) → IsBuilt net starts k s → AreBuilt net starts ks ss → AreBuilt net starts (k ∷ ks) (s ∷ ss)

-- ---- faults

-- the entity stands below so many composites, each in the one before, from the top on
pub data IsNested (net : Net) : ℕ → ℕ → Type 0 where
  at_top : IsNested net 0 0
  within : (c depth k : ℕ) → IsNested net c depth → Contains (children_of net.entities.items c) k → IsNested net k (suc depth)

-- a composite that its director refuses is refused at its path
pub record IsRefused (net : Net) (starts : Starts) (r : Refusal) : Type 0 where
  pub number : ℕ
  pub entity : NetEntity
  pub at : IsEntity net number entity
  pub director : Directing
  pub directed : IsDirectedBy entity director
  pub kids : List Shown
  pub built : AreBuilt net starts (children_of net.entities.items number) kids
  pub refused : (composing director).IsRefused (around_in net starts number entity) (trees_of kids) r.code
  pub path_is : r.path ≡ entity.path

-- What isn't built: an entity that is neither a library actor nor a composite with a director; a library actor without a start; a composite that doesn't fit its director;
-- a net whose top isn't there, or that is nested deeper than documents are.
pub data IsUnbuilt (net : Net) (starts : Starts) : Type 0 where
  absent : ((e : NetEntity) → IsEntity net 0 e → ⊥) → IsUnbuilt net starts
  undirected : (k : ℕ) (e : NetEntity) → IsEntity net k e → (IsUndirected e → ⊥) → director_of e ≡ None → IsUnbuilt net starts
  unstarted : (k : ℕ) (e : NetEntity) → IsEntity net k e → IsUndirected e → ((a : LibraryActor) → StartsAs starts k a → ⊥) → IsUnbuilt net starts
  misfit : (k : ℕ) (e : NetEntity) (director : Directing) (kids : List Shown) → IsEntity net k e → IsDirectedBy e director → AreBuilt net starts (children_of net.entities.items k) kids →
      (composing director).IsMisfit (around_in net starts k e) (trees_of kids) → IsUnbuilt net starts
  deep : (k : ℕ) → IsNested net k 32 → IsUnbuilt net starts

-- how it is told that a composite of this path isn't built
abbrev pub IsToldAs : CompositeFault → List ℕ → BuildFault → Type 0
IsToldAs composite_fault.Unbuilt path f = f ≡ Unbuilt
IsToldAs (composite_fault.Refused code) path (Refused r) = (r.code ≡ code) × (r.path ≡ path)
IsToldAs (composite_fault.Refused code) path Unbuilt = ⊥
IsToldAs (composite_fault.Refused code) path Memory = Unit {0}
IsToldAs composite_fault.Memory path f = f ≡ Memory

-- when each answer that isn't a node may come
abbrev pub BuildFaultStands : Net → Starts → BuildFault → Type 0
BuildFaultStands net starts (Refused r) = IsRefused net starts r
BuildFaultStands net starts Unbuilt = IsUnbuilt net starts
BuildFaultStands net starts Memory = Unit {0}
