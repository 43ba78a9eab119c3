-- The nodes that are built are the tree of the net.
use Rattle.std.proofs.Common.{◌≡◌, ℕ, zero, suc, List, [], ◌∷◌, ◌++◌, map, refl, sym, subst}
use Rattle.pt_net.specs.declared.net.Net.{Net}
use Rattle.pt_library.specs.declared.library_actor.LibraryActor.{LibraryActor}
use Rattle.pt_past.specs.Recorded.{RecordedPort}
use Rattle.pt_node.specs.Shown.{Shown}
use Rattle.pt_node.specs.View.{node_of}
use Rattle.pt_trees.specs.Composite.{trees_of}
use Rattle.pt_trees.specs.Fresh.{AreEmpty, IsFresh, AllFresh}
use Rattle.pt_trees.specs.Rates.{IsStarted, AllStarted}
use Rattle.pt_trees.specs.Trees.{Starts, AreStarted, IsTree, AreTrees, of_actor, of_composite, no_trees, more_trees}
use Rattle.pt_trees.specs.Built.{IsBuilt, AreBuilt, built_actor, built_composite, none_built, more_built, actor_node}

mutual
  pub built-tree : {net : Net} {starts : Starts} {k : ℕ} {s : Shown} → IsBuilt net starts k s → IsTree net starts k (node_of s)
  built-tree (built_actor k e a at undirected is) = of_actor k e a at undirected is
  built-tree {net = net} {starts = starts} (built_composite k e director kids s at directed all is) =
      subst (λ t. IsTree net starts k t) (sym is.node) (of_composite k e director (trees_of kids) is.core at directed (built-trees all) is.is_core)

  pub built-trees : {net : Net} {starts : Starts} {ks : List ℕ} {ss : List Shown} → AreBuilt net starts ks ss → AreTrees net starts ks (trees_of ss)
  built-trees none_built = no_trees
  built-trees (more_built k ks s ss one all) = more_trees k ks (node_of s) (trees_of ss) (built-tree one) (built-trees all)

-- one child more
pub built-snoc : {net : Net} {starts : Starts} {ks : List ℕ} {ss : List Shown} (k : ℕ) (s : Shown) → AreBuilt net starts ks ss → IsBuilt net starts k s → AreBuilt net starts (ks ++ k ∷ []) (ss ++ s ∷ [])
built-snoc k s none_built one = more_built k [] s [] one none_built
built-snoc k s (more_built j js t ts first all) one = more_built j (js ++ k ∷ []) t (ts ++ s ∷ []) first (built-snoc k s all one)

pub fresh-snoc : (ss : List Shown) (s : Shown) → AllFresh ss → IsFresh s → AllFresh (ss ++ s ∷ [])
fresh-snoc [] s all one = (one, tt)
fresh-snoc (t ∷ ss) s all one = (all.0, fresh-snoc ss s all.1 one)

pub recorded-empty : (f : ℕ → RecordedPort) → ((n : ℕ) → ((f n).trace ≡ []) × ((f n).noted ≡ [])) → (ns : List ℕ) → AreEmpty (map f ns)
recorded-empty f none [] = tt
recorded-empty f none (n ∷ ns) = ((none n).0, (none n).1, recorded-empty f none ns)

-- the node of a library actor is fresh
pub actor-fresh : (a : LibraryActor) (path : List ℕ) (records : List RecordedPort) → AreEmpty records → IsFresh (actor_node a path records)
actor-fresh a path records empty = record { live = refl; fit = (tt, tt, tt); start = (refl, refl); fitting = tt; plans = tt; unrecorded = (empty, tt, tt) }

-- where each start comes from parameters, so does each library actor that is built
one-started : {net : Net} {starts : Starts} {k : ℕ} {s : Shown} → AreStarted starts → IsBuilt net starts k s → IsStarted (node_of s)
one-started started (built_actor k e a at undirected is) = started k a is
one-started started (built_composite k e director kids s at directed all is) = subst (λ t. IsStarted t) (sym is.node) tt

pub all-started : {net : Net} {starts : Starts} {ks : List ℕ} {ss : List Shown} → AreStarted starts → AreBuilt net starts ks ss → AllStarted (trees_of ss)
all-started started none_built i kid e = absurd (cc)
all-started started (more_built k ks s ss one all) zero kid e = let same : node_of s ≡ kid = cc in subst (λ t. IsStarted t) same (one-started started one)
all-started started (more_built k ks s ss one all) (suc i) kid e = all-started started all i kid e
