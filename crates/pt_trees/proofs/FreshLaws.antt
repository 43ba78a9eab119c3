-- What children that are fresh have in common.
use Rattle.std.proofs.Common.{◌≡◌, ℕ, zero, suc, List, [], ◌∷◌, Some, refl, ap, subst}
use Rattle.pt_meaning.specs.Start.{IsAtStart, AllAtStart}
use Rattle.pt_meaning.specs.Streams.{get}
use Rattle.pt_meaning.specs.Tree as tree
use Rattle.pt_laws.specs.Heights.{AllFitting}
use Rattle.pt_laws.specs.StartedRuns.{AllPlans}
use Rattle.pt_library.specs.LibraryActor.{rows}
use Rattle.pt_node.specs.Shown.{Shown, all_of, list_of}
use Rattle.pt_node.specs.View.{Tree, node_of, nodes_of}
use Rattle.pt_node.specs.Live.{AllFit}
use Rattle.pt_trees.specs.Fresh.{AllUnrecorded, AllFresh}
use Rattle.pt_trees.specs.Composite.{trees_of}

-- ---- children as a list

pub list-again : (ss : List Shown) → list_of (all_of ss) ≡ ss
list-again [] = refl
list-again (s ∷ ss) = ap (λ v. s ∷ v) (list-again ss)

pub nodes-list : (ss : List Shown) → tree.list_of (nodes_of (all_of ss)) ≡ trees_of ss
nodes-list [] = refl
nodes-list (s ∷ ss) = ap (λ v. node_of s ∷ v) (nodes-list ss)

pub nodes-are : (ss : List Shown) → nodes_of (all_of ss) ≡ tree.nodes_of (trees_of ss)
nodes-are [] = refl
nodes-are (s ∷ ss) = ap (λ v. tree.more (node_of s) v) (nodes-are ss)

pub all-fit : (ss : List Shown) → AllFresh ss → AllFit (all_of ss)
all-fit [] f = tt
all-fit (s ∷ ss) f = (f.0.fit, all-fit ss f.1)

pub all-start : (ss : List Shown) → AllFresh ss → AllAtStart rows (nodes_of (all_of ss))
all-start [] f = tt
all-start (s ∷ ss) f = (f.0.start, all-start ss f.1)

pub all-fitting : (ss : List Shown) → AllFresh ss → AllFitting (nodes_of (all_of ss))
all-fitting [] f = tt
all-fitting (s ∷ ss) f = (f.0.fitting, all-fitting ss f.1)

pub all-plans : (ss : List Shown) → AllFresh ss → AllPlans (nodes_of (all_of ss))
all-plans [] f = tt
all-plans (s ∷ ss) f = (f.0.plans, all-plans ss f.1)

pub all-unrecorded : (ss : List Shown) → AllFresh ss → AllUnrecorded (all_of ss)
all-unrecorded [] f = tt
all-unrecorded (s ∷ ss) f = (f.0.unrecorded, all-unrecorded ss f.1)

-- one of them is at its start
pub start-at : (ss : List Shown) → AllFresh ss → (i : ℕ) (kid : Tree) → get (trees_of ss) i ≡ Some kid → IsAtStart rows kid
start-at [] f i kid e = absurd (cc)
start-at (s ∷ ss) f zero kid e = let same : node_of s ≡ kid = cc in subst (λ (t : Tree). IsAtStart rows t) same f.0.start
start-at (s ∷ ss) f (suc i) kid e = start-at ss f.1 i kid e
