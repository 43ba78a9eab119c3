-- What holds of a steady child, whatever it fires.
use Rattle.std.proofs.Common.{◌≡◌, List, true, sym, ap, ◌∙◌}
use Rattle.pt_meaning.specs.NodeFacts.{core_need, need_of}
use Rattle.pt_meaning.specs.Start.{IsAtStart}
use Rattle.pt_meaning.specs.Tree.{Actor, Composite}
use Rattle.pt_core.specs.Reached.{Always}
use Rattle.pt_core.proofs.ReachedLaws as reached
use Rattle.pt_sdf.specs.SdfActs.{AllSteady}
use Rattle.pt_library.specs.LibraryActor as library
use Rattle.pt_library.specs.LibraryActor.{rows}
use Rattle.pt_library.proofs.SteadyLaws.{told-steady}
use Rattle.pt_node.specs.Shown.{Shown}
use Rattle.pt_node.specs.View.{Tree}
use Rattle.pt_trees.specs.Composite.{trees_of}
use Rattle.pt_trees.specs.Fresh.{AllFresh}
use Rattle.pt_trees.specs.Rates.{is_steady, AreSteady}
use Rattle.pt_trees.proofs.ChildLaws.{actor-always}
use Rattle.pt_trees.proofs.FreshLaws.{start-at}

-- a steady child at its start needs the same
steady-child : (kid : Tree) → IsAtStart rows kid → is_steady kid ≡ true → Always rows (λ node. need_of rows node ≡ need_of rows kid) kid
steady-child (Actor h a b) start e =
    let always = told-steady a (sym (ap library.is_steady start.1) ∙ e) in
    actor-always h a b start.1 (λ node. need_of rows node ≡ library.need b) (λ fs past c g. always.needs fs c g ∙ sym (ap library.need start.1))
steady-child (Composite h c d kids) start e = reached.composite-steady rows h c d kids (ap core_need (sym start.1))

pub all-steady : (ss : List Shown) → AllFresh ss → AreSteady (trees_of ss) → AllSteady rows (trees_of ss)
all-steady ss fresh steady i kid e = steady-child kid (start-at ss fresh i kid e) (steady i kid e)
